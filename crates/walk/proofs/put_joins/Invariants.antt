-- What is left of the pairs comes out as the whole.
use Rattle.std.proofs.Common.{◌≡◌, ◌≤◌, length}
use Rattle.walk.proofs.Lines.{PairsLeft}
use Rattle.walk.proofs.put_joins.Given as goal

abbrev pub invariant-loop-i : goal.invariant-loop-i
invariant-loop-i l = PairsLeft l.pairs l.initial.lines l.first l.i l.lines l.count × (l.count ≤ 16001) × (length l.lines ≡ length l.initial.lines)

-- What is placed and what is left to place make the whole.
use Rattle.std.proofs.Common.{◌≡◌, ◌-◌, [], length, take}
use Rattle.ordering.specs.Sheet.{pairs}
use Rattle.ordering.specs.Finding.{grow}
use Rattle.precedence.proofs.place_all.Given as goal

abbrev pub invariant-loop-n : goal.invariant-loop-n
invariant-loop-n l = (length l.list ≡ 8) × (grow (pairs l.sheet) 8 [] ≡ grow (pairs l.sheet) (8 - l.n) (take l.n l.list))

-- What is left to search equals the whole.
use Rattle.std.proofs.Common.{◌≡◌, ◌+◌, ◌-◌}
use Rattle.logic.specs.Search.{from, first_of}
use Rattle.logic.specs.Facts.{terms}
use Rattle.doubled.specs.Doubled.{two_in}
use Rattle.doubled.proofs.lowest.Given as goal

abbrev pub invariant-loop-t : goal.invariant-loop-t
invariant-loop-t l = first_of (two_in l.n l.s.single l.s.link) (terms l.n) ≡ first_of (two_in l.n l.s.single l.s.link) (from (l.n + 1 - l.t) l.t)

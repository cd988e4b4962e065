-- The sizes from m on answer for all. Assumes nothing.
use Rattle.std.proofs.Common.{◌≡◌, ◌-◌}
use Rattle.logic.specs.Search.{from, first_of}
use Rattle.between_search.specs.Search.{size_found}
use Rattle.between_seek.specs.Answers.{query_in}
use Rattle.between_seek.proofs.heap_found.Given as goal

abbrev pub invariant-loop-m : goal.invariant-loop-m
invariant-loop-m l =
    first_of (size_found (query_in l.base l.between)) (from (l.m-end - 1) 1) ≡ first_of (size_found (query_in l.base l.between)) (from (l.m-end - l.m) l.m)

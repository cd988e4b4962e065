-- What is left to follow, with the steps made, is the whole; the terms passed are those of the steps made.
use Rattle.std.proofs.Common.{◌≡◌, ℕ, ◌+◌, ◌-◌, ◌≤◌, ltb}
use Rattle.logic.specs.Heap.{iterate}
use Rattle.logic.specs.Rules.{next}
use Rattle.rows.specs.Bits.{bit}
use Rattle.facts.specs.Path.{links_in}
use Rattle.link_steps.specs.Cycle.{steps_to}
use Rattle.link_steps.proofs.follow.Given as goal

abbrev pub invariant-loop-steps : goal.invariant-loop-steps
invariant-loop-steps l = record {
  within : l.term.0 ≤ 16;
  led : l.term.0 ≡ iterate (next l.n (links_in l.link)) l.steps l.fn.c.0;
  left : steps_to l.n (links_in l.link) l.until.0 l.left l.fn.c.0 ≡ l.steps + steps_to l.n (links_in l.link) l.until.0 (l.left - l.steps) l.term.0;
  passed : (y : ℕ) → bit l.passed y ≡ ltb (steps_to l.n (links_in l.link) y l.steps l.fn.c.0) l.steps;
}

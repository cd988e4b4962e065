-- The rows below a are held.
use Rattle.std.proofs.Common.{◌≡◌, ℕ, true}
use Rattle.rows.specs.Square.{square}
use Rattle.facts.specs.Path.{rep_of}
use Rattle.covering.proofs.Held.{Below}
use Rattle.covering.proofs.rows_held.Given as goal

abbrev pub invariant-loop-a : goal.invariant-loop-a
invariant-loop-a l = Below (λ (a : ℕ). (b : ℕ) → square l.rows a b ≡ true → square l.others (rep_of l.reps a) (rep_of l.reps b) ≡ true) l.a

-- The numbers below b are held.
use Rattle.std.proofs.Common.{◌≡◌, ℕ, true}
use Rattle.rows.specs.Bits.{bit}
use Rattle.rows.specs.Square.{row_of}
use Rattle.facts.specs.Path.{rep_of}
use Rattle.covering.proofs.Held.{Below}
use Rattle.covering.proofs.row_held.Given as goal

abbrev pub invariant-loop-b : goal.invariant-loop-b
invariant-loop-b l = Below (λ (b : ℕ). bit l.row b ≡ true → row_of l.far (rep_of l.reps b) ≡ true) l.b

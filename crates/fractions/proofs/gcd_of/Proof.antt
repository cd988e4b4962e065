-- Each remainder keeps the greatest common divisor. Assumes nothing.
use native.Mathlib.Omega.{arith}
use native.Mathlib.Nat.{mod-lt}
use borrow.Author.Rules.{rules}
use mathlib.Core.Path.{◌≡◌, refl, sym, ◌∙◌}
use Rattle.fractions.specs.Fractions.{gcd}
use Rattle.fractions.proofs.Shares.{gcd-zero, gcd_next}
use Rattle.fractions.proofs.gcd_of.Statement.{statement}
use Rattle.fractions.proofs.gcd_of.Tie as tie

abbrev invariant-loop-b : tie.invariant-loop-b
invariant-loop-b first second a₀ b₀ a b = gcd a b ≡ gcd first second

abbrev decreases-loop-b : tie.decreases-loop-b
decreases-loop-b first second a₀ b₀ a b = b

pub gcd_of_spec : {M : Type 1} → statement M
gcd_of_spec =
    tie.close
    (tie.spec
    invariant-loop-b
    decreases-loop-b
    -- loop-holds
    (λ c. refl)
    -- rem-rest
    (λ c. search rules)
    -- loop-less
    (λ c. mod-lt c.loop-b.a (omega arith))
    -- loop-again
    (λ c.
    sym (gcd_next c.loop-b.a c.loop-b.b (omega arith)) ∙ c.loop-b.invariant)
    -- returns
    (λ c.
    sym (gcd-zero c.loop-b.a c.loop-b.b (omega arith)) ∙ c.loop-b.invariant))

-- What is found out, case by case.
use mathlib.Core.Path.{◌≡◌, refl, ap}
use mathlib.Core.Bool.{true, true≢false, false≢true}
use Rattle.kinds.specs.Kinds.{is_refuted, is_unknown}
use Rattle.kinds.specs.declared.Kind.{Kind}
use Rattle.kinds.specs.declared.Kind.TheVariants as kind

-- the cases differ
pub refuted_open : kind.Refuted ≡ kind.Open → ⊥
refuted_open e = true≢false (ap is_refuted e)

pub refuted_unknown : kind.Refuted ≡ kind.Unknown → ⊥
refuted_unknown e = true≢false (ap is_refuted e)

pub open_unknown : kind.Open ≡ kind.Unknown → ⊥
open_unknown e = false≢true (ap is_unknown e)

pub refuted_is : (k : Kind) → is_refuted k ≡ true → k ≡ kind.Refuted
refuted_is kind.Refuted e = refl
refuted_is kind.Open e = absurd (false≢true e)
refuted_is kind.Unknown e = absurd (false≢true e)

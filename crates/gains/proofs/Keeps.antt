-- What is best is what was best before, or what is offered.
use Prim.Native.Nat.{ℕ}
use mathlib.Core.Path.{◌≡◌, sym, subst}
use mathlib.Core.Bool.{Bool, true, false, cond}
use lib.Dec.{ltb}
use Rattle.std.specs.Prelude.{Option, Some, None}
use Rattle.logic.specs.Facts.{Facts}
use Rattle.rules.specs.declared.Move.{Move}
use Rattle.units.specs.Proposes.{Applies}
use Rattle.gains.specs.Keeps.{better, ProposesBest}
use Rattle.gains.specs.declared.Best.{Best}

module _ (n : ℕ) (s : Facts) (best u : Option Best) where
  pub kept_same : u ≡ best → ProposesBest n s best → ProposesBest n s u
  kept_same e h = subst (ProposesBest n s) (sym e) h

  taken : (score : ℕ) (place : Move) (b : Best) → Applies n s b.place → Applies n s place → (t : Bool) →
      ProposesBest n s (cond t (Some (record { score = score; place = place })) (Some b))
  taken score place b h k true = k
  taken score place b h k false = h

  either : (score : ℕ) (place : Move) (o : Option Best) → ProposesBest n s o → Applies n s place → ProposesBest n s (better o score place)
  unfolding better
  either score place None h k = k
  either score place (Some b) h k = taken score place b h k (ltb b.score score)

  pub kept_better : (score : ℕ) (place : Move) → u ≡ better best score place → ProposesBest n s best → Applies n s place → ProposesBest n s u
  kept_better score place e h k = subst (ProposesBest n s) (sym e) (either score place best h k)

-- What each return of the settling says.
use Prim.Native.Nat.{ℕ}
use mathlib.Core.Path.{◌≡◌, refl, sym, ap, ◌∙◌}
use mathlib.Core.Bool.{true, false, true≢false}
use mathlib.Core.List.{List}
use Rattle.logic.specs.Query.{Query}
use Rattle.logic.specs.Facts.{Facts}
use Rattle.logic.specs.Walk.{order_of, walk, saturation}
use Rattle.kinds.specs.Kinds.{is_unknown}
use Rattle.plain_steps.specs.Walks.{WalksTo}
use Rattle.kinds.specs.declared.Kind.{Kind}
use Rattle.kinds.specs.declared.Kind.TheVariants as kind
use Rattle.plain_steps.proofs.Cases.{refuted_open, refuted_unknown, open_unknown}
use Rattle.decide.specs.Tells.{Decides}

module _ (q : Query) (order : List ℕ) (k : ℕ) (s : Facts) where
  pub settled_plain : (w : Kind) (p : Facts) → WalksTo q order k s true w p → is_unknown w ≡ false → WalksTo q order k s false w p
  settled_plain w p told f =
      record { refuted = told.refuted; ends = told.ends; gives_up = λ e. absurd (true≢false (sym (ap is_unknown e) ∙ f)) }

  pub settled_refuted : Decides q s false → (p : Facts) → WalksTo q order k s false kind.Refuted p
  settled_refuted d p = record { refuted = λ e. d.no_right refl; ends = λ e. absurd (refuted_open e); gives_up = λ e. absurd (refuted_unknown e) }

  pub settled_open : (p : Facts) → walk q (order_of order) k s ≡ saturation p → WalksTo q order k s false kind.Open p
  settled_open p h = record { refuted = λ f. absurd (refuted_open (sym f)); ends = λ f. h; gives_up = λ f. absurd (open_unknown f) }

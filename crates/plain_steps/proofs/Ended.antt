-- What plain steps find at a path that is seen through.
use Prim.Native.Nat.{ℕ}
use mathlib.Core.Path.{◌≡◌, refl, sym}
use mathlib.Core.Bool.{Bool, true, false, ◌&&◌, false≢true}
use mathlib.Core.List.{List}
use Rattle.logic.specs.Query.{Query}
use Rattle.logic.specs.Facts.{Facts, Line}
use Rattle.logic.specs.Walk.{clashing, saturated, look, order_of}
use Rattle.theory.proofs.Query.Tied.{Accepted}
use Rattle.theory.proofs.Walks.Derives.{seen-clashing}
use Rattle.theory.proofs.Calls.Decision.{Known, clash-none}
use Rattle.walk.proofs.Walks.{walk-saturated}
use Rattle.plain_steps.specs.Walks.{WalksTo}
use Rattle.kinds.specs.declared.Kind.TheVariants as kind
use Rattle.plain_steps.proofs.Cases.{refuted_open, refuted_unknown, open_unknown}

pub both_left : (a b : Bool) → a && b ≡ true → a ≡ true
both_left true b e = refl
both_left false b e = absurd (false≢true e)

module _ {q : Query} (order : List ℕ) (ok : Accepted q) (k : ℕ) (s : Facts) (known : Known q s) (limited : Bool) where
  pub walks_nothing : (w : Facts) → limited ≡ true → WalksTo q order k s limited kind.Unknown w
  walks_nothing w l = record { refuted = λ e. absurd (refuted_unknown (sym e)); ends = λ e. absurd (open_unknown (sym e)); gives_up = λ e. l }

  pub walks_clash : (w : Facts) (l : Line) → look q (order_of order) s ≡ clashing l → WalksTo q order k s limited kind.Refuted w
  walks_clash w l h =
      record {
        refuted = λ e. clash-none q ok s known l (seen-clashing q (order_of order) s h);
        ends = λ e. absurd (refuted_open e);
        gives_up = λ e. absurd (refuted_unknown e);
      }

  pub walks_saturated : look q (order_of order) s ≡ saturated → WalksTo q order k s limited kind.Open s
  walks_saturated h =
      record { refuted = λ e. absurd (refuted_open (sym e)); ends = λ e. walk-saturated q (order_of order) k s h; gives_up = λ e. absurd (open_unknown e) }

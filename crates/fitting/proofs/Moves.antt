-- What the code finds of the first number of a line, of which it has read w and counted l links.
use Prim.Native.Nat.{ℕ, ◌+◌, ◌/◌, ◌%◌, ◌≤◌, ◌<◌}
use mathlib.Core.Path.{◌≡◌, sym, ap, ◌∙◌, subst}
use mathlib.Core.Option.{none, some}
use Rattle.logic.specs.Rules.{Rule, rule_of, Triple, move, move_of}
use Rattle.checking.proofs.Moves.{move_of_beyond, move_of_unruled, move_of_named}

module _ (links b : ℕ) (t : Triple) (w l : ℕ) (w_is : w ≡ b) (l_is : l ≡ links) where
  abbrev link : ℕ
  link = w / 16 + 1

  link-is : link ≡ b / 16 + 1
  link-is = ap (λ (k : ℕ). k / 16 + 1) w_is

  pub named_beyond : l < link → none ≡ move_of links b t
  named_beyond h = sym (move_of_beyond links b t (subst (λ (k : ℕ). links < k) link-is (subst (λ (j : ℕ). j < link) l_is h)))

  pub named_is : link ≤ l → (r : Rule) → some r ≡ rule_of (b % 16) → some (move link r t) ≡ move_of links b t
  named_is h r e =
      ap (λ (k : ℕ). some (move k r t)) link-is
      ∙ sym (move_of_named links b t r (subst (λ (k : ℕ). k ≤ links) link-is (subst (λ (j : ℕ). link ≤ j) l_is h)) (sym e))

pub named_unruled : (links b : ℕ) (t : Triple) → none ≡ rule_of (b % 16) → none ≡ move_of links b t
named_unruled links b t e = sym (move_of_unruled links b t (sym e))

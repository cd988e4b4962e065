-- The order list: eight bytes, among which each rule is named.
use Prim.Native.Nat.{ℕ, ◌-◌}
use mathlib.Core.Path.{◌≡◌, refl}
use mathlib.Core.Bool.{Bool, true, false, ◌||◌}
use mathlib.Core.List.{List, [], ◌∷◌}
use lib.ListN.{length}
use lib.Dec.{eqb}
use Rattle.std.specs.List.{list_any}
use Rattle.theory.proofs.Basics.Compare.{eqb_turned}
use borrow.Author.Tests.{eq-eqb, ne_eqb}
use Rattle.logic.specs.Search.{◌and◌, ◌or◌, from, any, all}
use Rattle.logic.specs.Query.{is_order}

abbrev pub named : List ℕ → ℕ → Bool
named order r = any (eqb r) order

pub named_contained : (order : List ℕ) (r : ℕ) → named order r ≡ list_any (λ y. eqb y r) order
unfolding any ◌or◌
named_contained [] r = refl
named_contained (x ∷ order) r = rw (eqb_turned r x, named_contained order r) (same (eqb x r) (list_any (λ y. eqb y r) order))
  where
    same : (a b : Bool) → a or b ≡ a || b
    same true b = refl
    same false b = refl

pub other_length : (order : List ℕ) → (length order ≡ 8 → ⊥) → is_order order ≡ false
unfolding is_order ◌and◌
other_length order h = rw (ne_eqb _ _ h)

pub all_named : (order : List ℕ) → length order ≡ 8 → is_order order ≡ all (named order) (from (9 - 1) 1)
unfolding is_order ◌and◌
all_named order h = rw (eq-eqb _ _ h)

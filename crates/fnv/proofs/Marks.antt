-- The mark octet by octet, and known values. Assumes nothing.
use Prim.Native.Nat.{ℕ}
use mathlib.Core.Path.{◌≡◌, refl, ap, ◌∙◌}
use mathlib.Core.List.{List, [], ◌∷◌}
use lib.Bits.{bit_xor}
use Rattle.std.specs.List.{fold}
use Rattle.fnv.specs.Mark.{wrapping_product, marked, mark_from, mark_of}

-- the mark as a fold
pub fold_marks : (hash : ℕ) (octets : List ℕ) → fold marked hash octets ≡ mark_from hash octets
unfolding mark_from
fold_marks hash [] = refl
fold_marks hash (octet ∷ octets) = fold_marks (marked hash octet) octets

-- one octet, of the wider number that it is read as
pub step_marks : {wide octet r : ℕ} (hash : ℕ) → wide ≡ octet → r ≡ wrapping_product (bit_xor wide hash) 16777619 → r ≡ marked hash octet
unfolding marked
step_marks hash e h = h ∙ ap (λ (o : ℕ). wrapping_product (bit_xor o hash) 16777619) e

-- values of the public test vectors: of nothing, "a", "b", "foobar"
pub public_values :
    (mark_of [] ≡ 2166136261) × (mark_of (97 ∷ []) ≡ 3826002220) × (mark_of (98 ∷ []) ≡ 3876335077)
    × (mark_of (102 ∷ 111 ∷ 111 ∷ 98 ∷ 97 ∷ 114 ∷ []) ≡ 3214735720)
unfolding mark_of mark_from marked
public_values = (refl, refl, refl, refl)

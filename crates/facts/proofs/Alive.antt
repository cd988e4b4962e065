-- The terms not replaced, term after term.
use Prim.Native.Nat.{ℕ, suc, ◌+◌, ◌≤◌}
use native.Mathlib.Omega.{arith}
use native.Mathlib.Numerals.{add-one}
use mathlib.Core.Path.{◌≡◌, refl, sym, ap, ◌∙◌, fun_ext}
use mathlib.Core.Bool.{Bool, true, false, cond, true≢false}
use mathlib.Core.List.{List}
use lib.ListN.{get_or}
use lib.Dec.{ltb, eqb}
use lib.Bits.{bit_and}
use borrow.Author.Tests.{le-ltb, ltb-false}
use Rattle.logic.specs.Search.{◌and◌, ◌or◌}
use Rattle.logic.specs.Facts.{live}
use Rattle.rows.specs.Bits.{bit}
use Rattle.facts.specs.Path.{rep_of, replaced_by, path_as}
use Rattle.rows.proofs.Bits.{bit-none, bit-and}
use Rattle.facts.proofs.Rep.{rep_in}
use Rattle.rows.proofs.Fill.{Filled}
use Rattle.rows.proofs.Turning.{filled_bit}

-- a number that stands for itself
unfoldable pub itself : List ℕ → ℕ → Bool
itself rep t = eqb (rep_of rep t) t

pub itself_more : (rep : List ℕ) (t : ℕ) → t ≤ 16 → (cur next : ℕ) (wanted : Bool) → wanted ≡ eqb (get_or rep t 0) t →
    ((i : ℕ) → bit next i ≡ bit cur i or (eqb i t and wanted)) → Filled (itself rep) (bit 0) t (bit cur) → Filled (itself rep) (bit 0) (t + 1) (bit next)
unfolding itself
itself_more rep t h cur next wanted w = filled_bit (itself rep) t cur next wanted (w ∙ ap (λ (r : ℕ). eqb r t) (sym (rep_in rep t h)))

-- of these, the terms
pub live_all : (n : ℕ) → n ≤ 16 → (rep : List ℕ) (cur among : ℕ) → ((i : ℕ) → bit among i ≡ ltb 0 i and ltb i (n + 1)) →
    Filled (itself rep) (bit 0) 17 (bit cur) → bit (bit_and cur among) ≡ live n (replaced_by rep)
unfolding itself live replaced_by ◌and◌
live_all n h rep cur among e m = fun_ext told
  where
    both : (a b c d z : Bool) → z ≡ false → (c ≡ false → b ≡ false) → (cond c d z) and (a and b) ≡ (a and b) and d
    both true true true true z f g = refl
    both true true true false z f g = refl
    both true true false d z f g = let i : true ≡ false = g refl in absurd (true≢false i)
    both true false true true z f g = refl
    both true false true false z f g = refl
    both true false false d z f g = rw f
    both false b true true z f g = refl
    both false b true false z f g = refl
    both false b false d z f g = rw f

    told : (x : ℕ) → bit (bit_and cur among) x ≡ live n (replaced_by rep) x
    told x =
        bit-and cur among x ∙ rw (m x, e x, add-one n)
        (both (ltb 0 x) (ltb x (suc n)) (ltb x 17) (eqb (rep_of rep x) x) (bit 0 x) (bit-none x) (λ f. let g = ltb-false x 17 f in le-ltb x (suc n) (omega arith)))

-- the same of a path: whether a term is replaced is all that is asked of it
pub live_path : (n : ℕ) → n ≤ 16 → (rep : List ℕ) (cur among : ℕ) → ((i : ℕ) → bit among i ≡ ltb 0 i and ltb i (n + 1)) →
    Filled (itself rep) (bit 0) 17 (bit cur) → (single : Bool) (link reach : List ℕ) → bit (bit_and cur among) ≡ live n (path_as single rep link reach)
unfolding live replaced_by
live_path n h rep cur among e m single link reach = live_all n h rep cur among e m

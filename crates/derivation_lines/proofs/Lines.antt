-- The lines of a derivation's bytes, one by one.
use Prim.Native.Nat.{ℕ, zero, suc, ◌+◌, ◌*◌, ◌≤◌, ◌<◌}
use native.Mathlib.Omega.{arith}
use mathlib.Core.Path.{◌≡◌, refl, sym, ap, ◌∙◌}
use mathlib.Core.Bool.{Bool, true, false, not, ◌&&◌}
use mathlib.Core.List.{List, [], ◌∷◌}
use mathlib.Core.Option.{none, some}
use lib.ListN.{length, get_or, take, drop}
use lib.Seq.{get_or-drop, drop-cons}
use lib.Pointwise.{pointwise}
use lib.Dec.{eqb, ltb, leb}
use borrow.Author.Tests.{eq-eqb, ne_eqb, lt-ltb, le-ltb, leb-true, leb-false, eqb-true, ltb-false}
use Rattle.logic.specs.Search.{◌or◌, at}
use Rattle.logic.specs.Facts.{Line, line}
use Rattle.logic.specs.Derivation.{lines_from, lines_in}
use Rattle.rows.proofs.Selections.{and_four}
use Rattle.checking.specs.Fitting.{same_line}
use Rattle.checking.specs.CheckCall.{count_in, misshapen}
use Rattle.checking.proofs.Claims.{count_lines}
use Rattle.derivation_lines.specs.Lines.{line_at, is_line, shapely, Shaped}

-- Lists by places from 1

at_none : {A : Type 0} (xs : List A) (i : ℕ) → length xs < i → at xs i ≡ none
unfolding at
at_none xs zero h = refl
at_none [] (suc i) h = refl
at_none (x ∷ xs) (suc zero) h = absurd (omega arith)
at_none (x ∷ xs) (suc (suc i)) h = at_none xs (suc i) (omega arith)

pub drop-some : {A : Type 0} (xs : List A) (i : ℕ) (a : A) → at xs (suc i) ≡ some a → drop i xs ≡ a ∷ drop (suc i) xs
unfolding at
drop-some [] i a h = let z : ◌≡◌ {A = ℕ} 0 1 = cc in absurd (omega arith)
drop-some (x ∷ xs) zero a h = let e : x ≡ a = cc in ap (λ (y : _). y ∷ xs) e
drop-some (x ∷ xs) (suc i) a h = drop-some xs i a h

pub drop-none : {A : Type 0} (xs : List A) (i : ℕ) → at xs (suc i) ≡ none → drop i xs ≡ []
unfolding at
drop-none [] zero h = refl
drop-none [] (suc i) h = refl
drop-none (x ∷ xs) zero h = let z : ◌≡◌ {A = ℕ} 0 1 = cc in absurd (omega arith)
drop-none (x ∷ xs) (suc i) h = drop-none xs i h

-- the line whose bytes stand at a place
abbrev pub line_from : List ℕ → ℕ → Line
line_from bytes p = line (get_or bytes p 0) (get_or bytes (p + 1) 0) (get_or bytes (p + 2) 0) (get_or bytes (p + 3) 0)

from_dropped : (bytes : List ℕ) (k p r : ℕ) → r ≡ k + p → line_from (drop k bytes) p ≡ line_from bytes r
from_dropped bytes k p r e =
    let a = get_or-drop k bytes p 0 in
    let b = get_or-drop k bytes (p + 1) 0 in
    let c = get_or-drop k bytes (p + 2) 0 in
    let d = get_or-drop k bytes (p + 3) 0 in
    let f : k + (p + 1) ≡ r + 1 = omega arith in
    let g : k + (p + 2) ≡ r + 2 = omega arith in
    let h : k + (p + 3) ≡ r + 3 = omega arith in
    rw (a, b, c, d, f, g, h, sym e) refl

lines_at : (k : ℕ) (bytes : List ℕ) (i : ℕ) → i < k → at (lines_from k bytes) (suc i) ≡ some (line_from bytes (4 * i))
unfolding lines_from at
lines_at zero bytes i h = absurd (omega arith)
lines_at (suc k) bytes zero h = refl
lines_at (suc k) bytes (suc i) h = lines_at k (drop 4 bytes) i (omega arith) ∙ ap some (from_dropped bytes 4 (4 * i) (4 * suc i) (omega arith))

pub line_there : (bytes : List ℕ) (count i : ℕ) → Shaped bytes count → i < count → line_at bytes i ≡ some (line_from bytes (4 * i + 2))
unfolding line_at lines_in count_in
line_there bytes count i s h =
    lines_at (256 * get_or bytes 0 0 + get_or bytes 1 0) (drop 2 bytes) i (omega (arith, s.counted)) ∙ ap some (from_dropped bytes 2 (4 * i) (4 * i + 2) (omega arith))

pub line_past : (bytes : List ℕ) (count i : ℕ) → Shaped bytes count → count ≤ i → line_at bytes i ≡ none
unfolding line_at
line_past bytes count i s h = at_none (lines_in bytes) (suc i) (omega (arith, count_lines bytes, s.counted))

-- a line that is read is one of the count
pub line_within : (bytes : List ℕ) (count i : ℕ) (l : Line) → Shaped bytes count → line_at bytes i ≡ some l → i < count
line_within bytes count i l s h = below (leb count i) refl
  where
    below : (b : Bool) → leb count i ≡ b → i < count
    below true e = let z : none ≡ some l = sym (line_past bytes count i s (leb-true count i e)) ∙ h in let y : ◌≡◌ {A = ℕ} 0 1 = cc in absurd (omega arith)
    below false e = leb-false count i e

-- The four numbers of a join line

and_all : (a b c d : Bool) → a && (b && (c && (d && true))) ≡ ((a && b) && c) && d
and_all true true true true = refl
and_all true true true false = refl
and_all true true false d = refl
and_all true false c d = refl
and_all false b c d = refl

taken : (xs : List ℕ) (p : ℕ) → p + 4 ≤ length xs → take 4 (drop p xs) ≡ get_or xs p 0 ∷ get_or xs (p + 1) 0 ∷ get_or xs (p + 2) 0 ∷ get_or xs (p + 3) 0 ∷ []
taken xs p h =
    rw (drop-cons xs p 0 (omega (arith, h)), drop-cons xs (suc p) 0 (omega (arith, h)), drop-cons xs (suc (suc p)) 0 (omega (arith, h)), drop-cons xs (suc (suc (suc p))) 0 (omega (arith, h)))
    (let e : suc p ≡ p + 1 = omega arith in
    let f : suc (suc p) ≡ p + 2 = omega arith in
    let g : suc (suc (suc p)) ≡ p + 3 = omega arith in
    rw (g, f, e) refl)

four_bytes : (xs : List ℕ) (p a b c d : ℕ) → p + 4 ≤ length xs →
    pointwise eqb (take 4 (drop p xs)) (a ∷ b ∷ c ∷ d ∷ []) ≡ ((eqb (get_or xs p 0) a && eqb (get_or xs (p + 1) 0) b) && eqb (get_or xs (p + 2) 0) c) && eqb (get_or xs (p + 3) 0) d
four_bytes xs p a b c d h =
    ap (λ (ys : List ℕ). pointwise eqb ys (a ∷ b ∷ c ∷ d ∷ [])) (taken xs p h)
    ∙ and_all (eqb (get_or xs p 0) a) (eqb (get_or xs (p + 1) 0) b) (eqb (get_or xs (p + 2) 0) c) (eqb (get_or xs (p + 3) 0) d)

module _ (bytes : List ℕ) (count i kept replaced : ℕ) (s : Shaped bytes count) where
  pub join_past : count ≤ i → false ≡ is_line (line_at bytes i) (line 10 kept replaced 0)
  unfolding is_line
  join_past h = sym (rw (line_past bytes count i s h) refl)

  pub join_there : (p m : ℕ) → p ≡ 4 * i + 2 → m ≡ 4 → i < count →
      pointwise eqb (take m (drop p bytes)) (10 ∷ kept ∷ replaced ∷ 0 ∷ []) ≡ is_line (line_at bytes i) (line 10 kept replaced 0)
  unfolding is_line same_line
  join_there p m e f h =
      rw (e, f)
      (four_bytes bytes (4 * i + 2) 10 kept replaced 0 (omega (arith, s.long, h))
      ∙ and_four (eqb (get_or bytes (4 * i + 2) 0) 10) (eqb (get_or bytes (4 * i + 2 + 1) 0) kept) (eqb (get_or bytes (4 * i + 2 + 2) 0) replaced) (eqb (get_or bytes (4 * i + 2 + 3) 0) 0)
      ∙ sym (rw (line_there bytes count i s h) refl))

-- The shape

module _ (bytes : List ℕ) where
  pub shape_short : length bytes < 2 → false ≡ shapely bytes
  unfolding shapely misshapen ◌or◌
  shape_short h = sym (rw (ne_eqb (length bytes) (2 + 4 * count_in bytes) (λ e. omega arith)) refl)

  shape_is : (c : ℕ) → c ≡ count_in bytes → eqb (length bytes) (2 + 4 * c) && leb c 16000 ≡ shapely bytes
  unfolding shapely misshapen ◌or◌
  shape_is c e = ap (λ (k : ℕ). eqb (length bytes) (2 + 4 * k) && leb k 16000) e
      ∙ table (eqb (length bytes) (2 + 4 * count_in bytes)) (leb (count_in bytes) 16000) (ltb 16000 (count_in bytes)) (flip (count_in bytes))
    where
      flip : (k : ℕ) → leb k 16000 ≡ not (ltb 16000 k)
      flip k = go (leb k 16000) refl
        where
          go : (b : Bool) → leb k 16000 ≡ b → b ≡ not (ltb 16000 k)
          go true e = sym (ap not (le-ltb 16000 k (leb-true k 16000 e)))
          go false e = sym (ap not (lt-ltb 16000 k (leb-false k 16000 e)))

      table : (a b d : Bool) → b ≡ not d → a && b ≡ not (not a or d)
      table true b d h = h
      table false b d h = refl

  -- by the count as it is read: the length first, and then the limit
  pub shape_bound : (c : ℕ) → c ≡ count_in bytes → length bytes ≡ 2 + 4 * c → leb c 16000 ≡ shapely bytes
  shape_bound c e h = sym (ap (λ (b : Bool). b && leb c 16000) (eq-eqb (length bytes) (2 + 4 * c) h)) ∙ shape_is c e

  pub shape_other : (c : ℕ) → c ≡ count_in bytes → (length bytes ≡ 2 + 4 * c → ⊥) → eqb (length bytes) (2 + 4 * c) ≡ shapely bytes
  shape_other c e n = ne_eqb _ _ n ∙ sym (ap (λ (b : Bool). b && leb c 16000) (ne_eqb (length bytes) (2 + 4 * c) n)) ∙ shape_is c e

  pub shaped : shapely bytes ≡ true → (c : ℕ) → c ≡ count_in bytes → Shaped bytes c
  unfolding shapely misshapen ◌or◌
  shaped h c e = go (eqb (length bytes) (2 + 4 * count_in bytes)) (ltb 16000 (count_in bytes)) refl refl h
    where
      go : (a d : Bool) → eqb (length bytes) (2 + 4 * count_in bytes) ≡ a → ltb 16000 (count_in bytes) ≡ d → not (not a or d) ≡ true → Shaped bytes c
      go true true f g h = let z : ◌≡◌ {A = ℕ} 0 1 = cc in absurd (omega arith)
      go true false f g h =
          let l = eqb-true (length bytes) (2 + 4 * count_in bytes) f in
          let u = ltb-false 16000 (count_in bytes) g in
          record { long = omega (arith, l, e); counted = e; bounded = omega (arith, u, e) }
      go false d f g h = let z : ◌≡◌ {A = ℕ} 0 1 = cc in absurd (omega arith)

  pub shaped_long : shapely bytes ≡ true → 2 ≤ length bytes
  shaped_long h = let s = shaped h (count_in bytes) refl in omega (arith, s.long)

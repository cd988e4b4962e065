-- Sums over lists, and the terms of the labels: each term stands in exactly one.
use Prim.Native.Nat.{ℕ, zero, suc, ◌+◌, ◌≤◌, ◌<◌}
use native.Mathlib.Omega.{arith}
use native.Mathlib.Nat.{eq-or-lt_of_le}
use mathlib.Core.Path.{◌≡◌, refl, sym, ap, ◌∙◌}
use mathlib.Core.Logic.{⊎_elim}
use mathlib.Core.Bool.{cond}
use mathlib.Core.List.{List, [], ◌∷◌, ◌++◌, map, Memᴰ}
use lib.ListN.{length, length-append}
use lib.Dec.{eqb}
use borrow.Author.Tests.{eq-eqb, ne_eqb}
use Rattle.logic.specs.Search.{from, select, flat_map}
use Rattle.theory.proofs.Basics.Search.{bool_cases}

unfoldable pub total : (ℕ → ℕ) → List ℕ → ℕ
total w [] = 0
total w (x ∷ xs) = w x + total w xs

pub total-none : (xs : List ℕ) → total (λ x. 0) xs ≡ 0
unfolding total
total-none [] = refl
total-none (x ∷ xs) = omega (arith, total-none xs)

pub total-add : (f g : ℕ → ℕ) (xs : List ℕ) → total (λ x. f x + g x) xs ≡ total f xs + total g xs
unfolding total
total-add f g [] = refl
total-add f g (x ∷ xs) = omega (arith, total-add f g xs)

pub total_most : (f g : ℕ → ℕ) (xs : List ℕ) → ((x : ℕ) → Memᴰ x xs → f x ≤ g x) → total f xs ≤ total g xs
unfolding total
total_most f g [] h = omega arith
total_most f g (x ∷ xs) h = omega (arith, h x (Memᴰ.head refl), total_most f g xs (λ y m. h y (Memᴰ.tail m)))

pub total_one : (xs : List ℕ) → total (λ x. 1) xs ≡ length xs
unfolding total
total_one [] = refl
total_one (x ∷ xs) = omega (arith, total_one xs)

pub total_same : (f g : ℕ → ℕ) (xs : List ℕ) → ((x : ℕ) → f x ≡ g x) → total f xs ≡ total g xs
unfolding total
total_same f g [] h = refl
total_same f g (x ∷ xs) h = omega (arith, h x, total_same f g xs h)

-- c at the one place x, among the k numbers from i on
abbrev only : ℕ → ℕ → ℕ → ℕ
only x c v = cond (eqb x v) c 0

total_past : (x c k i : ℕ) → x < i → total (only x c) (from k i) ≡ 0
unfolding total from
total_past x c zero i h = refl
total_past x c (suc k) i h =
    rw (ne_eqb x i (λ e. omega arith)) (omega (arith, total_past x c k (suc i) (omega arith)))

pub total-only : (x c k i : ℕ) → i ≤ x → x < i + k → total (only x c) (from k i) ≡ c
unfolding total from
total-only x c zero i l h = absurd (omega arith)
total-only x c (suc k) i l h =
    ⊎_elim
    (λ e. rw (eq-eqb x i (sym e)) (omega (arith, total_past x c k (suc i) (omega arith))))
    (λ q. rw (ne_eqb x i (λ e. omega arith)) (omega (arith, total-only x c k (suc i) q (omega arith))))
    (eq-or-lt_of_le l)

-- the elements that f sends to v
abbrev pub sent_to : (ℕ → ℕ) → List ℕ → ℕ → List ℕ
sent_to f ts v = select (λ t. eqb (f t) v) ts

sent_more : (w f : ℕ → ℕ) (t : ℕ) (ts : List ℕ) (v : ℕ) → total w (sent_to f (t ∷ ts) v) ≡ only (f t) (w t) v + total w (sent_to f ts v)
unfolding total select
sent_more w f t ts v = ⊎_elim (λ e. rw e) (λ e. rw e (omega arith)) (bool_cases (eqb (f t) v))

-- each element is sent to one of m numbers: what is summed by these is summed once
pub partition : (w f : ℕ → ℕ) (m : ℕ) (ts : List ℕ) → ((t : ℕ) → Memᴰ t ts → (1 ≤ f t) × (f t ≤ m)) → total (λ v. total w (sent_to f ts v)) (from m 1) ≡ total w ts
unfolding total select
partition w f m [] h = total-none (from m 1)
partition w f m (t ∷ ts) h =
    let k = h t (Memᴰ.head refl) in
    total_same _ _ (from m 1) (sent_more w f t ts)
    ∙ total-add (only (f t) (w t)) (λ v. total w (sent_to f ts v)) (from m 1)
    ∙ omega (arith, total-only (f t) (w t) m 1 k.0 (omega arith), partition w f m ts (λ x n. h x (Memᴰ.tail n)))

-- the length of lists behind each other
pub length_flat : {A : Type 0} (g : ℕ → List A) (xs : List ℕ) → length (flat_map g xs) ≡ total (λ x. length (g x)) xs
unfolding total flat_map
length_flat g [] = refl
length_flat g (x ∷ xs) = omega (arith, length-append (g x) (flat_map g xs), length_flat g xs)

pub flat_map_lem : {A : Type 0} (g : ℕ → List A) (xs : List ℕ) → flat_map (λ ys. ys) (map g xs) ≡ flat_map g xs
unfolding flat_map
flat_map_lem g [] = refl
flat_map_lem g (x ∷ xs) = ap (λ (ys : List _). g x ++ ys) (flat_map_lem g xs)

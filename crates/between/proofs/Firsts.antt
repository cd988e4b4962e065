-- The values of a function at 1 to t, each once, in the order in which they first come.
use Prim.Native.Nat.{ℕ, zero, suc, ◌+◌, ◌-◌, ◌≤◌, ◌<◌}
use native.Mathlib.Omega.{arith}
use mathlib.Core.Path.{◌≡◌, refl, sym, ap, ◌∙◌, subst}
use mathlib.Core.Logic.{◌⊎◌, ⊎_elim, inl, inr}
use mathlib.Core.Bool.{Bool, true, false, cond}
use mathlib.Core.List.Memᴰ
use mathlib.Core.List.{List, [], ◌∷◌, ◌++◌, Memᴰ, append_assoc, append-nil}
use lib.ListN.{length, get_or, length-append, get_or-append}
use lib.Seq.{get_or_at}
use lib.Dec.{eqb}
use Rattle.logic.specs.Search.{from, any}
use Rattle.logic.specs.Shown.{place_of}
use Rattle.theory.proofs.Basics.Search.{bool_cases, any-true, any_false, from-mem, from_intro, true-false}
use Rattle.theory.proofs.Basics.Compare.{eqb-true, eqb_intro, le_cases}
use Rattle.theory.proofs.Graph.Pigeonhole.{pigeonhole}
use Rattle.theory.proofs.Basics.Count.{get_d_mem}

-- a member's place in a list is not behind the list's first part that holds it
place_front : (xs ys : List ℕ) (x : ℕ) → Memᴰ x xs → place_of x (xs ++ ys) ≤ length xs
unfolding place_of
place_front [] ys x m = absurd (Memᴰ.not-nil m)
place_front (y ∷ xs) ys x m = ⊎_elim (λ e. here e) (λ e. later e m (λ k. place_front xs ys x k)) (bool_cases (eqb y x))
  where
    here : eqb y x ≡ true → place_of x (y ∷ (xs ++ ys)) ≤ suc (length xs)
    here e = subst (λ (b : Bool). cond b 1 (suc (place_of x (xs ++ ys))) ≤ suc (length xs)) (sym e) (omega arith)

    later : eqb y x ≡ false → Memᴰ x (y ∷ xs) → (Memᴰ x xs → place_of x (xs ++ ys) ≤ length xs) → place_of x (y ∷ (xs ++ ys)) ≤ suc (length xs)
    later e (Memᴰ.head k) ih = absurd (true-false (eqb_intro (sym k)) e)
    later e (Memᴰ.tail k) ih = subst (λ (b : Bool). cond b 1 (suc (place_of x (xs ++ ys))) ≤ suc (length xs)) (sym e) (let i = ih k in omega arith)

module _ (f : ℕ → ℕ) where
  -- f has its value at suc t before
  unfoldable pub seen_before : ℕ → Bool
  seen_before t = any (λ u. eqb (f u) (f (suc t))) (from t 1)

  unfoldable pub firsts : ℕ → List ℕ
  firsts zero = []
  firsts (suc t) = cond (seen_before t) (firsts t) (firsts t ++ (f (suc t) ∷ []))

  pub firsts-seen : (t : ℕ) → seen_before t ≡ true → firsts (suc t) ≡ firsts t
  unfolding firsts
  firsts-seen t e = rw e

  pub firsts-new : (t : ℕ) → seen_before t ≡ false → firsts (suc t) ≡ firsts t ++ (f (suc t) ∷ [])
  unfolding firsts
  firsts-new t e = rw e

  -- each value is there
  pub firsts_has : (t u : ℕ) → 1 ≤ u → u ≤ t → Memᴰ (f u) (firsts t)
  unfolding firsts seen_before
  firsts_has zero u l h = absurd (omega arith)
  firsts_has (suc t) u l h =
      ⊎_elim
      (λ e. subst (λ (xs : List ℕ). Memᴰ (f u) xs) (sym (firsts-seen t e)) (seen e (λ w a b. firsts_has t w a b) (le_cases u t)))
      (λ e. subst (λ (xs : List ℕ). Memᴰ (f u) xs) (sym (firsts-new t e)) (new (λ w a b. firsts_has t w a b) (le_cases u t)))
      (bool_cases (seen_before t))
    where
      seen : seen_before t ≡ true → ((w : ℕ) → 1 ≤ w → w ≤ t → Memᴰ (f w) (firsts t)) → (u ≤ t) ⊎ (t < u) → Memᴰ (f u) (firsts t)
      seen e ih (inl k) = ih u l k
      seen e ih (inr k) =
          let r = any-true (λ w. eqb (f w) (f (suc t))) (from t 1) e in
          let m = from-mem t 1 r.0 r.1 in
          let q : suc t ≡ u = omega arith in
          subst (λ (x : ℕ). Memᴰ x (firsts t)) (eqb-true _ _ r.2 ∙ ap f q) (ih r.0 m.0 (omega (arith, m.1)))

      new : ((w : ℕ) → 1 ≤ w → w ≤ t → Memᴰ (f w) (firsts t)) → (u ≤ t) ⊎ (t < u) → Memᴰ (f u) (firsts t ++ (f (suc t) ∷ []))
      new ih (inl k) = Memᴰ.append_left (f (suc t) ∷ []) (ih u l k)
      new ih (inr k) = let q : suc t ≡ u = omega arith in subst (λ (x : ℕ). Memᴰ x (firsts t ++ (f (suc t) ∷ []))) (ap f q) (Memᴰ.append_right (firsts t) (Memᴰ.head refl))

  -- and nothing else
  pub firsts_all : (P : ℕ → Type 0) → (t : ℕ) → ((u : ℕ) → 1 ≤ u → u ≤ t → P (f u)) → (x : ℕ) → Memᴰ x (firsts t) → P x
  unfolding firsts
  firsts_all P zero h x m = absurd (Memᴰ.not-nil m)
  firsts_all P (suc t) h x m =
      ⊎_elim
      (λ e. firsts_all P t (λ u l k. h u l (omega arith)) x (subst (λ (xs : List ℕ). Memᴰ x xs) (firsts-seen t e) m))
      (λ e. split (firsts t) (λ y k. firsts_all P t (λ u l k. h u l (omega arith)) y k) (subst (λ (xs : List ℕ). Memᴰ x xs) (firsts-new t e) m))
      (bool_cases (seen_before t))
    where
      split : (xs : List ℕ) → ((y : ℕ) → Memᴰ y xs → P y) → Memᴰ x (xs ++ (f (suc t) ∷ [])) → P x
      split [] a (Memᴰ.tail k) = elim k [ ]
      split [] a (Memᴰ.head e) = subst P (sym e) (h (suc t) (omega arith) (omega arith))
      split (y ∷ ys) a (Memᴰ.head e) = a x (Memᴰ.head e)
      split (y ∷ ys) a (Memᴰ.tail k) = split ys (λ z i. a z (Memᴰ.tail i)) k

  -- the values up to t stand in front
  pub firsts_grow : (t d : ℕ) → (rest : List ℕ) × (firsts (t + d) ≡ firsts t ++ rest)
  firsts_grow t zero = ([], ap firsts (omega arith) ∙ sym (append-nil (firsts t)))
  firsts_grow t (suc d) =
      let r = firsts_grow t d in
      let q : t + suc d ≡ suc (t + d) = omega arith in
      ⊎_elim
      (λ e. (r.0, ap firsts q ∙ firsts-seen (t + d) e ∙ r.1))
      (λ e. (r.0 ++ (f (suc (t + d)) ∷ []), ap firsts q ∙ firsts-new (t + d) e ∙ ap (λ (xs : List ℕ). xs ++ (f (suc (t + d)) ∷ [])) r.1 ∙ append_assoc (firsts t) r.0 (f (suc (t + d)) ∷ [])))
      (bool_cases (seen_before (t + d)))

  pub firsts_short : (t : ℕ) → length (firsts t) ≤ t
  unfolding firsts
  firsts_short zero = omega arith
  firsts_short (suc t) =
      let ih = firsts_short t in
      ⊎_elim (λ e. omega (arith, ap length (firsts-seen t e), ih)) (λ e. omega (arith, ap length (firsts-new t e), length-append (firsts t) (f (suc t) ∷ []), ih)) (bool_cases (seen_before t))

  -- no value stands there twice
  pub firsts_once : (t i j : ℕ) → i < j → j < length (firsts t) → get_or (firsts t) i 0 ≡ get_or (firsts t) j 0 → ⊥
  unfolding firsts seen_before
  firsts_once zero i j l h e = omega arith
  firsts_once (suc t) i j l h e =
      ⊎_elim
      (λ s. let q = firsts-seen t s in firsts_once t i j l (subst (λ (xs : List ℕ). j < length xs) q h) (ap (λ (xs : List ℕ). get_or xs i 0) (sym q) ∙ e ∙ ap (λ (xs : List ℕ). get_or xs j 0) q))
      (λ s. new s (firsts-new t s) (λ k e'. firsts_once t i j l k e'))
      (bool_cases (seen_before t))
    where
      new : seen_before t ≡ false → firsts (suc t) ≡ firsts t ++ (f (suc t) ∷ []) → (j < length (firsts t) → get_or (firsts t) i 0 ≡ get_or (firsts t) j 0 → ⊥) → ⊥
      new s q ih =
          let size : length (firsts (suc t)) ≡ length (firsts t) + 1 = ap length q ∙ length-append (firsts t) (f (suc t) ∷ []) in
          let e' : get_or (firsts t ++ (f (suc t) ∷ [])) i 0 ≡ get_or (firsts t ++ (f (suc t) ∷ [])) j 0 = ap (λ (xs : List ℕ). get_or xs i 0) (sym q) ∙ e ∙ ap (λ (xs : List ℕ). get_or xs j 0) q in
          let front : get_or (firsts t ++ (f (suc t) ∷ [])) i 0 ≡ get_or (firsts t) i 0 = get_or-append (firsts t) (f (suc t) ∷ []) 0 i (omega (arith, h, size)) in
          ⊎_elim
          (λ k. ih k (sym front ∙ e' ∙ get_or-append (firsts t) (f (suc t) ∷ []) 0 j k))
          (λ k.
          let last : j ≡ length (firsts t) = omega (arith, h, size, k) in
          let same : get_or (firsts t) i 0 ≡ f (suc t) = sym front ∙ e' ∙ ap (λ (x : ℕ). get_or (firsts t ++ (f (suc t) ∷ [])) x 0) last ∙ get_or_at (firsts t) (f (suc t)) [] 0 (length (firsts t)) refl in
          firsts_all (λ x. x ≡ f (suc t) → ⊥) t
          (λ u a b p. true-false (eqb_intro p) (any_false (λ w. eqb (f w) (f (suc t))) u s (from_intro t 1 u a (omega arith)))) (get_or (firsts t) i 0)
          (get_d_mem (firsts t) i 0 (omega (arith, l, last))) same)
          (le_cases (suc j) (length (firsts t)))

  -- values among 1 to m are at most m
  pub firsts_within : (m t : ℕ) → ((u : ℕ) → 1 ≤ u → u ≤ t → (1 ≤ f u) × (f u ≤ m)) → length (firsts t) ≤ m
  firsts_within m t h = ⊎_elim (λ l. l) (λ l. absurd (two l)) (le_cases (length (firsts t)) m)
    where
      range : (i : ℕ) → i < length (firsts t) → (1 ≤ get_or (firsts t) i 0) × (get_or (firsts t) i 0 ≤ m)
      range i l = firsts_all (λ x. (1 ≤ x) × (x ≤ m)) t h (get_or (firsts t) i 0) (get_d_mem (firsts t) i 0 l)

      two : m < length (firsts t) → ⊥
      two l =
          let r = pigeonhole m (λ i. get_or (firsts t) i 0 - 1) (λ i k. let a = range i (omega arith) in omega (arith, a.0, a.1)) in
          let a = range r.0 (omega (arith, r.2, r.3)) in
          let b = range r.1 (omega (arith, r.3)) in
          firsts_once t r.0 r.1 r.2 (omega (arith, r.3)) (omega (arith, r.4, a.0, b.0))

  -- the next value has the next place or a lower one
  pub firsts_place : (n u : ℕ) → u < n → place_of (f (suc u)) (firsts n) ≤ suc (length (firsts u))
  firsts_place n u h =
      let q : n ≡ suc u + (n - suc u) = omega arith in
      let r = firsts_grow (suc u) (n - suc u) in
      let m = firsts_has (suc u) (suc u) (omega arith) (omega arith) in
      let p = place_front (firsts (suc u)) r.0 (f (suc u)) m in
      let grown : firsts n ≡ firsts (suc u) ++ r.0 = ap firsts q ∙ r.1 in
      let size : length (firsts (suc u)) ≤ suc (length (firsts u)) = ⊎_elim (λ e. omega (arith, ap length (firsts-seen u e)))
      (λ e. omega (arith, ap length (firsts-new u e), length-append (firsts u) (f (suc u) ∷ []))) (bool_cases (seen_before u)) in
      omega (arith, ap (place_of (f (suc u))) grown, p, size)

-- what keeps values apart changes nothing
pub firsts-length : (f g : ℕ → ℕ) (t : ℕ) → ((u w : ℕ) → 1 ≤ u → u ≤ t → 1 ≤ w → w ≤ t → eqb (f u) (f w) ≡ eqb (g u) (g w)) → length (firsts f t) ≡ length (firsts g t)
unfolding firsts seen_before any from
firsts-length f g zero h = refl
firsts-length f g (suc t) h =
    let ih = firsts-length f g t (λ u w a b c d. h u w a (omega arith) c (omega arith)) in
    let s : seen_before f t ≡ seen_before g t = same t (omega arith) in
    ⊎_elim
    (λ e. ap length (firsts-seen f t e) ∙ ih ∙ sym (ap length (firsts-seen g t (sym s ∙ e))))
    (λ e. ap length (firsts-new f t e) ∙ length-append (firsts f t) (f (suc t) ∷ []) ∙ ap (λ (k : ℕ). k + 1) ih
    ∙ sym (ap length (firsts-new g t (sym s ∙ e)) ∙ length-append (firsts g t) (g (suc t) ∷ [])))
    (bool_cases (seen_before f t))
  where
    anys : (k i : ℕ) → 1 ≤ i → i + k ≤ suc t → any (λ u. eqb (f u) (f (suc t))) (from k i) ≡ any (λ u. eqb (g u) (g (suc t))) (from k i)
    anys zero i a b = refl
    anys (suc k) i a b = rw (h i (suc t) a (omega arith) (omega arith) (omega arith), anys k (suc i) (omega arith) (omega arith))

    same : (k : ℕ) → k ≤ t → any (λ u. eqb (f u) (f (suc t))) (from k 1) ≡ any (λ u. eqb (g u) (g (suc t))) (from k 1)
    same k l = anys k 1 (omega arith) (omega arith)

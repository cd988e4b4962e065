-- Lists that grow by a function's values, and what each number of a grown list met.
use Prim.Native.Nat.{ℕ, zero, suc, ◌+◌, ◌≤◌, ◌<◌}
use native.Mathlib.Omega.{arith}
use mathlib.Core.Path.{◌≡◌, refl, sym, ap, ◌∙◌, subst}
use mathlib.Core.Logic.{⊎_elim}
use mathlib.Core.Bool.{Bool, true}
use mathlib.Core.List.{List, [], ◌∷◌, ◌++◌, map, append_assoc, append-nil}
use lib.ListN.{length, get_or, length-append, get_or-append}
use lib.Seq.{get_or_at}
use Rattle.logic.specs.Search.{from}
use Rattle.theory.proofs.Basics.Compare.{eq_cases}
use Rattle.between_search.specs.Search.{entry}
use Rattle.between_search.proofs.Seek.{Grown, whole, more}

-- the numbers at 1 to t - 1 are f's values
pub record Prefix (f : ℕ → ℕ) (xs : List ℕ) (t : ℕ) : Type 0 where
  pub size : length xs ≡ t
  pub each : (u : ℕ) → 1 ≤ u → u < t → entry xs u ≡ f u

entry_front : (xs : List ℕ) (v u : ℕ) → u < length xs → entry (xs ++ (v ∷ [])) u ≡ entry xs u
unfolding entry
entry_front xs v u h = get_or-append xs (v ∷ []) 0 u h

entry_last : (xs : List ℕ) (v u : ℕ) → u ≡ length xs → entry (xs ++ (v ∷ [])) u ≡ v
unfolding entry
entry_last xs v u e = ap (λ (i : ℕ). get_or (xs ++ (v ∷ [])) i 0) e ∙ get_or_at xs v [] 0 (length xs) refl

pub prefix_next : (f : ℕ → ℕ) (xs : List ℕ) (t : ℕ) → Prefix f xs t → Prefix f (xs ++ (f t ∷ [])) (suc t)
prefix_next f xs t p =
    record {
      size = length-append xs (f t ∷ []) ∙ omega (arith, p.size);
      each = λ u l h. ⊎_elim
          (λ e. entry_last xs (f t) u (e ∙ sym p.size) ∙ ap f (sym e))
          (λ d. entry_front xs (f t) u (omega (arith, p.size, h, d.0)) ∙ p.each u l (omega (arith, h, d.0)))
          (eq_cases u t);
    }

module _ (lowest highest : ℕ → List ℕ → ℕ) (fits : ℕ → List ℕ → Bool) where
  -- the list of f's values grows
  pub grow_by : (f : ℕ → ℕ) (end : ℕ) →
      ((t : ℕ) (ys : List ℕ) → 1 ≤ t → t < end → Prefix f ys t → (lowest t ys ≤ f t) × (f t ≤ highest t ys) × (fits t (ys ++ (f t ∷ [])) ≡ true)) →
      (k t : ℕ) (ys : List ℕ) → 1 ≤ t → t + k ≡ end → Prefix f ys t → Grown lowest highest fits k t ys (ys ++ map f (from k t))
  unfolding from
  grow_by f end good zero t ys l e p = subst (λ (zs : List ℕ). Grown lowest highest fits zero t ys zs) (sym (append-nil ys)) whole
  grow_by f end good (suc k) t ys l e p =
      let g = good t ys l (omega arith) p in
      more (f t) g.0 g.1 g.2
      (subst (λ (zs : List ℕ). Grown lowest highest fits k (suc t) (ys ++ (f t ∷ [])) zs) (append_assoc ys (f t ∷ []) (map f (from k (suc t))))
      (grow_by f end good k (suc t) (ys ++ (f t ∷ [])) (omega arith) (omega arith) (prefix_next f ys t p)))

  -- what the number at t met: the list before it, its bounds, and the test
  pub record Met (zs : List ℕ) (t : ℕ) : Type 0 where
    pub before : List ℕ
    pub prefix : Prefix (entry zs) before t
    pub low : lowest t before ≤ entry zs t
    pub high : entry zs t ≤ highest t before
    pub fitted : fits t (before ++ (entry zs t ∷ [])) ≡ true

  pub grown_entry : {k i : ℕ} {xs zs : List ℕ} → Grown lowest highest fits k i xs zs → (u : ℕ) → u < length xs → entry zs u ≡ entry xs u
  grown_entry whole u h = refl
  grown_entry {xs = xs} (more v l k f g) u h = grown_entry g u (omega (arith, length-append xs (v ∷ []), h)) ∙ entry_front xs v u h

  pub grown_size : {k i : ℕ} {xs zs : List ℕ} → Grown lowest highest fits k i xs zs → length zs ≡ length xs + k
  grown_size whole = omega arith
  grown_size {xs = xs} (more v l k f g) = grown_size g ∙ omega (arith, length-append xs (v ∷ []))

  pub grown_met : {k i : ℕ} {xs zs : List ℕ} → Grown lowest highest fits k i xs zs → length xs ≡ i → (t : ℕ) → i ≤ t → t < i + k → Met zs t
  grown_met whole e t l h = absurd (omega arith)
  grown_met {k = suc k} {i = i} {xs = xs} {zs = zs} (more v l h f g) e t a b = ⊎_elim (λ p. now p)
      (λ d. grown_met g (length-append xs (v ∷ []) ∙ omega (arith, e)) t (omega (arith, a, d.0)) (omega arith)) (eq_cases i t)
    where
      now : i ≡ t → Met zs t
      now p =
          let here : entry zs t ≡ v = grown_entry g t (omega (arith, length-append xs (v ∷ []), e, p)) ∙ entry_last xs v t (sym p ∙ sym e) in
          record {
            before = xs;
            prefix = record { size = e ∙ p; each = λ u m n. sym (grown_entry g u (omega (arith, length-append xs (v ∷ []), e, p, n)) ∙ entry_front xs v u (omega (arith, e, p, n))) };
            low = subst (λ (x : ℕ). lowest x xs ≤ entry zs t) p (subst (λ (x : ℕ). lowest i xs ≤ x) (sym here) l);
            high = subst (λ (x : ℕ). entry zs t ≤ highest x xs) p (subst (λ (x : ℕ). x ≤ highest i xs) (sym here) h);
            fitted = subst (λ (x : ℕ). fits x (xs ++ (entry zs t ∷ [])) ≡ true) p (subst (λ (x : ℕ). fits i (xs ++ (x ∷ [])) ≡ true) (sym here) f);
          }

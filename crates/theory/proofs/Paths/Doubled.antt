-- Doubled successors: what a search for them finds, and what it means that there are none.
use Prim.Native.Nat.{ℕ, zero, suc, ◌≤◌, ◌<◌}
use native.Mathlib.Omega.{arith}
use mathlib.Core.Path.{◌≡◌, refl, sym, ap, ◌∙◌, subst}
use mathlib.Core.Logic.{⊎_elim}
use mathlib.Core.Bool.{Bool, true}
use mathlib.Core.List.Memᴰ
use mathlib.Core.List.{List, [], ◌∷◌, Memᴰ}
use mathlib.Core.Option.{Option, none, some}
use Rattle.logic.specs.Search.{from, select, first_of}
use Rattle.logic.specs.Facts.{Facts, link_numbers, terms, successors, first_two, doubled}
use Rattle.theory.proofs.Basics.Search.{bool_cases, none-some, first_of-some, first_of-none, select-mem, select_intro, from-mem, from_intro}
use Rattle.theory.proofs.Basics.Compare.{cond-true, cond-false}

-- the first two of a list
pub first_two-some : (xs : List ℕ) (ab : ℕ × ℕ) → first_two xs ≡ some ab → (rest : List ℕ) × (xs ≡ ab.0 ∷ ab.1 ∷ rest)
unfolding first_two
first_two-some [] ab h = absurd (none-some h)
first_two-some (a ∷ []) ab h = absurd (none-some h)
first_two-some (a ∷ b ∷ rest) ab h =
    let e : ◌≡◌ {A = ℕ × ℕ} (a, b) ab = cc in
    (rest, ap (λ (p : ℕ × ℕ). p.0 ∷ p.1 ∷ rest) e)

pub first_two-none : (xs : List ℕ) (a b : ℕ) → first_two xs ≡ none → Memᴰ a xs → Memᴰ b xs → a ≡ b
unfolding first_two
first_two-none [] a b h m m' = absurd (Memᴰ.not-nil m)
first_two-none (x ∷ []) a b h m m' =
    ⊎_elim
    (λ e. ⊎_elim (λ e'. e ∙ sym e') (λ k. absurd (Memᴰ.not-nil k)) (Memᴰ.cases_cons m'))
    (λ k. absurd (Memᴰ.not-nil k))
    (Memᴰ.cases_cons m)
first_two-none (x ∷ y ∷ rest) a b h m m' = absurd (none-some (sym h))

-- selected numbers ascend
pub select_ascends : (p : ℕ → Bool) (k i a b : ℕ) (rest : List ℕ) → select p (from k i) ≡ a ∷ b ∷ rest → a < b
unfolding select from
select_ascends p zero i a b rest h = absurd (let z : ◌≡◌ {A = ℕ} 0 1 = cc in omega arith)
select_ascends p (suc k) i a b rest h =
    ⊎_elim first (λ e. select_ascends p k (suc i) a b rest (sym (cond-false _ _ e) ∙ h)) (bool_cases (p i))
  where
    first : p i ≡ true → a < b
    first e =
        let h' : i ∷ select p (from k (suc i)) ≡ a ∷ b ∷ rest = sym (cond-true _ _ e) ∙ h in
        let q : i ≡ a = cc in
        let r : select p (from k (suc i)) ≡ b ∷ rest = cc in
        let m = select-mem p b (from k (suc i)) (subst (λ (l : List ℕ). Memᴰ b l) (sym r) (Memᴰ.head refl)) in
        let l = from-mem k (suc i) b m.0 in
        omega arith

-- two successors of one term by one link, the lower first
pub record Fork (s : Facts) (ab : ℕ × ℕ) : Type 0 where
  pub link : ℕ
  pub term : ℕ
  pub low : (s.graph link).link term ab.0 ≡ true
  pub high : (s.graph link).link term ab.1 ≡ true
  pub lower : ab.0 < ab.1

module _ (n : ℕ) (s : Facts) where
  -- the first two successors of a term by link i
  abbrev two_at : ℕ → ℕ → Option (ℕ × ℕ)
  two_at t i = first_two (successors n (s.graph i) t)

  -- what is found are two successors of one term
  pub doubled-some : (ab : ℕ × ℕ) → doubled n s ≡ some ab → Fork s ab
  unfolding doubled successors terms
  doubled-some ab h =
      let f = first_of-some (λ t. first_of (two_at t) (link_numbers s.links)) (terms n) ab h in
      let e = first_of-some (two_at f.0) (link_numbers s.links) ab f.2 in
      let g = s.graph e.0 in
      let l = first_two-some (successors n g f.0) ab e.2 in
      let m = select-mem (g.link f.0) ab.0 (terms n) (subst (λ (xs : List ℕ). Memᴰ ab.0 xs) (sym l.1) (Memᴰ.head refl)) in
      let m' = select-mem (g.link f.0) ab.1 (terms n) (subst (λ (xs : List ℕ). Memᴰ ab.1 xs) (sym l.1) (Memᴰ.tail (Memᴰ.head refl))) in
      record { link = e.0; term = f.0; low = m.1; high = m'.1; lower = select_ascends (g.link f.0) n 1 ab.0 ab.1 l.0 l.1 }

  -- where nothing is found, a term of 1 to n has one successor there by each link
  pub doubled-none : doubled n s ≡ none → (i a b c : ℕ) → (1 ≤ i) × (i ≤ s.links) → (1 ≤ a) × (a ≤ n) → (1 ≤ b) × (b ≤ n) → (1 ≤ c) × (c ≤ n) →
      (s.graph i).link a b ≡ true → (s.graph i).link a c ≡ true → b ≡ c
  unfolding doubled successors terms link_numbers
  doubled-none h i a b c ri ra rb rc l l' =
      let at_term = first_of-none (λ t. first_of (two_at t) (from s.links 1)) a h (from_intro n 1 a ra.0 (omega arith)) in
      first_two-none (successors n (s.graph i) a) b c
      (first_of-none (two_at a) i at_term (from_intro s.links 1 i ri.0 (omega arith)))
      (select_intro ((s.graph i).link a) b (from_intro n 1 b rb.0 (omega arith)) l)
      (select_intro ((s.graph i).link a) c (from_intro n 1 c rc.0 (omega arith)) l')

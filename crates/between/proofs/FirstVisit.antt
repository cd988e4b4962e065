-- Following links from one chosen node to the next: each such hop skips what is not chosen, and reaches what the links reach.
use Prim.Native.Nat.{ℕ, zero, suc, ◌+◌, ◌≤◌, ◌<◌}
use native.Mathlib.Omega.{arith}
use mathlib.Core.Path.{◌≡◌, refl, sym, ap, ◌∙◌, subst}
use mathlib.Core.Logic.{◌⊎◌, ⊎_elim, inl, inr}
use mathlib.Core.Bool.{Bool, true, false}
use Rattle.logic.specs.Heap.{iterate}
use Rattle.theory.proofs.Basics.Search.{true-false}
use Rattle.theory.proofs.Basics.Compare.{le_cases}
use Rattle.theory.proofs.Basics.Iterate.{iterate-suc, iterate-add}
use Rattle.theory.proofs.Graph.Cycles.{Within, meets_cycle}
use Rattle.between.proofs.Until.{Until, here, on, until_trans}

module _ (f : ℕ → ℕ) (chosen : ℕ → Bool) where
  -- w is the first chosen node from v on
  pub data First : ℕ → ℕ → Type 0 where
    found : {v : ℕ} → chosen v ≡ true → First v v
    passed : {v w : ℕ} → chosen v ≡ false → First (f v) w → First v w

  pub first_chosen : {v w : ℕ} → First v w → chosen w ≡ true
  first_chosen (found c) = c
  first_chosen (passed c p) = first_chosen p

  pub first_unique : {v w w' : ℕ} → First v w → First v w' → w ≡ w'
  first_unique (found c) (found c') = refl
  first_unique (found c) (passed c' p) = absurd (true-false c c')
  first_unique (passed c p) (found c') = absurd (true-false c' c)
  first_unique (passed c p) (passed c' p') = first_unique p p'

  -- a search of k links
  abbrev Searched : ℕ → ℕ → Type 0
  Searched k v = ((w : ℕ) × First v w) ⊎ ((j : ℕ) → j < k → chosen (iterate f j v) ≡ false)

  search_first : (k v : ℕ) → Searched k v
  unfolding iterate
  search_first zero v = inr (λ j l. absurd (omega arith))
  search_first (suc k) v = go (chosen v) refl (search_first k (f v))
    where
      go : (b : Bool) → chosen v ≡ b → Searched k (f v) → Searched (suc k) v
      go true e r = inl (v, found e)
      go false e (inl r) = inl (r.0, passed e r.1)
      go false e (inr none) = inr (λ j l. each e none j l)
        where
          each : chosen v ≡ false → ((j : ℕ) → j < k → chosen (iterate f j (f v)) ≡ false) → (j : ℕ) → j < suc k → chosen (iterate f j v) ≡ false
          each e none zero l = e
          each e none (suc j) l = none j (omega arith)

  -- what is passed before the first chosen node is not chosen, so it is not to be avoided
  module _ (Avoid : ℕ → Type 0) (only : (v : ℕ) → Avoid v → chosen v ≡ true) where
    pub first_until : {v w : ℕ} → First v w → Until f Avoid v w
    first_until (found c) = here
    first_until (passed {v} c p) = on (λ a. true-false (only v a) c) (first_until p)

    -- where a chosen node is reached, there is a first one
    pub until_first : {v y : ℕ} → chosen y ≡ true → Until f Avoid v y → (w : ℕ) × First v w
    until_first {v} c here = (v, found c)
    until_first {v} c (on a p) = go (chosen v) refl (until_first c p)
      where
        go : (b : Bool) → chosen v ≡ b → (w : ℕ) × First (f v) w → (w : ℕ) × First v w
        go true e r = (v, found e)
        go false e r = (r.0, passed e r.1)

  -- In a heap of n nodes every node that is met is met within 2 n links.
  module _ (n : ℕ) where
    first_steps : {v w : ℕ} → First v w → (k : ℕ) × (chosen (iterate f k v) ≡ true)
    unfolding iterate
    first_steps (found c) = (0, c)
    first_steps (passed c p) = let r = first_steps p in (suc r.0, r.1)

    -- an iterate past a cycle is one before it
    fold_back : (v i d : ℕ) → iterate f (suc d) (iterate f i v) ≡ iterate f i v → (k : ℕ) → (j : ℕ) × (j < i + suc d) × (iterate f j v ≡ iterate f k v)
    fold_back v i d e zero = (0, omega arith, refl)
    fold_back v i d e (suc k) =
        let r = fold_back v i d e k in
        next r.0 r.1 r.2
      where
        next : (j : ℕ) → j < i + suc d → iterate f j v ≡ iterate f k v → (j' : ℕ) × (j' < i + suc d) × (iterate f j' v ≡ iterate f (suc k) v)
        next j l q =
            let step : iterate f (suc j) v ≡ iterate f (suc k) v = iterate-suc f j v ∙ ap f q ∙ sym (iterate-suc f k v) in
            ⊎_elim
            (λ m. let s : suc j ≡ i + suc d = omega arith in
            (i, omega arith, sym e ∙ sym (iterate-add f i (suc d) v) ∙ ap (λ (x : ℕ). iterate f x v) (sym s) ∙ step))
            (λ m. (suc j, m, step))
            (le_cases (i + suc d) (suc j))

    -- a search of 2 n links that finds nothing: nothing chosen is ever met
    never : (v : ℕ) → Within f n v → ((j : ℕ) → j < n + n → chosen (iterate f j v) ≡ false) → {w : ℕ} → First v w → ⊥
    never v h none p =
        let (k, c) = first_steps p in
        let (i, d, l, m, e) = meets_cycle f n v h in
        let (j, b, q) = fold_back v i d e k in
        true-false (subst (λ (x : ℕ). chosen x ≡ true) (sym q) c) (none j (omega arith))

    -- The hop: links lead to the next such node and, from a node after which no named one comes, back to itself.
    pub hop : ℕ → ℕ
    hop v = ⊎_elim (λ r. r.0) (λ none. v) (search_first (n + n) (f v))

    -- what a hop does
    pub data Hopped (v : ℕ) : ℕ → Type 0 where
      hopped : (w : ℕ) → First (f v) w → Hopped v w
      stayed : ((w : ℕ) → First (f v) w → ⊥) → Hopped v v

    pub hop_is : (v : ℕ) → Within f n (f v) → Hopped v (hop v)
    unfolding hop
    hop_is v h = go (search_first (n + n) (f v))
      where
        go : (r : Searched (n + n) (f v)) → Hopped v (⊎_elim (λ r. r.0) (λ none. v) r)
        go (inl r) = hopped r.0 r.1
        go (inr none) = stayed (λ w p. never (f v) h none p)

    -- the first chosen node ahead is where a hop leads
    pub hop_first : (v w : ℕ) → Within f n (f v) → First (f v) w → hop v ≡ w
    hop_first v w h p = go (hop_is v h)
      where
        go : {u : ℕ} → Hopped v u → u ≡ w
        go (hopped w' p') = first_unique p' p
        go (stayed none) = absurd (none w p)

    -- a hop from a chosen node leads to a chosen node
    pub hop-chosen : (v : ℕ) → Within f n (f v) → chosen v ≡ true → chosen (hop v) ≡ true
    hop-chosen v h c = go (hop_is v h)
      where
        go : {u : ℕ} → Hopped v u → chosen u ≡ true
        go (hopped w p) = first_chosen p
        go (stayed none) = c

  -- Hops reach what links reach, past nothing else that is chosen.
  module _ (n : ℕ) (inside : (v : ℕ) → (1 ≤ v) × (v ≤ n) → (1 ≤ f v) × (f v ≤ n)) (Avoid : ℕ → Type 0) (only : (v : ℕ) → Avoid v → chosen v ≡ true) where
    within : (v : ℕ) → (1 ≤ v) × (v ≤ n) → Within f n v
    unfolding iterate
    within v h i l = go i v h
      where
        go : (i v : ℕ) → (1 ≤ v) × (v ≤ n) → (1 ≤ iterate f i v) × (iterate f i v ≤ n)
        go zero v h = h
        go (suc i) v h = go i (f v) (inside v h)

    pub links_hops : (v y w : ℕ) → (1 ≤ v) × (v ≤ n) → chosen y ≡ true → Until f Avoid v y → First v w → Until (hop n) Avoid w y
    links_hops v y w h c here p = subst (λ (x : ℕ). Until (hop n) Avoid x y) (first_unique (found c) p) here
    links_hops v y w h c (on a u) (found c') =
        let r = until_first Avoid only c u in
        on a (subst (λ (x : ℕ). Until (hop n) Avoid x y) (sym (hop_first n v r.0 (within (f v) (inside v h)) r.1)) (links_hops (f v) y r.0 (inside v h) c u r.1))
    links_hops v y w h c (on a u) (passed c' p) = links_hops (f v) y w (inside v h) c u p

    first_inside : {v w : ℕ} → First v w → (1 ≤ v) × (v ≤ n) → (1 ≤ w) × (w ≤ n)
    first_inside (found c) h = h
    first_inside (passed {v} c p) h = first_inside p (inside v h)

    pub hops_links : {v y : ℕ} → (1 ≤ v) × (v ≤ n) → Until (hop n) Avoid v y → Until f Avoid v y
    hops_links h here = here
    hops_links {v} {y} h (on a u) = go (hop_is n v (within (f v) (inside v h))) (λ i. hops_links i u)
      where
        go : {x : ℕ} → Hopped n v x → ((1 ≤ x) × (x ≤ n) → Until f Avoid x y) → Until f Avoid v y
        go (hopped w p) ih = on a (until_trans f Avoid (first_until Avoid only p) (ih (first_inside p (inside v h))))
        go (stayed none) ih = ih h

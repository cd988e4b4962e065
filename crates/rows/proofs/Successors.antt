-- The two lowest successors, found by two searches.
use Prim.Native.Nat.{ℕ, zero, suc, ◌+◌, ◌-◌, ◌^◌, ◌≤◌, ◌<◌}
use native.Mathlib.Omega.{arith}
use mathlib.Core.Path.{◌≡◌, refl, sym, ap, ◌∙◌}
use mathlib.Core.Logic.{⊎_elim}
use mathlib.Core.Bool.{Bool, true, false, cond}
use mathlib.Core.List.{List, [], ◌∷◌}
use mathlib.Core.Option.{Option, none, some}
use lib.Arith.{lt_of_le-ne}
use lib.ListN.{get_or}
use lib.Bits.{bit_and}
use lib.Dec.{ltb}
use borrow.Author.Tests.{lt-ltb, ltb-true}
use Rattle.logic.specs.Search.{◌and◌, from, keep, or_else, first_of, find, select}
use Rattle.logic.specs.Facts.{terms, first_two}
use Rattle.theory.proofs.Basics.Search.{true-false, and_left, and_right, none-some, find-some, find_lowest, from-mem}
use Rattle.theory.proofs.Basics.Compare.{le_cases}
use Rattle.rows.specs.Bits.{bit}
use Rattle.rows.specs.Square.{square}
use Rattle.rows.proofs.Bits.{bit-and}
use Rattle.rows.proofs.Square.{square_in}
use Rattle.rows.proofs.Finds.{find_in, find-no-bit, rest_other, rest_gone}

-- what a search of the numbers from k below m finds is one of them
pub found_in : (p : ℕ → Bool) (m k a : ℕ) → find p (from (m - k) k) ≡ some a → (k ≤ a) × (a < m)
found_in p m k a e = let r = from-mem (m - k) k a (find-some p (from (m - k) k) a e).0 in (omega arith, omega arith)

keep_hit : (k : ℕ) (o : Option ℕ) → or_else (keep true k) o ≡ some k
unfolding or_else keep
keep_hit k o = refl

keep_miss : (k : ℕ) (o : Option ℕ) → or_else (keep false k) o ≡ o
unfolding or_else keep
keep_miss k o = refl

keep_same : (k a : ℕ) (o : Option ℕ) → or_else (keep true k) o ≡ some a → k ≡ a
unfolding or_else keep
keep_same k a o e = cc

module _ (p : ℕ → Bool) where
  -- where nothing is found nothing is selected; else what is found is selected first, and then the rest above it
  pub select-none : (j k : ℕ) → find p (from j k) ≡ none → select p (from j k) ≡ []
  unfolding find first_of select from
  select-none zero k e = refl
  select-none (suc j) k e = go (p k) e (select-none j (suc k))
    where
      go : (t : Bool) → or_else (keep t k) (find p (from j (suc k))) ≡ none → (find p (from j (suc k)) ≡ none → select p (from j (suc k)) ≡ []) →
          cond t (k ∷ select p (from j (suc k))) (select p (from j (suc k))) ≡ []
      go true e ih = absurd (none-some (sym e ∙ keep_hit k (find p (from j (suc k)))))
      go false e ih = ih (sym (keep_miss k (find p (from j (suc k)))) ∙ e)

  select-some : (j k m a : ℕ) → m ≡ k + j → find p (from j k) ≡ some a → select p (from j k) ≡ a ∷ select p (from (m - (a + 1)) (a + 1))
  unfolding find first_of select from
  select-some zero k m a q e = absurd (none-some e)
  select-some (suc j) k m a q e = go (p k) e (select-some j (suc k) m a (omega arith))
    where
      here : k ≡ a → k ∷ select p (from j (suc k)) ≡ a ∷ select p (from (m - (a + 1)) (a + 1))
      here h = rw h (ap (λ (l : List ℕ). a ∷ select p l) (λ i. from (numbers.0 i) (numbers.1 i)))
        where
          numbers : (j ≡ m - (a + 1)) × (suc a ≡ a + 1)
          numbers = (omega arith, omega arith)

      go : (t : Bool) → or_else (keep t k) (find p (from j (suc k))) ≡ some a →
          (find p (from j (suc k)) ≡ some a → select p (from j (suc k)) ≡ a ∷ select p (from (m - (a + 1)) (a + 1))) →
          cond t (k ∷ select p (from j (suc k))) (select p (from j (suc k))) ≡ a ∷ select p (from (m - (a + 1)) (a + 1))
      go true e ih = here (keep_same k a (find p (from j (suc k))) e)
      go false e ih = ih (sym (keep_miss k (find p (from j (suc k)))) ∙ e)

  -- one search after the other
  module _ (n : ℕ) where
    pub two_none : find p (terms n) ≡ none → first_two (select p (terms n)) ≡ none
    unfolding first_two terms
    two_none e = rw (select-none n 1 e)

    pub two_one : (a : ℕ) → find p (terms n) ≡ some a → find p (from (n + 1 - (a + 1)) (a + 1)) ≡ none → first_two (select p (terms n)) ≡ none
    unfolding first_two terms
    two_one a e f = rw (select-some n 1 (n + 1) a (omega arith) e, select-none _ _ f)

    pub two_both : (a b : ℕ) → find p (terms n) ≡ some a → find p (from (n + 1 - (a + 1)) (a + 1)) ≡ some b → first_two (select p (terms n)) ≡ some (a, b)
    unfolding first_two terms
    two_both a b e f =
        let h = found_in p (n + 1) (a + 1) b f in
        rw (select-some n 1 (n + 1) a (omega arith) e, select-some _ _ (n + 1) b (omega arith) f)

    pub two_below : (a b : ℕ) → first_two (select p (terms n)) ≡ some (a, b) → (a < b) × (b ≤ n)
    two_below a b e = first (find p (terms n)) refl
      where
        second : (c : ℕ) → find p (terms n) ≡ some c → (o : Option ℕ) → find p (from (n + 1 - (c + 1)) (c + 1)) ≡ o → (a < b) × (b ≤ n)
        second c f none g = absurd (none-some (sym (two_one c f g) ∙ e))
        second c f (some d) g =
            let h = found_in p (n + 1) (c + 1) d g in
            let q : ◌≡◌ {A = Option (ℕ × ℕ)} (some (c, d)) (some (a, b)) = sym (two_both c d f g) ∙ e in
            let w : ◌≡◌ {A = ℕ × ℕ} (c, d) (a, b) = cc in
            let l : c ≡ a = ap (λ (x : ℕ × ℕ). x.0) w in
            let r : d ≡ b = ap (λ (x : ℕ × ℕ). x.1) w in
            (omega arith, omega arith)

        first : (o : Option ℕ) → find p (terms n) ≡ o → (a < b) × (b ≤ n)
        first none f = absurd (none-some (sym (two_none f) ∙ e))
        first (some c) f = second c f (find p (from (n + 1 - (c + 1)) (c + 1))) refl

-- the word of the successors of a term
pub successor_bits : (link : List ℕ) (n t : ℕ) → n ≤ 16 → t ≤ 16 → (among : ℕ) → ((i : ℕ) → bit among i ≡ ltb 0 i and ltb i (n + 1)) → (i : ℕ) →
    bit (bit_and (get_or link t 0) among) i ≡ square link t i and (ltb 0 i and ltb i (n + 1))
unfolding ◌and◌
successor_bits link n t few h among e i = bit-and (get_or link t 0) among i ∙ rw (e i) (go (ltb i (n + 1)) refl)
  where
    go : (u : Bool) → ltb i (n + 1) ≡ u → bit (get_or link t 0) i and (ltb 0 i and u) ≡ square link t i and (ltb 0 i and u)
    go true f = let l = ltb-true i (n + 1) f in rw (square_in link t i h (omega arith))
    go false f = none (bit (get_or link t 0) i) (ltb 0 i) ∙ sym (none (square link t i) (ltb 0 i))
      where
        none : (a b : Bool) → a and (b and false) ≡ false
        none true true = refl
        none true false = refl
        none false b = refl

-- the word of the terms that pass a test: its lowest bit, and that of the rest
module _ (p : ℕ → Bool) (n : ℕ) (few : n ≤ 16) (w : ℕ) (e : (i : ℕ) → bit w i ≡ p i and (ltb 0 i and ltb i (n + 1))) where
  passes : (i : ℕ) → 0 < i → i < n + 1 → p i ≡ bit w i
  unfolding ◌and◌
  passes i h l = sym (e i ∙ rw (lt-ltb 0 i h, lt-ltb i (n + 1) l) (go (p i)))
    where
      go : (t : Bool) → t and true ≡ t
      go true = refl
      go false = refl

  within : (i : ℕ) → bit w i ≡ true → (0 < i) × (i < n + 1)
  within i h =
      let r = and_right (p i) (ltb 0 i and ltb i (n + 1)) (sym (e i) ∙ h) in
      (ltb-true 0 i (and_left (ltb 0 i) (ltb i (n + 1)) r), ltb-true i (n + 1) (and_right (ltb 0 i) (ltb i (n + 1)) r))

  pub lowest_term : find (bit w) (from 32 0) ≡ find p (terms n)
  unfolding terms
  lowest_term = sym (find_in p (bit w) n 1 32 0 (omega arith) (omega arith) (λ i h l. passes i h (omega arith)) (λ i h. let r = within i h in (r.0, omega arith)))

  module _ (fits : w < 2 ^ 32) (a : ℕ) (found : find (bit w) (from 32 0) ≡ some a) where
    pub found_positive : 1 ≤ w
    found_positive = go w refl
      where
        go : (v : ℕ) → w ≡ v → 1 ≤ v
        go zero q = absurd (none-some (sym (ap (λ (x : ℕ). find (bit x) (from 32 0)) q ∙ find-no-bit) ∙ found))
        go (suc v) q = omega arith

    pub next_term : find (bit (bit_and w (w - 1))) (from 32 0) ≡ find p (from (n + 1 - (a + 1)) (a + 1))
    next_term =
        let here = within a (find-some (bit w) (from 32 0) a found).1 in
        sym
        (find_in p (bit (bit_and w (w - 1))) (n + 1 - (a + 1)) (a + 1) 32 0 (omega arith) (omega arith)
        (λ i h l. passes i (omega arith) (omega arith) ∙ sym (rest_other w a found_positive fits found i (λ z. omega arith)))
        (λ i h.
        let other : i ≡ a → ⊥ = λ z. true-false h (ap (bit (bit_and w (w - 1))) z ∙ rest_gone w a found_positive fits found) in
        let set = sym (rest_other w a found_positive fits found i other) ∙ h in
        let r = within i set in
        let above = ⊎_elim (λ l. l) (λ l. absurd (true-false set (find_lowest (bit w) 32 0 a found i (omega arith) l))) (le_cases a i) in
        let past = lt_of_le-ne above (λ z. other (sym z)) in
        (omega arith, omega arith)))

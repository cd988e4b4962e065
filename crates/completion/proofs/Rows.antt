-- Rows of terms: whether one is empty, where links lead, and the terms that begin a path.
use Prim.Native.Nat.{ℕ, zero, suc, ◌+◌, ◌-◌, ◌^◌, ◌≤◌, ◌<◌}
use native.Mathlib.Omega.{arith}
use mathlib.Core.Path.{◌≡◌, refl, sym, ap, ◌∙◌}
use mathlib.Core.Logic.{⊎_elim}
use mathlib.Core.Bool.{Bool, true, false, not, ◌&&◌, ◌||◌}
use mathlib.Core.List.{List}
use mathlib.Core.Option
use mathlib.Core.Option.{Option, none, some}
use lib.ListN.{get_or}
use lib.Bits.{bit_and, bit_or}
use lib.Count.{count_trailing_zeros}
use lib.Dec.{eqb, ltb}
use borrow.Author.Tests.{lt-ltb, ltb-true, eq-eqb, ne_eqb}
use Rattle.logic.specs.Search.{◌and◌, ◌or◌, from, any, find}
use Rattle.logic.specs.Shown.{reached, on_path, basin_link}
use Rattle.theory.proofs.Basics.Search.{true-false, not_of, and_left, and_right, any-true, any_intro, find-some, from-mem, from_intro}
use Rattle.theory.proofs.Basics.Compare.{eq_cases}
use Rattle.rows.specs.Bits.{bit}
use Rattle.rows.specs.Square.{square}
use Rattle.rows.proofs.Bits.{bit-none, bit-or}
use Rattle.rows.proofs.Square.{square_in}
use Rattle.rows.proofs.Finds.{find-bit, find_in}
use Rattle.rows.proofs.Selections.{terms-from, any_end, any_turn}
use Rattle.rows.proofs.Successors.{lowest_term, next_term}
use Rattle.completion.specs.Links.{link_of, reach_in, leads_to, begins, begins_without, covers_all}
use Rattle.completion.proofs.Choice.{misses, covers_search, begins_search, begins_outside, basin_none, basin_one, basin_several}

and-false : (a b : Bool) → a and (b and false) ≡ false
unfolding ◌and◌
and-false true true = refl
and-false true false = refl
and-false false b = refl

and_swap : (a b : Bool) → a and b ≡ b and a
unfolding ◌and◌
and_swap true true = refl
and_swap true false = refl
and_swap false true = refl
and_swap false false = refl

in_range : (a b c d : Bool) → (a and (b and true)) and not (d or c) ≡ (a && not (c || d)) and (b and true)
unfolding ◌and◌ ◌or◌
in_range true true true true = refl
in_range true true true false = refl
in_range true true false true = refl
in_range true true false false = refl
in_range true false true d = refl
in_range true false false true = refl
in_range true false false false = refl
in_range false b c d = refl

beyond : (a b x y : Bool) → (a and (b and false)) and x ≡ y and (b and false)
unfolding ◌and◌
beyond a b x y = rw (and-false a b, and-false y b) refl

or_turn : (a s t r : Bool) → a or ((s && t) or r) ≡ (a or (t and s)) or r
unfolding ◌and◌ ◌or◌
or_turn true s t r = refl
or_turn false true true r = refl
or_turn false true false r = refl
or_turn false false true r = refl
or_turn false false false r = refl

or-false : (t : Bool) → t or false ≡ t
unfolding ◌or◌
or-false true = refl
or-false false = refl

and_both_true : (t : Bool) → t and (true and true) ≡ t
unfolding ◌and◌
and_both_true true = refl
and_both_true false = refl

-- the word of the terms that pass a test is 0 exactly if none does
module _ (p : ℕ → Bool) (n : ℕ) (few : n ≤ 16) (w : ℕ) (e : (i : ℕ) → bit w i ≡ p i and (ltb 0 i and ltb i (n + 1))) (fits : w < 2 ^ 32) where
  none_passes : w ≡ 0 → any p (from (n + 1 - 1) 1) ≡ false
  unfolding ◌and◌
  none_passes q =
      not_of
      (λ t.
      let r = any-true p (from (n + 1 - 1) 1) t in
      let m = from-mem (n + 1 - 1) 1 r.0 r.1 in
      true-false (e r.0 ∙ rw (r.2, lt-ltb 0 r.0 (omega arith), lt-ltb r.0 (n + 1) (omega arith)) refl) (ap (λ (v : ℕ). bit v r.0) q ∙ bit-none r.0))

  at_bit : (a : ℕ) → bit w a ≡ true → any p (from (n + 1 - 1) 1) ≡ true
  at_bit a f =
      let set = sym (e a) ∙ f in
      let inside = and_right (p a) (ltb 0 a and ltb a (n + 1)) set in
      let low = ltb-true 0 a (and_left (ltb 0 a) (ltb a (n + 1)) inside) in
      let high = ltb-true a (n + 1) (and_right (ltb 0 a) (ltb a (n + 1)) inside) in
      any_intro p a (from_intro (n + 1 - 1) 1 a low (omega (arith, high))) (and_left (p a) (ltb 0 a and ltb a (n + 1)) set)

  one_passes : 0 < w → any p (from (n + 1 - 1) 1) ≡ true
  one_passes h = at_bit (count_trailing_zeros 32 w) (find-some (bit w) (from 32 0) (count_trailing_zeros 32 w) (find-bit w h fits)).1

  pub empty_row : eqb w 0 ≡ not (any p (from (n + 1 - 1) 1))
  empty_row = go w refl
    where
      go : (v : ℕ) → w ≡ v → eqb w 0 ≡ not (any p (from (n + 1 - 1) 1))
      go zero q = rw (none_passes q) (eq-eqb w 0 q)
      go (suc v) q = rw (one_passes (omega (arith, q))) (ne_eqb w 0 (λ z. omega (arith, q, z)))

-- what v reaches, and u does not
module _ (n : ℕ) (few : n ≤ 16) (reach : List ℕ) (v u : ℕ) (h : u ≤ 16) (row own w : ℕ)
    (reached_is : (i : ℕ) → bit row i ≡ square reach v i and (ltb 0 i and ltb i (n + 1))) (own_is : (i : ℕ) → bit own i ≡ eqb i v)
    (missed_is : (i : ℕ) → bit w i ≡ bit row i and not (bit (bit_or (get_or reach u 0) own) i)) where
  missed_bits : (i : ℕ) → bit w i ≡ misses reach v u i and (ltb 0 i and ltb i (n + 1))
  missed_bits i = missed_is i ∙ rw (reached_is i, bit-or (get_or reach u 0) own i, own_is i) (go (ltb i (n + 1)) refl)
    where
      go : (t : Bool) → ltb i (n + 1) ≡ t → (square reach v i and (ltb 0 i and t)) and not (bit (get_or reach u 0) i or eqb i v) ≡ misses reach v u i and (ltb 0 i and t)
      go true f =
          let l = ltb-true i (n + 1) f in
          rw (square_in reach u i h (omega arith)) (in_range (square reach v i) (ltb 0 i) (eqb i v) (bit (get_or reach u 0) i))
      go false f = beyond (square reach v i) (ltb 0 i) _ (misses reach v u i)

  pub covered : w < 2 ^ 32 → eqb w 0 ≡ covers_all n (reach_in reach) v u
  covered fits = empty_row (misses reach v u) n few w missed_bits fits ∙ sym (covers_search n reach v u)

-- where the links from inside v's basin lead: what is set so far, and what is left
module _ (reach links : List ℕ) (n v : ℕ) where
  abbrev pub LedBelow : ℕ → ℕ → Type 0
  LedBelow u row = (b : ℕ) → any (leads_to reach (link_of links) v b) (from (n + 1 - 1) 1) ≡ bit row b or any (leads_to reach (link_of links) v b) (from (n + 1 - u) u)

  pub led-none : LedBelow 1 0
  unfolding ◌or◌
  led-none b = rw (bit-none b) refl

  eqb_swap : (a b : ℕ) → eqb a b ≡ eqb b a
  eqb_swap a b = ⊎_elim (λ e. rw e refl) (λ d. d.1 ∙ sym (ne_eqb b a (λ z. d.0 (sym z)))) (eq_cases a b)

  pub led_more : (u row next to : ℕ) (inside : Bool) → u ≤ n → to ≡ link_of links u → inside ≡ square reach v u →
      ((b : ℕ) → bit next b ≡ bit row b or (eqb b to and inside)) → LedBelow u row → LedBelow (u + 1) next
  led_more u row next to inside h e f g m b =
      m b
      ∙ ap (λ (t : Bool). bit row b or t) (any_turn (leads_to reach (link_of links) v b) (n + 1) u (omega arith))
      ∙ rw (g b, e, f, eqb_swap b (link_of links u)) (or_turn (bit row b) (square reach v u) (eqb (link_of links u) b) (any (leads_to reach (link_of links) v b) (from (n + 1 - (u + 1)) (u + 1))))

  pub led_all : (u row : ℕ) → n < u → LedBelow u row → (b : ℕ) → bit row b ≡ any (leads_to reach (link_of links) v b) (from (n + 1 - 1) 1)
  led_all u row h m b = sym (m b ∙ ap (λ (t : Bool). bit row b or t) (any_end (leads_to reach (link_of links) v b) (n + 1) u (omega arith)) ∙ or-false (bit row b))

-- the terms that begin a path
module _ (n : ℕ) (reach : List ℕ) (p : ℕ → ℕ) (v row led w : ℕ) (reached_is : (b : ℕ) → bit row b ≡ square reach v b and (ltb 0 b and ltb b (n + 1)))
    (led_is : (b : ℕ) → bit led b ≡ any (leads_to reach p v b) (from (n + 1 - 1) 1)) (heads_are : (b : ℕ) → bit w b ≡ bit row b and not (bit led b)) where
  pub heads_row : (b : ℕ) → bit w b ≡ begins n (reach_in reach) p v b and (ltb 0 b and ltb b (n + 1))
  unfolding ◌and◌
  heads_row b = heads_are b ∙ rw (reached_is b, led_is b) (go (square reach v b) refl)
    where
      go : (t : Bool) → square reach v b ≡ t → (t and (ltb 0 b and ltb b (n + 1))) and not (any (leads_to reach p v b) (from (n + 1 - 1) 1)) ≡ begins n
          (reach_in reach) p v b and (ltb 0 b and ltb b (n + 1))
      go true e = and_swap (ltb 0 b and ltb b (n + 1)) _ ∙ ap (λ (t : Bool). t and (ltb 0 b and ltb b (n + 1))) (sym (begins_search n reach p v b e))
      go false e = ap (λ (t : Bool). t and (ltb 0 b and ltb b (n + 1))) (sym (begins_outside n reach p v b e))

-- a search among them
pub heads_without : (n : ℕ) (reach : List ℕ) (p : ℕ → ℕ) (v w : ℕ) →
    ((b : ℕ) → bit w b ≡ begins n (reach_in reach) p v b and (ltb 0 b and ltb b (n + 1))) →
    find (begins_without n (reach_in reach) p v) (from (n + 1 - 1) 1) ≡ find (λ b. bit w b and not (on_path p v n b)) (from (n + 1 - 1) 1)
heads_without n reach p v w e =
    find_in (begins_without n (reach_in reach) p v) (λ b. bit w b and not (on_path p v n b)) (n + 1 - 1) 1 (n + 1 - 1) 1 (omega arith) (omega arith) same
    (λ b h.
    let inside = and_right (begins n (reach_in reach) p v b) _ (sym (e b) ∙ and_left (bit w b) _ h) in
    let low = ltb-true 0 b (and_left (ltb 0 b) _ inside) in
    let high = ltb-true b (n + 1) (and_right (ltb 0 b) _ inside) in
    (low, omega (arith, high)))
  where
    same : (b : ℕ) → 1 ≤ b → b < 1 + (n + 1 - 1) → begins_without n (reach_in reach) p v b ≡ bit w b and not (on_path p v n b)
    same b l h = ap (λ (t : Bool). t and not (on_path p v n b)) (sym (e b ∙ rw (lt-ltb 0 b l, lt-ltb b (n + 1) (omega arith)) (and_both_true (begins n (reach_in reach) p v b))))

-- the two lowest of them say whether there is one path
module _ (n : ℕ) (few : n ≤ 16) (reach : List ℕ) (p : ℕ → ℕ) (v w : ℕ) (e : (b : ℕ) → bit w b ≡ begins n (reach_in reach) p v b and (ltb 0 b and ltb b (n + 1))) where
  lowest : find (bit w) (from 32 0) ≡ find (begins n (reach_in reach) p v) (from (n + 1 - 1) 1)
  lowest = lowest_term (begins n (reach_in reach) p v) n few w e ∙ ap (find (begins n (reach_in reach) p v)) (terms-from n)

  pub heads_none : find (bit w) (from 32 0) ≡ none → basin_link n p (reached n (reach_in reach) v) v ≡ 0
  heads_none f = basin_none n reach p v (sym lowest ∙ f)

  module _ (fits : w < 2 ^ 32) (a : ℕ) (f : find (bit w) (from 32 0) ≡ some a) where
    next : find (bit (bit_and w (w - 1))) (from 32 0) ≡ find (begins n (reach_in reach) p v) (from (n + 1 - (a + 1)) (a + 1))
    next = next_term (begins n (reach_in reach) p v) n few w e fits a f

    pub heads_one : find (bit (bit_and w (w - 1))) (from 32 0) ≡ none → basin_link n p (reached n (reach_in reach) v) v ≡ a
    heads_one g = basin_one n reach p v a (sym lowest ∙ f) (sym next ∙ g)

    pub heads_several : (b : ℕ) → find (bit (bit_and w (w - 1))) (from 32 0) ≡ some b →
        basin_link n p (reached n (reach_in reach) v) v ≡ Option.get_or (find (λ x. bit w x and not (on_path p v n x)) (from (n + 1 - 1) 1)) 0
    heads_several b g = basin_several n reach p v a b (sym lowest ∙ f) (sym next ∙ g) ∙ ap (λ (o : Option ℕ). Option.get_or o 0) (heads_without n reach p v w e)

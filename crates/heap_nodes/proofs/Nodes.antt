-- The terms that are nodes, marked, counted and numbered.
use Prim.Native.Nat.{ℕ, zero, suc, ◌+◌, ◌-◌, ◌≤◌, ◌<◌}
use native.Mathlib.Omega.{arith}
use mathlib.Core.Path.{◌≡◌, refl, sym, ap, ◌∙◌}
use mathlib.Core.Logic.{⊎_elim}
use mathlib.Core.Bool.{Bool, true, false, not, cond, ◌&&◌}
use mathlib.Core.List.{List, [], ◌∷◌, Memᴰ}
use lib.ListN.{length, get_or, set, replicate, get_or-replicate}
use lib.Seq.{get_or-set_same, get_or-set_other}
use lib.Dec.{eqb, ltb}
use borrow.Author.Tests.{lt-ltb, eq-eqb, ne_eqb, eqb-true, eqb-false, ltb-true, ltb-false}
use Rattle.logic.specs.Search.{◌or◌, from, any, select}
use Rattle.logic.specs.Facts.{Facts, terms}
use Rattle.logic.specs.Shown.{or_zero, nodes, place_of}
use Rattle.theory.proofs.Basics.Search.{bool_cases, select-mem, from-mem}
use Rattle.theory.proofs.Completeness.Placed.{length_from}
use Rattle.rows.proofs.Loops.{from_next}
use Rattle.heap_nodes.specs.Nodes.{node_of, marked, nodes_by}
use Rattle.rows.proofs.Selections.{terms-from, any_end, any_turn, select_end, select_here, select_skip, select_alike}
use Rattle.completion.proofs.Links.{number_set}
use Rattle.completion.proofs.Completing.{live_selected}

pub nodes_by_lem : (n : ℕ) (s : Facts) → nodes n s ≡ nodes_by s.rep n
unfolding nodes nodes_by
nodes_by_lem n s = ap or_zero (live_selected n s)

-- Marking

none_turn : (a b c : Bool) → a && not (b or c) ≡ (a && not b) && not c
unfolding ◌or◌
none_turn true true c = refl
none_turn true false c = refl
none_turn false b c = refl

none_end : (a : Bool) → a && true ≡ a
none_end true = refl
none_end false = refl

-- 0 is a node where nothing is selected
zero_node : (q : ℕ → Bool) (xs : List ℕ) → cond (not (any q xs)) (0 ∷ select q xs) (select q xs) ≡ or_zero (select q xs)
unfolding any select or_zero ◌or◌
zero_node q [] = refl
zero_node q (x ∷ xs) = go (q x) (zero_node q xs)
  where
    go : (t : Bool) → cond (not (any q xs)) (0 ∷ select q xs) (select q xs) ≡ or_zero (select q xs) →
        cond (not (t or any q xs)) (0 ∷ cond t (x ∷ select q xs) (select q xs)) (cond t (x ∷ select q xs) (select q xs)) ≡ or_zero (cond t (x ∷ select q xs) (select q xs))
    go true ih = refl
    go false ih = ih

-- the numbers from 1 below t are marked as the test says, and `none` says whether it failed for all of them
pub record Marked (q : ℕ → Bool) (n t : ℕ) (marks : List Bool) (none : Bool) : Type 0 where
  pub full : length marks ≡ 17
  pub low : 1 ≤ t
  pub each : (x : ℕ) → 1 ≤ x → x < t → get_or marks x false ≡ q x
  pub whether : not (any q (from (n + 1 - 1) 1)) ≡ none && not (any q (from (n + 1 - t) t))

pub marked-none : (q : ℕ → Bool) (n : ℕ) (marks : List Bool) → length marks ≡ 17 → Marked q n 1 marks true
marked-none q n marks h = record { full = h; low = omega arith; each = λ x l r. absurd (omega arith); whether = refl }

module _ (q : ℕ → Bool) (n t : ℕ) (marks : List Bool) (none : Bool) (m : Marked q n t marks none) where
  pub marked_more : t ≤ n → n ≤ 16 → (b : Bool) → b ≡ q t → length (set marks t b) ≡ 17 → Marked q n (t + 1) (set marks t b) (none && not b)
  marked_more h k b e full =
      record {
        full = full;
        low = omega arith;
        each = λ x l r. ⊎_elim
            (λ i. let p = eqb-true x t i in rw p (get_or-set_same marks t b false (omega (arith, m.full)) ∙ e))
            (λ i. let d = eqb-false x t i in get_or-set_other marks t x b false d ∙ m.each x l (omega arith))
            (bool_cases (eqb x t));
        whether = m.whether ∙ ap (λ (a : Bool). none && not a) (any_turn q (n + 1) t (omega arith)) ∙ none_turn none (q t) _ ∙ rw e;
      }

  pub marked_all : n < t → n ≤ 16 → marked (set marks 0 none) n ≡ or_zero (select q (from (n + 1 - 1) 1))
  unfolding marked select
  marked_all h k = ap (select (λ x. get_or (set marks 0 none) x false)) (from_next (n + 1) 0 (omega arith)) ∙ first ∙ zero_node q (from (n + 1 - 1) 1)
    where
      all_failed : none ≡ not (any q (from (n + 1 - 1) 1))
      all_failed = sym (m.whether ∙ ap (λ (a : Bool). none && not a) (any_end q (n + 1) t (omega arith)) ∙ none_end none)

      others : select (λ x. get_or (set marks 0 none) x false) (from (n + 1 - 1) 1) ≡ select q (from (n + 1 - 1) 1)
      others = select_alike _ q (n + 1 - 1) 1 (λ x l r. get_or-set_other marks 0 x none false (omega arith) ∙ m.each x l (omega arith))

      first : cond (get_or (set marks 0 none) 0 false) (0 ∷ select (λ x. get_or (set marks 0 none) x false) (from (n + 1 - 1) 1))
          (select (λ x. get_or (set marks 0 none) x false) (from (n + 1 - 1) 1)) ≡ cond (not (any q (from (n + 1 - 1) 1)))
          (0 ∷ select q (from (n + 1 - 1) 1)) (select q (from (n + 1 - 1) 1))
      first = rw (get_or-set_same marks 0 none false (omega (arith, m.full)), others, all_failed)

-- Numbering

-- where a number that is not in a list would stand
place_absent : (x : ℕ) (ts : List ℕ) → ((y : ℕ) → Memᴰ y ts → y ≡ x → ⊥) → place_of x ts ≡ length ts
unfolding place_of
place_absent x [] h = refl
place_absent x (t ∷ ts) h = rw (ne_eqb t x (h t (Memᴰ.head refl))) (ap suc (place_absent x ts (λ y m. h y (Memᴰ.tail m))))

-- k of the m nodes are numbered, those of the terms below t
pub record Numbered (q : ℕ → Bool) (n m t k : ℕ) (cur : ℕ → ℕ) : Type 0 where
  pub counted : k + length (select q (from (n + 1 - t) t)) ≡ m
  pub rest : (x : ℕ) → t ≤ x → place_of x (select q (from (n + 1 - 0) 0)) ≡ k + place_of x (select q (from (n + 1 - t) t))
  pub done : (x : ℕ) → x < t → cur x ≡ place_of x (select q (from (n + 1 - 0) 0))
  pub above : (x : ℕ) → t ≤ x → x ≤ 16 → cur x ≡ m

pub numbered_none : (q : ℕ → Bool) (n m : ℕ) (cur : ℕ → ℕ) → m ≡ length (select q (from (n + 1 - 0) 0)) → ((x : ℕ) → x ≤ 16 → cur x ≡ m) → Numbered q n m 0 0 cur
numbered_none q n m cur e f = record { counted = omega arith; rest = λ x l. omega arith; done = λ x l. absurd (omega arith); above = λ x l h. f x h }

module _ (q : ℕ → Bool) (n m t k : ℕ) (cur : ℕ → ℕ) (now : Numbered q n m t k cur) where
  later : (y : ℕ) → Memᴰ y (select q (from (n + 1 - (t + 1)) (t + 1))) → y ≡ t → ⊥
  later y i e = let r = from-mem _ _ y (select-mem q y _ i).0 in omega arith

  pub numbered_skip : t ≤ n → n ≤ 16 → q t ≡ false → Numbered q n m (t + 1) k cur
  numbered_skip h room e =
      let s = select_skip q (n + 1) t (omega arith) e in
      let left = ap length s in
      record {
        counted = omega (arith, now.counted);
        rest = λ x l. now.rest x (omega arith) ∙ ap (λ (ts : List ℕ). k + place_of x ts) s;
        done = λ x l. ⊎_elim
            (λ i. rw (eqb-true x t i) (now.above t (omega arith) (omega arith) ∙ omega (arith, now.counted, now.rest t (omega arith), ap (place_of t) s, place_absent t _ later)))
            (λ i. let d = eqb-false x t i in now.done x (omega arith))
            (bool_cases (eqb x t));
        above = λ x l r. now.above x (omega arith) r;
      }

  pub numbered_here : t ≤ n → n ≤ 16 → q t ≡ true → (cur' : ℕ → ℕ) → ((x : ℕ) → cur' x ≡ cond (eqb x t) (k + 1) (cur x)) → Numbered q n m (t + 1) (k + 1) cur'
  unfolding place_of
  numbered_here h room e cur' w =
      let s = select_here q (n + 1) t (omega arith) e in
      let left = ap length s in
      record {
        counted = omega (arith, now.counted);
        rest = λ x l. now.rest x (omega arith) ∙ ap (λ (ts : List ℕ). k + place_of x ts) s ∙ rw (ne_eqb t x (λ i. omega arith)) (omega arith);
        done = λ x l. w x ∙ ⊎_elim
            (λ i. rw (eqb-true x t i, eq-eqb t t refl) (sym (now.rest t (omega arith) ∙ ap (λ (ts : List ℕ). k + place_of t ts) s ∙ rw (eq-eqb t t refl))))
            (λ i. let d = eqb-false x t i in rw i (now.done x (omega arith)))
            (bool_cases (eqb x t));
        above = λ x l r. w x ∙ rw (ne_eqb x t (λ i. omega arith)) (now.above x (omega arith) r);
      }

  pub numbered_all : n < t → (x : ℕ) → x ≤ 16 → cur x ≡ place_of x (select q (from (n + 1 - 0) 0))
  unfolding place_of
  numbered_all h x r = ⊎_elim (λ l. now.done x (ltb-true x t l)) (λ l. let o = ltb-false x t l in past o) (bool_cases (ltb x t))
    where
      past : t ≤ x → cur x ≡ place_of x (select q (from (n + 1 - 0) 0))
      past o =
          let s = select_end q (n + 1) t (omega arith) in
          let none = ap length s in
          now.above x o r ∙ sym (now.rest x o ∙ ap (λ (ts : List ℕ). k + place_of x ts) s ∙ omega (arith, now.counted))

-- Counting

module _ (q : ℕ → Bool) (n t count : ℕ) (whole : ℕ) (left : count + length (select q (from (n + 1 - t) t)) ≡ whole) where
  pub counted_skip : t ≤ n → q t ≡ false → count + length (select q (from (n + 1 - (t + 1)) (t + 1))) ≡ whole
  counted_skip h e = let s = ap length (select_skip q (n + 1) t (omega arith) e) in omega arith

  pub counted_here : t ≤ n → q t ≡ true → count + 1 + length (select q (from (n + 1 - (t + 1)) (t + 1))) ≡ whole
  counted_here h e = let s = ap length (select_here q (n + 1) t (omega arith) e) in omega arith

  pub counted_all : n < t → count ≡ whole
  counted_all h = let s = ap length (select_end q (n + 1) t (omega arith)) in omega arith

-- a list that holds m everywhere
pub node_repeat : (m x : ℕ) → x ≤ 16 → node_of (replicate 17 m) x ≡ m
unfolding node_of
node_repeat m x h = get_or-replicate 17 x m 0 (omega arith)

pub node_set : (list : List ℕ) (t : ℕ) → t < length list → (v x : ℕ) → node_of (set list t v) x ≡ cond (eqb x t) v (node_of list x)
unfolding node_of
node_set list t h v x = number_set list t h v x

-- Every term

select_every : (q : ℕ → Bool) (k i : ℕ) → ((x : ℕ) → i ≤ x → x < i + k → q x ≡ true) → select q (from k i) ≡ from k i
unfolding select from
select_every q zero i h = refl
select_every q (suc k) i h = rw (h i (omega arith) (omega arith)) (ap (λ (xs : List ℕ). i ∷ xs) (select_every q k (suc i) (λ x l r. h x (omega arith) (omega arith))))

pub every_selected : (n : ℕ) → select (ltb 0) (from (n + 1 - 0) 0) ≡ terms n
every_selected n =
    select_skip (ltb 0) (n + 1) 0 (omega arith) refl
    ∙ select_every (ltb 0) (n + 1 - 1) 1 (λ x l r. lt-ltb 0 x l)
    ∙ sym (terms-from n)

pub every_length : (n : ℕ) → length (select (ltb 0) (from (n + 1 - 0) 0)) ≡ n
unfolding terms
every_length n = ap length (every_selected n) ∙ length_from n 1

-- what is marked, and where it is numbered
pub marked_below : (marks : List Bool) (n x : ℕ) → Memᴰ x (marked marks n) → x ≤ n
unfolding marked
marked_below marks n x m = let r = from-mem (n + 1 - 0) 0 x (select-mem (λ t. get_or marks t false) x (from (n + 1 - 0) 0) m).0 in omega arith

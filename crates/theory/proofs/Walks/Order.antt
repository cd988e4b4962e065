-- The choice of a move. An order list that passes check 1 holds every rule, so where nothing is chosen no rule applies.
use Prim.Native.Nat.{ℕ, suc, ◌≤◌, ◌<◌}
use native.Mathlib.Omega.{arith}
use mathlib.Core.Path.{◌≡◌, refl, sym, ap, ap₂, ◌∙◌, subst}
use mathlib.Core.Bool.{true, false}
use mathlib.Core.List.{List, [], ◌∷◌, Memᴰ}
use mathlib.Core.Option.{Option, none, some, Option-elim, some-injective}
use lib.ListN.{length}
use lib.Dec.{eqb}
use Rattle.logic.specs.Search.{from, keep, or_else, all, any, first_of, find}
use Rattle.logic.specs.Query.{is_order}
use Rattle.logic.specs.Facts.{Facts, link_numbers}
use Rattle.logic.specs.Rules.{Rule, REFLEX, TRANS1, TRANS2, FUNC, CYCLE, SCC, TOTAL, SHARE, rule_number, rules, rule_of, Triple, triple, Move, move, applies, triples, choose, move_number, move_of}
use Rattle.logic.specs.Walk.{order_of}
use Rattle.theory.proofs.Paths.Ranged.{InRange}
use Rattle.theory.proofs.Basics.Compare.{eqb-true, eqb_self}
use Rattle.theory.proofs.Basics.Search.{true-false, and_right, keep_some, keep-none, any-true, all_true, first_of-some}
use Rattle.theory.proofs.Basics.Search.{first_of-none, first_of_empty, find-some, from-mem, from_intro, flat_map_intro, map_intro}

-- Lists that hold every rule

abbrev pub HoldsAll : List Rule → Type 0
HoldsAll order = (r : Rule) → Memᴰ r order

pub rule_of_number : (r : Rule) → rule_of (rule_number r) ≡ some r
unfolding rule_of rule_number rules find first_of keep or_else
rule_of_number REFLEX = refl
rule_of_number TRANS1 = refl
rule_of_number TRANS2 = refl
rule_of_number FUNC = refl
rule_of_number CYCLE = refl
rule_of_number SCC = refl
rule_of_number TOTAL = refl
rule_of_number SHARE = refl

number_range : (r : Rule) → (1 ≤ rule_number r) × (rule_number r < 9)
unfolding rule_number
number_range REFLEX = omega arith
number_range TRANS1 = omega arith
number_range TRANS2 = omega arith
number_range FUNC = omega arith
number_range CYCLE = omega arith
number_range SCC = omega arith
number_range TOTAL = omega arith
number_range SHARE = omega arith

pub rules_full : HoldsAll rules
unfolding rule_of
rules_full r = (find-some (λ r'. eqb (rule_number r') (rule_number r)) rules r (rule_of_number r)).0

-- the number of a rule in an order list puts the rule into the list of rules
order_of_intro : (order : List ℕ) (r : Rule) → Memᴰ (rule_number r) order → Memᴰ r (order_of order)
unfolding order_of Option-elim
order_of_intro order r m = flat_map_intro (λ k. Option-elim (rule_of k) [] (λ r'. r' ∷ [])) (rule_number r) r m (rw (rule_of_number r) (Memᴰ.head refl))

pub order_full : (order : List ℕ) → is_order order ≡ true → HoldsAll (order_of order)
unfolding is_order
order_full order h r = go (any-true (eqb (rule_number r)) order each)
  where
    within : (1 ≤ rule_number r) × (rule_number r < 9)
    within = number_range r

    each : any (eqb (rule_number r)) order ≡ true
    each =
        all_true (λ k. any (eqb k) order) (rule_number r) (and_right (eqb (length order) 8) (all (λ k. any (eqb k) order) (from 8 1)) h)
        (from_intro 8 1 (rule_number r) within.0 within.1)

    go : (k : ℕ) × Memᴰ k order × (eqb (rule_number r) k ≡ true) → Memᴰ r (order_of order)
    go k = order_of_intro order r (subst (λ (j : ℕ). Memᴰ j order) (sym (eqb-true (rule_number r) k.0 k.2)) k.1)

-- The move that a rule line names

move_number-same : (i j : ℕ) (r r' : Rule) → 1 ≤ i → 1 ≤ j → move_number j r' ≡ move_number i r → (j ≡ i) × (r' ≡ r)
unfolding move_number
move_number-same i j r r' li lj e =
    let a = number_range r in
    let b = number_range r' in
    let same : rule_number r' ≡ rule_number r = omega (arith, a, b, e) in
    (omega (arith, a, b, e), some-injective r' r (sym (rule_of_number r') ∙ ap rule_of same ∙ rule_of_number r))

pub move_of_number : (links i : ℕ) (r : Rule) (t : Triple) → InRange links i → move_of links (move_number i r) t ≡ some (move i r t)
unfolding move_of link_numbers
move_of_number links i r t k = go (move_of links (move_number i r) t) refl
  where
    at_rule : ℕ → Rule → Option Move
    at_rule j r' = keep (eqb (move_number j r') (move_number i r)) (move j r' t)

    at_link : ℕ → Option Move
    at_link j = first_of (at_rule j) rules

    go : (o : Option Move) → move_of links (move_number i r) t ≡ o → o ≡ some (move i r t)
    go none e =
        let l = first_of-none at_link i e (from_intro links 1 i k.0 (omega arith)) in
        let f = first_of-none (at_rule i) r l (rules_full r) in
        absurd (true-false (eqb_self (move_number i r)) (keep-none (eqb (move_number i r) (move_number i r)) (move i r t) f))
    go (some m) e =
        let l = first_of-some at_link (from links 1) m e in
        let f = first_of-some (at_rule l.0) rules m l.2 in
        let h = keep_some (eqb (move_number l.0 f.0) (move_number i r)) f.2 in
        let (p, q) = move_number-same i l.0 r f.0 k.0 (from-mem links 1 l.0 l.1).0 (eqb-true (move_number l.0 f.0) (move_number i r) h.0) in
        ap some (sym h.1 ∙ ap₂ (λ (j : ℕ) (r' : Rule). move j r' t) p q)

-- What is chosen applies; where nothing is chosen, nothing applies

pub triples_full : (n x y z : ℕ) → x ≤ n → y ≤ n → z ≤ n → Memᴰ (triple x y z) (triples n)
unfolding triples
triples_full n x y z hx hy hz = flat_map_intro _ x _ (up_to x hx) (flat_map_intro _ y _ (up_to y hy) (map_intro (triple x y) z (up_to z hz)))
  where
    up_to : (t : ℕ) → t ≤ n → Memᴰ t (from (suc n) 0)
    up_to t h = from_intro (suc n) 0 t (omega arith) (omega arith)

module _ (n : ℕ) (s : Facts) where
  -- the move of a rule at a triple, where it applies
  abbrev try_at : Rule → ℕ → Triple → Option Move
  try_at r i t = keep (applies n s (move i r t)) (move i r t)

  -- the first place of a rule by some link, and by any
  abbrev try_link : Rule → ℕ → Option Move
  try_link r i = first_of (try_at r i) (triples n)

  abbrev try_rule : Rule → Option Move
  try_rule r = first_of (try_link r) (link_numbers s.links)

  pub choose-some : (order : List Rule) (m : Move) → choose n order s ≡ some m → applies n s m ≡ true
  unfolding choose
  choose-some order m h =
      let r = first_of-some try_rule order m h in
      let i = first_of-some (try_link r.0) (link_numbers s.links) m r.2 in
      let t = first_of-some (try_at r.0 i.0) (triples n) m i.2 in
      let k = keep_some (applies n s (move i.0 r.0 t.0)) t.2 in
      rw k.1 at k.0

  pub choose-none : (order : List Rule) → HoldsAll order → choose n order s ≡ none → (i : ℕ) (r : Rule) (t : Triple) → InRange s.links i → Memᴰ t (triples n) → applies n s (move i r t) ≡ false
  unfolding choose link_numbers
  choose-none order full h i r t k m =
      let at_rule = first_of-none try_rule r h (full r) in
      let at_link = first_of-none (try_link r) i at_rule (from_intro s.links 1 i k.0 (omega arith)) in
      keep-none (applies n s (move i r t)) (move i r t) (first_of-none (try_at r i) t at_link m)

  -- so where one list of every rule chooses nothing, no list does
  pub choose_nothing : (order order' : List Rule) → HoldsAll order → choose n order s ≡ none → choose n order' s ≡ none
  unfolding choose keep link_numbers
  choose_nothing order order' full h =
      first_of_empty try_rule order'
      (λ r m. first_of_empty (try_link r) (from s.links 1)
      (λ i j. let (one, most) = from-mem s.links 1 i j in
      first_of_empty (try_at r i) (triples n) (λ t k. rw (choose-none order full h i r t (one, omega (arith, most)) k) refl)))

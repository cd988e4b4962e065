-- The pairs of a sheet that passes its checks.
use Prim.Native.Nat.{ℕ, suc, ◌+◌, ◌-◌, ◌*◌, ◌≤◌, ◌<◌}
use native.Mathlib.Omega.{arith}
use mathlib.Core.Path.{◌≡◌, sym, ◌∙◌, subst}
use mathlib.Core.Bool.{true, false}
use mathlib.Core.List.{List, Memᴰ}
use lib.ListN.{length, get_or, drop, length-drop}
use lib.Seq.{get_or-drop}
use lib.Dec.{eqb, leb}
use borrow.Author.Tests.{eqb-true, eq-eqb, leb-true, le-leb}
use Rattle.logic.specs.Search.{from}
use Rattle.theory.proofs.Basics.Search.{not_of, and_left, and_right, and_intro, all_true, all_intro, from-mem, map-mem}
use Rattle.theory.proofs.Basics.Count.{get_d_mem}
use Rattle.ordering.specs.Sheet.{Pair, count_of, pair_at, pairs, laid_out, is_rule, rules_only}
use Rattle.ordering.specs.Promise.{WholeSheet, RuleNumbers}
use Rattle.ordering.proofs.Lists.{is_rule_lem, rule_is}
use Rattle.ordering.proofs.Rings.{Numbered}

pub laid_length : (sheet : List ℕ) → laid_out sheet ≡ true → length sheet ≡ 2 * count_of sheet + 1
unfolding laid_out
laid_length sheet h = eqb-true (length sheet) (2 * count_of sheet + 1) (and_right _ _ h)

pub number_rule : (sheet : List ℕ) → rules_only sheet ≡ true → (k : ℕ) → suc k < length sheet → is_rule (get_or sheet (1 + k) 0) ≡ true
unfolding rules_only
number_rule sheet n k h =
    subst (λ (b : ℕ). is_rule b ≡ true) (get_or-drop 1 sheet k 0)
    (all_true is_rule (get_or (drop 1 sheet) k 0) n (get_d_mem (drop 1 sheet) k 0 (omega (arith, length-drop 1 sheet))))

pub sheet_numbered : (sheet : List ℕ) → laid_out sheet ≡ true → rules_only sheet ≡ true → Numbered (pairs sheet)
unfolding pairs
sheet_numbered sheet l n = record {
  earlier_rule = λ p m. (go p (map-mem (pair_at sheet) p (from (count_of sheet) 0) m)).0;
  later_rule = λ p m. (go p (map-mem (pair_at sheet) p (from (count_of sheet) 0) m)).1;
}
  where
    at : (j k : ℕ) → j ≡ 1 + k → j < length sheet → is_rule (get_or sheet j 0) ≡ true
    at j k e h = subst (λ (m : ℕ). is_rule (get_or sheet m 0) ≡ true) (sym e) (number_rule sheet n k (omega arith))

    go : (p : Pair) → (i : ℕ) × Memᴰ i (from (count_of sheet) 0) × (p ≡ pair_at sheet i) → (is_rule p.earlier ≡ true) × (is_rule p.later ≡ true)
    go p (i, m, e) =
        let b = from-mem (count_of sheet) 0 i m in
        let size = laid_length sheet l in
        subst (λ (q : Pair). (is_rule q.earlier ≡ true) × (is_rule q.later ≡ true)) (sym e)
        (at (2 * i + 1) (2 * i) (omega arith) (omega arith), at (2 * i + 2) (2 * i + 1) (omega arith) (omega arith))

pub laid_empty : (sheet : List ℕ) → length sheet ≡ 0 → laid_out sheet ≡ false
laid_empty sheet e = not_of (λ h. omega (arith, laid_length sheet h))

-- as a loop over the pairs meets them
pub pair_small : (sheet : List ℕ) → laid_out sheet ≡ true → rules_only sheet ≡ true → (i : ℕ) → i < count_of sheet → ((pair_at sheet i).earlier < 9) × ((pair_at sheet i).later < 9)
pair_small sheet l n i h =
    let size = laid_length sheet l in
    (below (2 * i + 1) (2 * i) (omega arith) (omega arith), below (2 * i + 2) (2 * i + 1) (omega arith) (omega arith))
  where
    below : (j k : ℕ) → j ≡ 1 + k → j < length sheet → get_or sheet j 0 < 9
    below j k e h = let r = is_rule_lem (get_or sheet (1 + k) 0) (number_rule sheet n k (omega arith)) in subst (λ (m : ℕ). get_or sheet m 0 < 9) (sym e) (omega arith)

-- the tests of a sheet are what the promise asks in words
pub laid_whole : (sheet : List ℕ) → laid_out sheet ≡ true → WholeSheet sheet
unfolding laid_out
laid_whole sheet h =
    record {
      count_within = leb-true (count_of sheet) _ (and_left _ _ h);
      length_is = omega (arith, laid_length sheet h);
    }

pub whole_laid : (sheet : List ℕ) → WholeSheet sheet → laid_out sheet ≡ true
unfolding laid_out
whole_laid sheet w = and_intro (le-leb (count_of sheet) 28 w.count_within) (eq-eqb (length sheet) (2 * count_of sheet + 1) (omega (arith, w.length_is)))

pub rules_numbers : (sheet : List ℕ) → rules_only sheet ≡ true → RuleNumbers sheet
rules_numbers sheet n i l h =
    let e : 1 + (i - 1) ≡ i = omega arith in
    subst (λ (j : ℕ). (1 ≤ get_or sheet j 0) × (get_or sheet j 0 ≤ 8)) e (is_rule_lem (get_or sheet (1 + (i - 1)) 0) (number_rule sheet n (i - 1) (omega arith)))

-- a byte of a list stands at some place of it
mem_place : (x : ℕ) (xs : List ℕ) → Memᴰ x xs → (i : ℕ) × (i < length xs) × (x ≡ get_or xs i 0)
mem_place x xs (Memᴰ.head e) = (0, omega arith, e)
mem_place x xs (Memᴰ.tail {xs = ys} m) = let r = mem_place x ys m in (suc r.0, omega (arith, r.1), r.2)

pub numbers_rules : (sheet : List ℕ) → RuleNumbers sheet → rules_only sheet ≡ true
unfolding rules_only
numbers_rules sheet n = all_intro is_rule (drop 1 sheet) (λ x m. go x (mem_place x (drop 1 sheet) m))
  where
    go : (x : ℕ) → (i : ℕ) × (i < length (drop 1 sheet)) × (x ≡ get_or (drop 1 sheet) i 0) → is_rule x ≡ true
    go x (i, l, e) =
        let r = n (1 + i) (omega arith) (omega (arith, length-drop 1 sheet)) in
        subst (λ (b : ℕ). is_rule b ≡ true) (sym (e ∙ get_or-drop 1 sheet i 0)) (rule_is (get_or sheet (1 + i) 0) r.0 r.1)

-- Nodes that are written, and trees that stay.
use Prim.Native.Nat.{ℕ, ◌+◌, ◌*◌, ◌≤◌, ◌<◌}
use native.Mathlib.Omega.{arith}
use native.Mathlib.Nat.{mul-le-mul, zero-mul, suc-mul, add_comm}
use mathlib.Core.Path.{◌≡◌, sym, ap, ap₂, ◌∙◌, subst}
use mathlib.Core.Logic.{⊎_elim}
use mathlib.Core.Bool.{true}
use mathlib.Core.List.{List, [], ◌∷◌, ◌++◌, map}
use lib.ListN.{length, get_or, set, length-append, length-map, length-set}
use lib.Seq.{get_or-set_same, get_or-set_other}
use lib.Dec.{ltb}
use borrow.Author.Tests.{ltb-true, ltb-false}
use Rattle.logic.specs.Search.{flat_map}
use Rattle.theory.proofs.Basics.Search.{bool_cases}
use Rattle.formula.specs.Grammar.{Formula, literal, both, either}
use Rattle.formula.specs.Expansion.{Conjunction, expand}
use Rattle.formula_reader.specs.Tree.{capped, conjunctions, put_node, Node, Tree, leaf, conjoined, disjoined}
use Rattle.formula_reader.proofs.Laws.{cap_low, cap_high}

module _ (nodes : List ℕ) (i kind a b count : ℕ) where
  abbrev one : List ℕ
  one = set nodes (4 * i) kind

  abbrev two : List ℕ
  two = set one (4 * i + 1) a

  abbrev three : List ℕ
  three = set two (4 * i + 2) b

  pub put_node_kept : (j : ℕ) → j < 4 * i → get_or (put_node nodes i kind a b count) j 0 ≡ get_or nodes j 0
  unfolding put_node
  put_node_kept j h =
      get_or-set_other three (4 * i + 3) j count 0 (λ e. omega arith)
      ∙ get_or-set_other two (4 * i + 2) j b 0 (λ e. omega arith)
      ∙ get_or-set_other one (4 * i + 1) j a 0 (λ e. omega arith)
      ∙ get_or-set_other nodes (4 * i) j kind 0 (λ e. omega arith)

  pub put_node-length : length (put_node nodes i kind a b count) ≡ length nodes
  unfolding put_node
  put_node-length = simp length-set

  pub put_node_node : i < 512 → length nodes ≡ 2048 → Node (put_node nodes i kind a b count) i kind a b count
  unfolding put_node
  put_node_node h e =
      record {
        kind_is =
            get_or-set_other three (4 * i + 3) (4 * i) count 0 (λ e. omega arith)
            ∙ get_or-set_other two (4 * i + 2) (4 * i) b 0 (λ e. omega arith)
            ∙ get_or-set_other one (4 * i + 1) (4 * i) a 0 (λ e. omega arith)
            ∙ get_or-set_same nodes (4 * i) kind 0 (omega arith);
        first_is =
            get_or-set_other three (4 * i + 3) (4 * i + 1) count 0 (λ e. omega arith)
            ∙ get_or-set_other two (4 * i + 2) (4 * i + 1) b 0 (λ e. omega arith)
            ∙ get_or-set_same one (4 * i + 1) a 0 (simp length-set (omega arith));
        second_is = get_or-set_other three (4 * i + 3) (4 * i + 2) count 0 (λ e. omega arith) ∙ get_or-set_same two (4 * i + 2) b 0 (simp length-set (omega arith));
        count_is = get_or-set_same three (4 * i + 3) count 0 (simp length-set (omega arith));
      }

-- A tree is made of the nodes up to its root
pub tree_kept : {before : List ℕ} {i : ℕ} {f : Formula} (after : List ℕ) (m : ℕ) → ((j : ℕ) → j < 4 * m → get_or after j 0 ≡ get_or before j 0) → i < m → Tree before i f → Tree after i f
tree_kept {before} {i} after m k h (leaf l n e) = leaf l n
    (record {
      kind_is = k (4 * i) (omega arith) ∙ e.kind_is;
      first_is = k (4 * i + 1) (omega arith) ∙ e.first_is;
      second_is = k (4 * i + 2) (omega arith) ∙ e.second_is;
      count_is = k (4 * i + 3) (omega arith) ∙ e.count_is;
    })
tree_kept {before} {i} after m k h (conjoined a b e la lb ta tb) =
    conjoined a b (record {
      kind_is = k (4 * i) (omega arith) ∙ e.kind_is;
      first_is = k (4 * i + 1) (omega arith) ∙ e.first_is;
      second_is = k (4 * i + 2) (omega arith) ∙ e.second_is;
      count_is = k (4 * i + 3) (omega arith) ∙ e.count_is;
    }) la lb
    (tree_kept after m k (omega arith) ta) (tree_kept after m k (omega arith) tb)
tree_kept {before} {i} after m k h (disjoined a b e la lb ta tb) =
    disjoined a b (record {
      kind_is = k (4 * i) (omega arith) ∙ e.kind_is;
      first_is = k (4 * i + 1) (omega arith) ∙ e.first_is;
      second_is = k (4 * i + 2) (omega arith) ∙ e.second_is;
      count_is = k (4 * i + 3) (omega arith) ∙ e.count_is;
    }) la lb
    (tree_kept after m k (omega arith) ta) (tree_kept after m k (omega arith) tb)

-- How many conjunctions

length-products : (cs ds : List Conjunction) → length (flat_map (λ c. map (λ d. c ++ d) ds) cs) ≡ length cs * length ds
unfolding flat_map
length-products [] ds = sym (zero-mul (length ds))
length-products (c ∷ cs) ds = length-append (map (λ d. c ++ d) ds) (flat_map (λ c. map (λ d. c ++ d) ds) cs)
    ∙ ap₂ (λ (x y : ℕ). x + y) (length-map ds (λ d. c ++ d)) (length-products cs ds) ∙ add_comm (length ds) (length cs * length ds)
    ∙ sym (suc-mul (length cs) (length ds))

pub expand_both : (f g : Formula) → length (expand (both f g)) ≡ length (expand f) * length (expand g)
unfolding expand
expand_both f g = length-products (expand f) (expand g)

pub expand_either : (f g : Formula) → length (expand (either f g)) ≡ length (expand f) + length (expand g)
unfolding expand
expand_either f g = length-append (expand f) (expand g)

pub expand-some : (f : Formula) → 1 ≤ length (expand f)
unfolding expand
expand-some (literal l n) = omega arith
expand-some (both f g) = subst (λ (n : ℕ). 1 ≤ n) (sym (length-products (expand f) (expand g))) (mul-le-mul (expand-some f) (expand-some g))
expand-some (either f g) = let h : 1 ≤ length (expand f) = expand-some f in subst (λ (n : ℕ). 1 ≤ n) (sym (length-append (expand f) (expand g))) (omega arith)

-- counts above 64 are not told apart, before or behind a sum or a product of counts that are not 0

cap_cap : (x : ℕ) → capped (capped x) ≡ capped x
cap_cap x = ⊎_elim (λ (e : ltb 64 x ≡ true). let h : 64 < x = ltb-true 64 x e in
    rw (cap_high x h) (cap_high 65 (omega arith))) (λ e. let h : x ≤ 64 = ltb-false 64 x e in
    rw (cap_low x h) (cap_low x h)) (bool_cases (ltb 64 x))

cap_sum : (x y : ℕ) → capped (capped x + capped y) ≡ capped (x + y)
cap_sum x y =
    ⊎_elim
    (λ (e : ltb 64 x ≡ true). let h : 64 < x = ltb-true 64 x e in (rw (cap_high x h) (cap_high _ (omega arith))) ∙ sym (cap_high (x + y) (omega arith)))
    (λ e. let h : x ≤ 64 = ltb-false 64 x e in ⊎_elim
    (λ (d : ltb 64 y ≡ true). let g : 64 < y = ltb-true 64 y d in (rw (cap_high y g) (cap_high _ (omega arith))) ∙ sym (cap_high (x + y) (omega arith)))
    (λ d. let g : y ≤ 64 = ltb-false 64 y d in rw (cap_low x h, cap_low y g))
    (bool_cases (ltb 64 y)))
    (bool_cases (ltb 64 x))

cap_product : (x y : ℕ) → 1 ≤ x → 1 ≤ y → capped (capped x * capped y) ≡ capped (x * y)
cap_product x y p q =
    ⊎_elim
    (λ (e : ltb 64 x ≡ true). let h : 64 < x = ltb-true 64 x e in (rw (cap_high x h) (cap_high _ (large 65 (capped y) (omega arith) (cap_some y q)))) ∙ sym (cap_high (x * y) (large x y h q)))
    (λ e. let h : x ≤ 64 = ltb-false 64 x e in ⊎_elim
    (λ (d : ltb 64 y ≡ true). let g : 64 < y = ltb-true 64 y d in (rw (cap_high y g) (cap_high _ (larger (capped x) 65 (cap_some x p) (omega arith)))) ∙ sym (cap_high (x * y) (larger x y p g)))
    (λ d. let g : y ≤ 64 = ltb-false 64 y d in rw (cap_low x h, cap_low y g))
    (bool_cases (ltb 64 y)))
    (bool_cases (ltb 64 x))
  where
    large : (a b : ℕ) → 64 < a → 1 ≤ b → 64 < a * b
    large a b h k = let m : 65 * 1 ≤ a * b = mul-le-mul h k in omega arith

    larger : (a b : ℕ) → 1 ≤ a → 64 < b → 64 < a * b
    larger a b h k = let m : 1 * 65 ≤ a * b = mul-le-mul h k in omega arith

    cap_some : (a : ℕ) → 1 ≤ a → 1 ≤ capped a
    cap_some a h = ⊎_elim (λ (e : ltb 64 a ≡ true). omega (arith, cap_high a (ltb-true 64 a e))) (λ e. omega (arith, cap_low a (ltb-false 64 a e))) (bool_cases (ltb 64 a))

pub tree_count : {nodes : List ℕ} {i : ℕ} {f : Formula} → Tree nodes i f → get_or nodes (4 * i + 3) 0 ≡ conjunctions f
unfolding conjunctions expand
tree_count (leaf l n e) = e.count_is ∙ sym (cap_low 1 (omega arith))
tree_count (conjoined a b e la lb ta tb) = e.count_is
tree_count (disjoined a b e la lb ta tb) = e.count_is

module _ {nodes : List ℕ} {a b : ℕ} {f g : Formula} (ta : Tree nodes a f) (tb : Tree nodes b g) where
  sums : capped (capped (get_or nodes (4 * a + 3) 0) + capped (get_or nodes (4 * b + 3) 0)) ≡ conjunctions (either f g)
  unfolding conjunctions
  sums = ap₂ (λ (x y : ℕ). capped (capped x + capped y)) (tree_count ta) (tree_count tb) ∙ rw (cap_cap, cap_cap) (cap_sum (length (expand f)) (length (expand g))) ∙ ap capped (sym (expand_either f g))

  products : capped (capped (get_or nodes (4 * a + 3) 0) * capped (get_or nodes (4 * b + 3) 0)) ≡ conjunctions (both f g)
  unfolding conjunctions
  products = ap₂ (λ (x y : ℕ). capped (capped x * capped y)) (tree_count ta) (tree_count tb)
      ∙ rw (cap_cap, cap_cap) (cap_product (length (expand f)) (length (expand g)) (expand-some f) (expand-some g)) ∙ ap capped (sym (expand_both f g))

  pub either_tree : {after : List ℕ} (i : ℕ) → i < 512 → length nodes ≡ 2048 → a < i → b < i →
      after ≡ put_node nodes i 5 a b (capped (capped (get_or nodes (4 * a + 3) 0) + capped (get_or nodes (4 * b + 3) 0))) → Tree after i (either f g)
  either_tree i h e la lb w =
      let k : (j : ℕ) → j < 4 * i → get_or (put_node nodes i 5 a b (conjunctions (either f g))) j 0 ≡ get_or nodes j 0 = put_node_kept nodes i 5 a b (conjunctions (either f g)) in
      subst (λ (n : List ℕ). Tree n i (either f g)) (sym (w ∙ ap (put_node nodes i 5 a b) sums))
      (disjoined a b (put_node_node nodes i 5 a b (conjunctions (either f g)) h e) la lb (tree_kept _ i k la ta) (tree_kept _ i k lb tb))

  pub both_tree : {after : List ℕ} (i : ℕ) → i < 512 → length nodes ≡ 2048 → a < i → b < i →
      after ≡ put_node nodes i 4 a b (capped (capped (get_or nodes (4 * a + 3) 0) * capped (get_or nodes (4 * b + 3) 0))) → Tree after i (both f g)
  both_tree i h e la lb w =
      let k : (j : ℕ) → j < 4 * i → get_or (put_node nodes i 4 a b (conjunctions (both f g))) j 0 ≡ get_or nodes j 0 = put_node_kept nodes i 4 a b (conjunctions (both f g)) in
      subst (λ (n : List ℕ). Tree n i (both f g)) (sym (w ∙ ap (put_node nodes i 4 a b) products))
      (conjoined a b (put_node_node nodes i 4 a b (conjunctions (both f g)) h e) la lb (tree_kept _ i k la ta) (tree_kept _ i k lb tb))

-- How many entries each section of a joined query has: the first's, the second's, and one for each pair. Assumes nothing.
use Prim.Native.Nat.{ℕ, ◌+◌}
use native.Mathlib.Omega.{arith}
use mathlib.Core.Path.{◌≡◌, ap, ◌∙◌}
use mathlib.Core.List.{List, ◌++◌, map}
use lib.ListN.{length, length-append, length-map}
use Rattle.logic.specs.Query.{Query, term_count}
use Rattle.joining.specs.Pairs.{Pair}
use Rattle.joining.specs.Joined.{raised_entry, raised, pair_literal, joined}

-- a list, and another that is mapped
both_count : {A B : Type 0} (xs : List B) (f : A → B) (ys : List A) → length (xs ++ map f ys) ≡ length xs + length ys
both_count xs f ys = length-append xs (map f ys) ∙ ap (λ (k : ℕ). length xs + k) (length-map ys f)

module _ (a b : Query) (ps : List Pair) where
  abbrev n : ℕ
  n = term_count a

  pub count_terms : term_count (joined a b ps) ≡ term_count a + term_count b
  unfolding joined term_count
  count_terms = both_count a.entries.terms (raised_entry n) b.entries.terms

  pub count_equalities : length (joined a b ps).equalities ≡ length a.equalities + length b.equalities + length ps
  unfolding joined
  count_equalities =
      let raised_all = map (raised n n) b.equalities in
      omega (arith, length-append a.equalities (raised_all ++ map (pair_literal n) ps), both_count raised_all (pair_literal n) ps, length-map b.equalities (raised n n))

  pub count_reachability : length (joined a b ps).reachability ≡ length a.reachability + length b.reachability
  unfolding joined
  count_reachability = both_count a.reachability (raised n n) b.reachability

  pub count_fields : length (joined a b ps).fields ≡ length a.fields + length b.fields
  unfolding joined
  count_fields = both_count a.fields (raised 0 n) b.fields

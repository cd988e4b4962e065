-- The links of the nodes from j on, tried one after another.
use Prim.Native.Nat.{ℕ, ◌+◌, ◌-◌, ◌≤◌, ◌<◌}
use native.Mathlib.Omega.{arith}
use mathlib.Core.Path.{◌≡◌, sym, ap, ◌∙◌, subst}
use mathlib.Core.Bool.{Bool}
use mathlib.Core.List.{List, [], ◌∷◌}
use mathlib.Core.Option.{Option}
use lib.ListN.{set, take}
use Rattle.logic.specs.Search.{from, first_of}
use Rattle.logic.specs.Query.{term_count}
use Rattle.between.specs.Meaning.{BetweenQuery}
use Rattle.between_search.specs.Search.{Found, seek_nodes, nodes_found, seek_links, links_found}
use Rattle.between_tests.proofs.Laws.{small_set}
use Rattle.between_tests.specs.Tables.{Small}
use Rattle.between_seek.specs.declared.Sought.{Sought}
use Rattle.between_seek.specs.Answers.{query_in, Chosen, Sized}
use Rattle.between_seek.proofs.Laws.{link_tried, links_step, link_tried_lem, links-all, nodes_begin, links_begin, chosen_next, chosen_size}

-- what is found from node j on, and what with v as its link
unfoldable pub linked_from : BetweenQuery → Sought → List ℕ → ℕ → Option Found
linked_from query q links j = seek_links query q.sorted q.m (q.m + 1 - j) j (take j links)

unfoldable pub linked_with : BetweenQuery → Sought → List ℕ → ℕ → ℕ → Option Found
linked_with query q links j v = link_tried query q.sorted q.m links j (q.m + 1 - j - 1) v

module _ (base between : List ℕ) (apart : List Bool) (q : Sought) (links : List ℕ) (j : ℕ) (sized : Sized base between apart q) (high : j ≤ q.m + 1) (chosen : Chosen links j) where
  abbrev query : BetweenQuery
  query = query_in base between

  pub chosen-all : q.m < j → Chosen links (q.m + 1)
  chosen-all l = let e : j ≡ q.m + 1 = omega arith in subst (λ (k : ℕ). Chosen links k) e chosen

  pub all_linked : q.m < j → nodes_found (query_in base between) q.sorted q.m (take (q.m + 1) links) ≡ linked_from (query_in base between) q links j
  unfolding linked_from
  all_linked l = links-all query q.sorted q.m links j chosen (q.m + 1 - j) (omega arith) (omega arith)

  pub first_link : j ≤ q.m → linked_from (query_in base between) q links j ≡ first_of (linked_with (query_in base between) q links j) (from (q.m + 1 - 1) 1)
  unfolding linked_from linked_with
  first_link l = links_step query q.sorted q.m links j chosen (q.m + 1 - j) (λ z. omega arith)

  module _ (v : ℕ) (next : List ℕ) (are : next ≡ set links j v) (within : j ≤ q.m) where
    pub small_next : v ≤ 5 → Small links → Small next
    small_next l s = subst Small (sym are) (small_set links j v l s)

    pub chosen_on : Chosen next (j + 1)
    chosen_on =
        subst (λ (xs : List ℕ). Chosen xs (j + 1)) (sym are)
        (chosen_next links j v (chosen_size links j chosen (omega (arith, sized.few_nodes))) (omega (arith, within, sized.few_nodes)) chosen)

    pub linked_on : (o : Option Found) → o ≡ linked_from (query_in base between) q next (j + 1) → linked_with (query_in base between) q links j v ≡ o
    unfolding linked_from linked_with
    linked_on o e =
        link_tried_lem query q.sorted q.m links j chosen _ v (omega (arith, sized.few_nodes))
        ∙ ap (λ (k : ℕ). seek_links query q.sorted q.m k (j + 1) (take (j + 1) (set links j v))) fewer
        ∙ sym (e ∙ ap (λ (xs : List ℕ). linked_from query q xs (j + 1)) are)
      where
        fewer : q.m + 1 - j - 1 ≡ q.m + 1 - (j + 1)
        fewer = omega arith

-- the search for nodes begins with the count of terms alone
pub nodes-first :
    (query : BetweenQuery) (q : Sought) (links : List ℕ) (n : ℕ) →
    n ≡ term_count query.base →
    seek_nodes query q.sorted q.m (take (q.m + 1) links) (n + 1 - 1) 1 (n ∷ []) ≡ nodes_found query q.sorted q.m (take (q.m + 1) links)
nodes-first query q links n e =
    let all : n + 1 - 1 ≡ n = omega arith in
    ap (λ (k : ℕ). seek_nodes query q.sorted q.m (take (q.m + 1) links) k 1 (n ∷ [])) all
    ∙ ap (λ (k : ℕ). seek_nodes query q.sorted q.m (take (q.m + 1) links) k 1 (k ∷ [])) e
    ∙ sym (nodes_begin query q.sorted q.m (take (q.m + 1) links))

-- and that for links with the count of nodes
pub links_first : (query : BetweenQuery) (q : Sought) → seek_links query q.sorted q.m (q.m + 1 - 1) 1 (q.m ∷ []) ≡ links_found query q.sorted q.m
links_first query q =
    let all : q.m + 1 - 1 ≡ q.m = omega arith in
    ap (λ (k : ℕ). seek_links query q.sorted q.m k 1 (q.m ∷ [])) all ∙ sym (links_begin query q.sorted q.m)

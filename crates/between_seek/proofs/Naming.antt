-- The nodes of the terms from t on, tried one after another.
use Prim.Native.Nat.{ℕ, ◌+◌, ◌-◌, ◌≤◌, ◌<◌}
use native.Mathlib.Omega.{arith}
use mathlib.Core.Path.{◌≡◌, sym, ap, ◌∙◌, subst}
use mathlib.Core.Bool.{Bool, true, false}
use mathlib.Core.List.{List}
use mathlib.Core.Option.{Option, none, some}
use lib.ListN.{set, take}
use Rattle.logic.specs.Search.{from, first_of}
use Rattle.between.specs.Meaning.{BetweenQuery}
use Rattle.between_search.specs.Tests.{breaks}
use Rattle.between_search.specs.Search.{Found, entry, lowest_node, highest_node, seek_nodes}
use Rattle.between_tests.proofs.Laws.{small_set}
use Rattle.between_seek.specs.declared.Linked.{Linked}
use Rattle.between_seek.specs.Answers.{query_in, Sized, Tested, Placed}
use Rattle.between_seek.proofs.Laws.{node_tried, nodes_step, step_breaks, step_fits, nodes_all, chosen_next, chosen_size}

-- what is found from term t on, and what with v as its node
unfoldable pub found_from : BetweenQuery → Linked → List ℕ → ℕ → Option Found
found_from query h nodes t = seek_nodes query h.q.sorted h.q.m (take (h.q.m + 1) h.links) (h.q.l.terms + 1 - t) t (take t nodes)

unfoldable pub found_with : BetweenQuery → Linked → List ℕ → ℕ → ℕ → Option Found
found_with query h nodes t v = node_tried query h.q.sorted h.q.m (take (h.q.m + 1) h.links) (h.q.l.terms + 1 - t - 1) t (take t nodes) v

module _ (base between : List ℕ) (apart : List Bool) (h : Linked) (nodes : List ℕ) (t : ℕ) (sized : Sized base between apart h.q) (placed : Placed h nodes t) where
  abbrev query : BetweenQuery
  query = query_in base between

  pub all_named : h.q.l.terms < t → some (record { links = h.links; nodes = nodes }) ≡ found_from (query_in base between) h nodes t
  unfolding found_from
  all_named l = nodes_all query h.q.sorted h.q.m h.links nodes t placed.links_chosen placed.nodes_chosen _ (omega arith)

  pub first_node :
      (lo hi : ℕ) →
      t ≤ h.q.l.terms →
      lo ≡ lowest_node (query_in base between) (entry h.links) t (entry nodes) →
      hi ≡ highest_node (query_in base between) h.q.sorted h.q.m (entry h.links) t (entry nodes) →
      found_from (query_in base between) h nodes t ≡ first_of (found_with (query_in base between) h nodes t) (from (hi + 1 - lo) lo)
  unfolding found_from found_with
  first_node lo hi l e f = nodes_step query h.q.sorted h.q.m h.links nodes t placed.links_chosen placed.nodes_chosen _ lo hi (λ z. omega arith) e f

  room : t < 17
  room = omega (arith, placed.high, sized.given.entered.few)

  module _ (v : ℕ) (tried : List ℕ) (are : tried ≡ set nodes t v) (within : t ≤ h.q.l.terms) where
    pub tested-next : v ≤ 5 → Tested h nodes → Tested h tried
    tested-next l ok =
        subst (Tested h) (sym are)
        (record { small_links = ok.small_links; small_nodes = small_set nodes t v l ok.small_nodes; stepped = ok.stepped })

    pub placed-next : Placed h tried (t + 1)
    placed-next =
        subst (λ (xs : List ℕ). Placed h xs (t + 1)) (sym are)
        (record {
          low = omega arith;
          high = omega arith;
          links_chosen = placed.links_chosen;
          nodes_chosen = chosen_next nodes t v (chosen_size nodes t placed.nodes_chosen (omega (arith, room))) room placed.nodes_chosen;
        })

    module _ (b : Bool) (test : b ≡ breaks (query_in base between) h.q.m (entry h.links) (entry tried) h.q.l.terms t) where
      tested : b ≡ breaks query h.q.m (entry h.links) (entry (set nodes t v)) h.q.l.terms t
      tested = test ∙ ap (λ (xs : List ℕ). breaks query h.q.m (entry h.links) (entry xs) h.q.l.terms t) are

      pub left_out : b ≡ true → found_with (query_in base between) h nodes t v ≡ none
      unfolding found_with
      left_out e =
          step_breaks query h.q.sorted h.q.m h.links nodes t placed.links_chosen placed.nodes_chosen v h.q.l.terms b room
          sized.given.entered.laid.term_count_lem tested _ e

      pub goes_on : b ≡ false → (o : Option Found) → o ≡ found_from (query_in base between) h tried (t + 1) → found_with (query_in base between) h nodes t v ≡ o
      unfolding found_with found_from
      goes_on e o next =
          step_fits query h.q.sorted h.q.m h.links nodes t placed.links_chosen placed.nodes_chosen v h.q.l.terms b room
          sized.given.entered.laid.term_count_lem tested _ e
          ∙ ap (λ (k : ℕ). seek_nodes query h.q.sorted h.q.m (take (h.q.m + 1) h.links) k (t + 1) (take (t + 1) (set nodes t v))) fewer
          ∙ sym (next ∙ ap (λ (xs : List ℕ). found_from query h xs (t + 1)) are)
        where
          fewer : h.q.l.terms + 1 - t - 1 ≡ h.q.l.terms + 1 - (t + 1)
          fewer = omega arith

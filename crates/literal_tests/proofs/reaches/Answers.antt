-- No link has the number 0 or one above the links; else the rows are asked.
use Rattle.std.proofs.Common.{arith, ◌≡◌, ◌≤◌, ◌<◌, ℕ, Bool, false, cond, List, sym, ap, ◌∙◌, true≢false, leb-true, leb-false, le-ltb}
use Rattle.logic.specs.Facts.{Graph}
use Rattle.facts.specs.Path.{path_of, no_facts, graph_in, graphs}
use Rattle.facts.proofs.Path.{graph_at, graph_beyond, graph-none, links_few}
use Rattle.literal_tests.proofs.reaches.Goals as goal
use Rattle.literal_tests.proofs.reaches.Goals.{then-k-gt0, else-k-gt0}

module _ (single : Bool) (link reach : List ℕ) (k a b : ℕ) where
  -- a link of the path has its rows' facts, and any other number none
  within : k ≤ cond single 1 3 → (graph_in link reach k).reach a b ≡ (graphs single link reach k).reach a b
  within h = ap (λ (g : Graph). g.reach a b) (sym (graph_at single link reach k h))

  beyond : cond single 1 3 < k → false ≡ (graphs single link reach k).reach a b
  unfolding no_facts
  beyond h = ap (λ (g : Graph). g.reach a b) (sym (graph_beyond single link reach k h))

  zero_has_none : k ≤ 0 → false ≡ (graphs single link reach k).reach a b
  unfolding no_facts
  zero_has_none h = ap (λ (g : Graph). g.reach a b) (sym (graph_at single link reach k (omega (arith, h, (links_few single).0)) ∙ graph-none link reach k h))

pub returns-then-k-links : goal.returns-then-k-links
unfolding path_of graph_in
returns-then-k-links c =
    elim c.if-k-gt0.branch [
      | then-k-gt0 w ↦ c.is_held.ensures ∙ within _ _ _ _ _ _ (omega (arith, leb-true _ _ (sym w.value-is ∙ c.if-k-links.true), w.links.ensures.0))
      | else-k-gt0 w ↦ absurd (true≢false (sym c.if-k-links.true ∙ w.value-is ∙ le-ltb 0 _ w.if-k-gt0.false))
    ]

pub returns-else-k-links : goal.returns-else-k-links
unfolding path_of no_facts
returns-else-k-links c =
    c.if-k-links.false ∙ elim c.if-k-gt0.branch [
      | then-k-gt0 w ↦ beyond _ _ _ _ _ _ (omega (arith, leb-false _ _ (sym w.value-is ∙ c.if-k-links.false), w.links.ensures.0))
      | else-k-gt0 w ↦ zero_has_none _ _ _ _ _ _ w.if-k-gt0.false
    ]

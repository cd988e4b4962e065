-- The first list is the count alone. Assumes nothing.
use native.Mathlib.Omega.{arith}
use mathlib.Core.Path.{◌∙◌}
use lib.ListN.{replicate}
use Rattle.between_tests.proofs.Laws.{small_set}
use Rattle.between_seek.specs.Answers.{query_in}
use Rattle.between_seek.proofs.Laws.{chosen_first, small_zeros}
use Rattle.between_seek.proofs.Linking.{nodes-first}
use Rattle.between_seek.proofs.nodes_found.Statement.{statement}
use Rattle.between_seek.proofs.nodes_found.Tie as tie

pub nodes_found_spec : {M : Type 1} → statement M
nodes_found_spec =
    tie.close
    (tie.spec
    -- step-table-requires
    (λ c κs. c.requires.1)
    -- cast-nodes
    (λ c. omega (arith, c.requires.0.given.entered.few))
    -- array-write-nodes
    (λ c. omega arith)
    -- seek-nodes-requires
    (λ c κs.
    let p = c.requires in (
      p.0,
      record {
        small_links = p.1;
        small_nodes = small_set (replicate 17 0) 0 c.args.q.l.terms p.0.given.entered.few small_zeros;
        stepped = c.step_table-steps.ensures;
      },
      record { low = omega arith; high = omega arith; links_chosen = p.2; nodes_chosen = chosen_first _ },
    ))
    -- returns
    (λ c.
    let a = c.args in
    c.seek_nodes.ensures ∙ nodes-first (query_in a.base.now a.between.now) a.q _ _ c.requires.0.given.entered.laid.term_count_lem))

-- The first list is the count alone. Assumes nothing.
use native.Mathlib.Omega.{arith}
use mathlib.Core.Path.{◌∙◌}
use lib.ListN.{replicate}
use Rattle.between_tests.proofs.Laws.{small_set}
use Rattle.between_seek.specs.Answers.{query_in}
use Rattle.between_seek.proofs.Laws.{chosen_first, small_zeros}
use Rattle.between_seek.proofs.Linking.{links_first}
use Rattle.between_seek.proofs.links_found.Statement.{statement}
use Rattle.between_seek.proofs.links_found.Tie as tie

pub links_found_spec : {M : Type 1} → statement M
links_found_spec =
    tie.close
    (tie.spec
    -- cast-links
    (λ c. omega (arith, c.requires.few_nodes))
    -- array-write-links
    (λ c. omega arith)
    -- seek-links-requires
    (λ c κs.
    let p = c.requires in
    (p, small_set (replicate 17 0) 0 c.args.q.m p.few_nodes small_zeros, omega arith, omega arith, chosen_first _))
    -- returns
    (λ c. let a = c.args in c.seek_links.ensures ∙ links_first (query_in a.base.now a.between.now) a.q))

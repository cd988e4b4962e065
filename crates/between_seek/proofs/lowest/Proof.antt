-- A variable names any node. Assumes nothing.
use native.Mathlib.Omega.{arith}
use mathlib.Core.Path.{sym, ◌∙◌}
use Rattle.between_tests.proofs.Laws.{node-read}
use Rattle.between_seek.proofs.Laws.{lowest_any, lowest_link}
use Rattle.between_seek.proofs.lowest.Statement.{statement}
use Rattle.between_seek.proofs.lowest.Tie as tie

pub lowest_spec : {M : Type 1} → statement M
lowest_spec =
    tie.close
    (tie.spec
    -- argument-requires
    (λ c κs. let p = c.requires in (p.0.laid, p.2, p.3))
    -- returns
    (λ c. (λ between. lowest_any _ _ _ _ (sym c.argument-a.ensures ∙ c.if-a-eq0.true), omega arith))
    -- node-of-requires
    (λ c κs.
    let p = c.requires in
    let b = p.0.below _ p.2 p.3 in
    omega (arith, b, c.argument-a.ensures, p.3, p.0.few))
    -- link-of-requires
    (λ c κs.
    let s = c.requires.1.small_nodes c.argument-a.result.0 in
    omega (arith, s, node-read _ _ _ c.node_of-v.ensures))
    -- returns-2
    (λ c.
    let s = c.requires.1.small_links c.node_of-v.result.0 in
    let a = c.argument-a.ensures in (
      λ between. lowest_link _ _ _ _ _ _ _ a c.if-a-eq0.false (node-read _ _ _ c.node_of-v.ensures) c.link_of.ensures,
      omega (arith, s, c.link_of.ensures),
    )))

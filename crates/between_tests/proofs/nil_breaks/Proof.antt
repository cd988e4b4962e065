-- Nil's link first, and then the other nil terms. Assumes nothing.
use native.Mathlib.Omega.{arith}
use mathlib.Core.Path.{sym, ◌∙◌}
use Rattle.between_tests.proofs.nil_breaks.Statement.{statement}
use Rattle.between_tests.proofs.nil_breaks.Tie as tie
use Rattle.between_tests.proofs.Laws.{node-read, no-nil, nil_moves, nil_stays}

pub nil_breaks_spec : {M : Type 1} → statement M
nil_breaks_spec =
    tie.close
    (tie.spec
    -- is-nil-requires
    (λ c κs.
    (c.requires.0, c.requires.1, c.requires.2))
    -- returns
    (λ c. no-nil _ _ _ _ (sym c.is_nil.ensures ∙ c.if-not-is_nil.true))
    -- node-of-requires
    (λ c κs.
    omega (arith, c.requires.2, c.requires.0.terms_within))
    -- link-of-requires
    (λ c κs.
    let s = c.requires.3 c.args.t.0 in omega (arith, (node-read _ _ _ c.node_of-v.ensures), s))
    -- returns-2
    (λ c.
    nil_moves _ _ _ _ _ _ (sym c.is_nil.ensures ∙ c.if-not-is_nil.false) (node-read _ _ _ c.node_of-v.ensures) c.link_of-w.ensures c.if-w-v.true)
    -- other-nil-requires
    (λ c κs.
    (c.requires.0, c.requires.1, c.requires.2))
    -- returns-3
    (λ c.
    c.other_nil.ensures ∙ nil_stays _ _ _ _ _ _ (sym c.is_nil.ensures ∙ c.if-not-is_nil.false)
    (node-read _ _ _ c.node_of-v.ensures) c.link_of-w.ensures c.if-w-v.false))

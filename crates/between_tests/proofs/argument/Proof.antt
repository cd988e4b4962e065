-- Nil has no argument. Assumes nothing.
use native.Mathlib.Omega.{arith}
use mathlib.Core.Path.{sym, ◌∙◌}
use Rattle.between_tests.proofs.argument.Statement.{statement}
use Rattle.between_tests.proofs.argument.Tie as tie
use Rattle.between_tests.proofs.Laws.{argument_nil, argument_is}

pub argument_spec : {M : Type 1} → statement M
argument_spec =
    tie.close
    (tie.spec
    -- is-nil-requires
    (λ c κs. c.requires)
    -- returns
    (λ c.
    argument_nil _ _ c.requires.0 _ c.requires.1 c.requires.2 (sym c.is_nil.ensures ∙ c.if-is_nil.true))
    -- byte-at-requires
    (λ c κs.
    omega (arith, c.requires.0.entries_fit, c.requires.2))
    -- returns-2
    (λ c.
    c.byte_at.ensures ∙ argument_is _ _ c.requires.0 _ c.requires.1 c.requires.2 (sym c.is_nil.ensures ∙ c.if-is_nil.false)))

-- By what the byte is. Assumes nothing.
use Rattle.link_rewriter.proofs.Loops.{before_variable, before_nil, before_other}
use Rattle.link_rewriter.proofs.link_before.Statement.{statement}
use Rattle.link_rewriter.proofs.link_before.Tie as tie

pub link_before_spec : {M : Type 1} → statement M
link_before_spec =
    tie.close
    (tie.spec
    -- returns
    (λ c. before_variable _ c.if-byte-eq0.true)
    -- returns-2
    (λ c. before_nil _ c.if-byte-eq255.true)
    -- returns-3
    (λ c. before_other _ c.if-byte-eq0.false c.if-byte-eq255.false))

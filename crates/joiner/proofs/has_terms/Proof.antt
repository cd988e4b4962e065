-- One test behind the other. Assumes nothing.
use Rattle.joiner.proofs.Laws.{has_terms_is}
use Rattle.joiner.proofs.has_terms.Statement.{statement}
use Rattle.joiner.proofs.has_terms.Tie as tie

pub has_terms_spec : {M : Type 1} → statement M
has_terms_spec =
    tie.close
    (tie.spec
    -- returns
    (λ c. has_terms_is c.args.n c.args.m c.args.a c.args.b))

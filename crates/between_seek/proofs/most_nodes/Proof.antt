-- One node where there is no term. Assumes nothing.
use Rattle.between_seek.proofs.most_nodes.Statement.{statement}
use Rattle.between_seek.proofs.most_nodes.Tie as tie
use Rattle.between_seek.proofs.Laws.{most_one, most_all}

pub most_nodes_spec : {M : Type 1} → statement M
most_nodes_spec =
    tie.close
    (tie.spec
    -- returns
    (λ c. most_one _ c.if-n-eq0.true)
    -- returns-2
    (λ c. most_all _ c.if-n-eq0.false))

-- By the section. Assumes nothing.
use Rattle.joiner.proofs.Answers as law
use Rattle.joiner.proofs.count_in.Statement.{statement}
use Rattle.joiner.proofs.count_in.Tie as tie

pub count_in_spec : {M : Type 1} → statement M
count_in_spec =
    tie.close
    (tie.spec
    -- returns
    (λ c.
    law.count_second c.args.l c.args.query.now c.requires c.args.s c.if-s-eq2.true)
    -- returns-2
    (λ c.
    law.count_third c.args.l c.args.query.now c.requires c.args.s c.if-s-eq2.false c.if-s-eq3.true)
    -- returns-3
    (λ c.
    law.count_fourth c.args.l c.args.query.now c.requires c.args.s c.if-s-eq2.false c.if-s-eq3.false c.if-s-eq4.true)
    -- returns-4
    (λ c.
    law.count_none c.args.l c.args.query.now c.requires c.args.s c.if-s-eq2.false c.if-s-eq3.false c.if-s-eq4.false))

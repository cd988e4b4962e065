use Rattle.std.proofs.Common.{sym}
use Rattle.logic.specs.Search.{keep}
use Rattle.entries.proofs.Links.{term_tested}
use Rattle.entries.proofs.term_link_fault.Goals as goal

pub returns-then-may_precede : goal.returns-then-may_precede
unfolding keep
returns-then-may_precede c =
    sym (term_tested c.args.query.now _ c.may_precede.ensures c.byte_at-link.ensures c.byte_at.ensures c.if-may_precede.true)

pub returns : goal.returns
unfolding keep
returns c =
    sym (term_tested c.args.query.now _ c.may_precede.ensures c.byte_at-link.ensures c.byte_at.ensures c.if-may_precede.false)

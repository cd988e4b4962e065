use Rattle.std.proofs.Common.{sym}
use Rattle.logic.specs.Search.{keep}
use Rattle.entries.proofs.Links.{pair_tested}
use Rattle.entries.proofs.pair_link_fault.Goals as goal

pub returns-then-is_link : goal.returns-then-is_link
unfolding keep
returns-then-is_link c = sym (pair_tested c.args.query.now _ c.is_link.ensures c.byte_at.ensures c.if-is_link.true)

pub returns : goal.returns
unfolding keep
returns c = sym (pair_tested c.args.query.now _ c.is_link.ensures c.byte_at.ensures c.if-is_link.false)

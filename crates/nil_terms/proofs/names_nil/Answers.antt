-- The byte of the term's entry is compared.
use Rattle.std.proofs.Common.{sym}
use Rattle.term_links.proofs.Entries.{entry_fits, nil-read}
use Rattle.nil_terms.proofs.names_nil.Goals as goal

pub entry-requires : goal.entry-requires
entry-requires c = entry_fits c.args.layout c.args.query.now c.requires.0 c.args.t.0 c.requires.2

pub returns : goal.returns
returns c = sym (nil-read c.args.layout c.args.query.now c.requires.0 c.args.t.0 c.requires.1 c.requires.2 _ c.entry.ensures)

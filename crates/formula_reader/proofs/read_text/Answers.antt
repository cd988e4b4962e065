use Rattle.std.proofs.lemmas.Result.{err_from_is_err_and}
use Rattle.formula_reader.proofs.Readers.{whole_refused, whole-more, whole-read}
use Rattle.formula_reader.proofs.read_text.Goals as goal

pub returns-in_err-parsed-clause-found_as : goal.returns-in_err-parsed-clause-found_as
returns-in_err-parsed-clause-found_as c =
    let p = err_from_is_err_and c.from_residual.result c.from_residual.ensures.1 in
    rw (p.1, p.2) (whole_refused c.args.text.now c.args.counts.now c.read_or.new.nodes _ c.in_err-parsed.ensures.read_as)

pub returns-then-parsed-text-clause-found_as : goal.returns-then-parsed-text-clause-found_as
returns-then-parsed-text-clause-found_as c =
    rw c.at.ensures
    (whole-more c.args.text.now c.args.counts.now c.read_or.new.nodes
    c.in_ok-parsed.parsed.next c.in_ok-parsed.parsed.used c.if-parsed-text.true c.in_ok-parsed.ensures.read_as)

pub returns-clause-found_as : goal.returns-clause-found_as
returns-clause-found_as c =
    whole-read c.args.text.now c.args.counts.now c.read_or.new.nodes
    c.in_ok-parsed.parsed.next c.in_ok-parsed.parsed.used c.if-parsed-text.false c.in_ok-parsed.ensures.read_as

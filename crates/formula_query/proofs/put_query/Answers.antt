use Rattle.std.proofs.Common.{arith, drop}
use Rattle.text.proofs.Writing.{writes_as, writes_then}
use Rattle.formula_query.proofs.Laws.{whole-bytes, terms_bound}
use Rattle.formula_query.proofs.put_query.Goals as goal

pub returns : goal.returns
returns c =
    let l = c.requires in let tb = terms_bound c.args.layout.terms (drop 1 c.args.query.now) l.terms_within in (
      omega (
        arith,
        l.equal_within,
        l.reach_within,
        l.field_within,
        c.put_byte-one.ensures.ends,
        c.put_bytes-terms.ensures.ends,
        c.put_literals-equal.ensures.0,
        c.put_literals-reach.ensures.0,
        c.put_literals-field.ensures.0,
        c.put_byte.ensures.ends,
      ),
      λ d same. writes_as (whole-bytes c.args.layout c.args.query.now l c.args.marks.now d same)
          (writes_then (writes_then (writes_then
          (writes_then (writes_then c.put_byte-one.ensures c.put_bytes-terms.ensures)
          c.put_literals-equal.ensures.1) c.put_literals-reach.ensures.1)
          c.put_literals-field.ensures.1) c.put_byte.ensures),
    )

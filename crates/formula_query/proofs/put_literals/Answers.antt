use Rattle.std.proofs.Common.{◌+◌, refl, arith}
use Rattle.query.specs.LaysOut.{literal_in}
use Rattle.query.proofs.Literals.{literals_are}
use Rattle.text.proofs.Writing.{part_from, part_more, part_all, writes_as, writes_then}
use Rattle.formula_query.specs.Kept.{mark}
use Rattle.formula_query.proofs.Laws.{kept_next, kept_end, section_kept, literal_size}
use Rattle.formula_query.proofs.put_literals.Goals as goal

pub loop-i-init : goal.loop-i-init
loop-i-init c = (omega arith, part_from _ _ refl)

pub loop-i-preserved : goal.loop-i-preserved
loop-i-preserved c =
    let s = c.args.section in let i = c.loop-i.i in
    let p = mark c.args.marks.now s.code in let f = literal_in c.args.query.now s.at in (
      let z = literal_size (p (i + 1)) (f i) in omega (arith, c.put_marked_literal-end.ensures.ends, c.loop-i.invariant.0),
      part_more c.loop-i.invariant.1 (kept_next p f s.count i c.loop-i-test.true) c.put_marked_literal-end.ensures,
    )

pub returns : goal.returns
returns c =
    let s = c.args.section in let n = c.count_marked-kept in
    let p = mark c.args.marks.now s.code in let f = literal_in c.args.query.now s.at in (
      omega (arith, c.put_byte-end.ensures.ends, c.loop-i.invariant.0),
      writes_as (section_kept p f s.count n.result _ (literals_are c.args.query.now s.at s.count c.requires.0) n.ensures.1)
          (writes_then c.put_byte-end.ensures (part_all c.loop-i.invariant.1 (kept_end p f s.count c.loop-i.i c.loop-i-test.false))),
    )

-- One section behind the other.
use Rattle.std.proofs.Common.{ℕ, ◌+◌, ◌*◌, sym, ap, ◌∙◌, arith}
use Rattle.text.proofs.Writing.{writes_as, writes_then}
use Rattle.joiner.proofs.Query as made
use Rattle.joiner.proofs.put_query.Goals as goal

pub byte_at-count-requires : goal.byte_at-count-requires
byte_at-count-requires c =
    omega (arith, made.pairs_long c.args.first.now c.args.second.now c.args.pairs.now c.args.f c.args.s c.requires.0 c.requires.1 c.requires.2)

pub put_terms-second_section-requires : goal.put_terms-second_section-requires
put_terms-second_section-requires c =
    let first = c.args.first.now in
    let second = c.args.second.now in
    let pairs = c.args.pairs.now in
    let f = c.args.f in
    let s = c.args.s in
    let pre_0 = c.requires.0 in
    let pre_1 = c.requires.1 in
    let pre_2 = c.requires.2 in
    let pre_3 = c.requires.3 in
    let byte_at_ensures = c.byte_at-count.ensures in (
      pre_0.laid.entries_fit,
      pre_1.laid.entries_fit,
      made.terms-low first second pairs f s pre_0 pre_1 pre_2 pre_3 _ byte_at_ensures,
      made.entries-first first second pairs f s pre_0 pre_1 pre_2 pre_3 _ byte_at_ensures,
      made.entries-second first second pairs f s pre_0 pre_1 pre_2 pre_3 _ byte_at_ensures,
    )

pub put_section-last-requires : goal.put_section-last-requires
put_section-last-requires c =
    let first = c.args.first.now in
    let second = c.args.second.now in
    let pairs = c.args.pairs.now in
    let f = c.args.f in
    let s = c.args.s in
    let pre_0 = c.requires.0 in
    let pre_1 = c.requires.1 in
    let pre_2 = c.requires.2 in
    let pre_3 = c.requires.3 in
    let byte_at_ensures = c.byte_at-count.ensures in
    record {
      fits = (
        pre_0.laid.equal_fit,
        pre_1.laid.equal_fit,
        made.equal_low first second pairs f s pre_0 pre_1 pre_2 pre_3 _ byte_at_ensures,
        omega (
          arith,
          made.terms-low first second pairs f s pre_0 pre_1 pre_2 pre_3 _ byte_at_ensures,
          made.equal_low first second pairs f s pre_0 pre_1 pre_2 pre_3 _ byte_at_ensures,
          made.reach_low first second pairs f s pre_0 pre_1 pre_2 pre_3 _ byte_at_ensures,
          made.field_low first second pairs f s pre_0 pre_1 pre_2 pre_3 _ byte_at_ensures,
          made.term_bytes_long first second pairs f s pre_0 pre_1 pre_2 pre_3 _ byte_at_ensures,
          c.put_terms-second_section.ensures.ends,
        ),
      );
      small = (made.equal_first first second pairs f s pre_0 pre_1 pre_2 pre_3 _ byte_at_ensures, made.equal_second first second pairs f s pre_0 pre_1 pre_2 pre_3 _ byte_at_ensures);
    }

pub put_pairs-third_section-requires : goal.put_pairs-third_section-requires
put_pairs-third_section-requires c =
    let first = c.args.first.now in
    let second = c.args.second.now in
    let pairs = c.args.pairs.now in
    let f = c.args.f in
    let s = c.args.s in
    let pre_0 = c.requires.0 in
    let pre_1 = c.requires.1 in
    let pre_2 = c.requires.2 in
    let pre_3 = c.requires.3 in
    let byte_at_ensures = c.byte_at-count.ensures in (
      made.pairs_long first second pairs f s pre_0 pre_1 pre_2 ∙ ap (λ (k : ℕ). 1 + 2 * k) (sym byte_at_ensures),
      pre_0.laid.terms_within,
      omega (
        arith,
        made.terms-low first second pairs f s pre_0 pre_1 pre_2 pre_3 _ byte_at_ensures,
        made.equal_low first second pairs f s pre_0 pre_1 pre_2 pre_3 _ byte_at_ensures,
        made.reach_low first second pairs f s pre_0 pre_1 pre_2 pre_3 _ byte_at_ensures,
        made.field_low first second pairs f s pre_0 pre_1 pre_2 pre_3 _ byte_at_ensures,
        made.term_bytes_long first second pairs f s pre_0 pre_1 pre_2 pre_3 _ byte_at_ensures,
        c.put_terms-second_section.ensures.ends,
        c.put_section-last.ensures.ends,
        made.equal_bytes_long first second pairs f s pre_0 pre_1 pre_2 pre_3 _ byte_at_ensures,
      ),
      made.pairs_fit first second pairs f s pre_0 pre_1 pre_2 pre_3 _ byte_at_ensures,
    )

pub put_section-fourth_section-requires : goal.put_section-fourth_section-requires
put_section-fourth_section-requires c =
    let first = c.args.first.now in
    let second = c.args.second.now in
    let pairs = c.args.pairs.now in
    let f = c.args.f in
    let s = c.args.s in
    let pre_0 = c.requires.0 in
    let pre_1 = c.requires.1 in
    let pre_2 = c.requires.2 in
    let pre_3 = c.requires.3 in
    let byte_at_ensures = c.byte_at-count.ensures in
    record {
      fits = (
        pre_0.laid.reach_fit,
        pre_1.laid.reach_fit,
        made.reach_low first second pairs f s pre_0 pre_1 pre_2 pre_3 _ byte_at_ensures,
        omega (
          arith,
          made.terms-low first second pairs f s pre_0 pre_1 pre_2 pre_3 _ byte_at_ensures,
          made.equal_low first second pairs f s pre_0 pre_1 pre_2 pre_3 _ byte_at_ensures,
          made.reach_low first second pairs f s pre_0 pre_1 pre_2 pre_3 _ byte_at_ensures,
          made.field_low first second pairs f s pre_0 pre_1 pre_2 pre_3 _ byte_at_ensures,
          made.term_bytes_long first second pairs f s pre_0 pre_1 pre_2 pre_3 _ byte_at_ensures,
          c.put_terms-second_section.ensures.ends,
          c.put_section-last.ensures.ends,
          made.equal_bytes_long first second pairs f s pre_0 pre_1 pre_2 pre_3 _ byte_at_ensures,
          c.put_pairs-third_section.ensures.ends,
          made.pair_bytes_long first second pairs f s pre_0 pre_1 pre_2 pre_3 _ byte_at_ensures,
        ),
      );
      small = (made.reach_first first second pairs f s pre_0 pre_1 pre_2 pre_3 _ byte_at_ensures, made.reach-second first second pairs f s pre_0 pre_1 pre_2 pre_3 _ byte_at_ensures);
    }

pub put_section-fifth_section-requires : goal.put_section-fifth_section-requires
put_section-fifth_section-requires c =
    let first = c.args.first.now in
    let second = c.args.second.now in
    let pairs = c.args.pairs.now in
    let f = c.args.f in
    let s = c.args.s in
    let pre_0 = c.requires.0 in
    let pre_1 = c.requires.1 in
    let pre_2 = c.requires.2 in
    let pre_3 = c.requires.3 in
    let byte_at_ensures = c.byte_at-count.ensures in
    record {
      fits = (
        pre_0.laid.field_fit,
        pre_1.laid.field_fit,
        made.field_low first second pairs f s pre_0 pre_1 pre_2 pre_3 _ byte_at_ensures,
        omega (
          arith,
          made.terms-low first second pairs f s pre_0 pre_1 pre_2 pre_3 _ byte_at_ensures,
          made.equal_low first second pairs f s pre_0 pre_1 pre_2 pre_3 _ byte_at_ensures,
          made.reach_low first second pairs f s pre_0 pre_1 pre_2 pre_3 _ byte_at_ensures,
          made.field_low first second pairs f s pre_0 pre_1 pre_2 pre_3 _ byte_at_ensures,
          made.term_bytes_long first second pairs f s pre_0 pre_1 pre_2 pre_3 _ byte_at_ensures,
          c.put_terms-second_section.ensures.ends,
          c.put_section-last.ensures.ends,
          made.equal_bytes_long first second pairs f s pre_0 pre_1 pre_2 pre_3 _ byte_at_ensures,
          c.put_pairs-third_section.ensures.ends,
          made.pair_bytes_long first second pairs f s pre_0 pre_1 pre_2 pre_3 _ byte_at_ensures,
          c.put_section-fourth_section.ensures.ends,
          made.reach_bytes_long first second pairs f s pre_0 pre_1 pre_2 pre_3 _ byte_at_ensures,
        ),
      );
      small = (made.field_first first second pairs f s pre_0 pre_1 pre_2 pre_3 _ byte_at_ensures, made.field_second first second pairs f s pre_0 pre_1 pre_2 pre_3 _ byte_at_ensures);
    }

pub put_byte-requires : goal.put_byte-requires
put_byte-requires c =
    let first = c.args.first.now in
    let second = c.args.second.now in
    let pairs = c.args.pairs.now in
    let f = c.args.f in
    let s = c.args.s in
    let pre_0 = c.requires.0 in
    let pre_1 = c.requires.1 in
    let pre_2 = c.requires.2 in
    let pre_3 = c.requires.3 in
    let byte_at_ensures = c.byte_at-count.ensures in
    omega (
      arith,
      made.terms-low first second pairs f s pre_0 pre_1 pre_2 pre_3 _ byte_at_ensures,
      made.equal_low first second pairs f s pre_0 pre_1 pre_2 pre_3 _ byte_at_ensures,
      made.reach_low first second pairs f s pre_0 pre_1 pre_2 pre_3 _ byte_at_ensures,
      made.field_low first second pairs f s pre_0 pre_1 pre_2 pre_3 _ byte_at_ensures,
      made.term_bytes_long first second pairs f s pre_0 pre_1 pre_2 pre_3 _ byte_at_ensures,
      c.put_terms-second_section.ensures.ends,
      c.put_section-last.ensures.ends,
      made.equal_bytes_long first second pairs f s pre_0 pre_1 pre_2 pre_3 _ byte_at_ensures,
      c.put_pairs-third_section.ensures.ends,
      made.pair_bytes_long first second pairs f s pre_0 pre_1 pre_2 pre_3 _ byte_at_ensures,
      c.put_section-fourth_section.ensures.ends,
      made.reach_bytes_long first second pairs f s pre_0 pre_1 pre_2 pre_3 _ byte_at_ensures,
      c.put_section-fifth_section.ensures.ends,
      made.field_bytes_long first second pairs f s pre_0 pre_1 pre_2 pre_3 _ byte_at_ensures,
    )

pub returns : goal.returns
returns c =
    writes_as (made.query-bytes c.args.first.now c.args.second.now c.args.pairs.now c.args.f c.args.s
    c.requires.0 c.requires.1 c.requires.2 c.requires.3 _ c.byte_at-count.ensures)
    (writes_then c.put_terms-second_section.ensures (writes_then c.put_section-last.ensures (writes_then c.put_pairs-third_section.ensures
    (writes_then c.put_section-fourth_section.ensures (writes_then c.put_section-fifth_section.ensures c.put_byte.ensures)))))

-- Readers for or, and, item, each step as the definitions take it. Assumes nothing.
use Rattle.std.proofs.Common.{arith, sym, ◌∙◌}
use Rattle.std.proofs.lemmas.Result.{err_from_is_err_and}
use Rattle.formula.specs.Grammar.{both, either, disjunction, conjunction, item}
use Rattle.formula.proofs.Complete.{or_fewer, and_fewer, some_or, some-and}
use Rattle.formula_reader.proofs.Readers.{stands_inside, first_refused, alone, second_refused, both_read, or_step, or_later, and_step}
use Rattle.formula_reader.proofs.Readers.{and-later, grown-joined, either_joined, both_joined, item-end, item_nothing, item-name}
use Rattle.formula_reader.proofs.Readers.{item_deep, inner_refused, inner-closed, inside, code_small}
use Rattle.formula_reader.proofs.+read_and_read_item_read_or.Goals as goal

pub read_and-returns-in_err-first-clause-read_as : goal.read_and-returns-in_err-first-clause-read_as
read_and-returns-in_err-first-clause-read_as t c =
    let p = err_from_is_err_and c.from_residual.result c.from_residual.ensures.1 in
    rw (p.1, p.2)
    (first_refused c.args.counts.now c.args.left 38 both item conjunction (and_step c.args.counts.now c.args.left) and_fewer and-later some-and
    c.args.text.now c.args.at _ c.read_item.new.nodes
    c.in_err-first.ensures.read_as)

pub read_and-returns-then-not-stands-clause-read_as : goal.read_and-returns-then-not-stands-clause-read_as
read_and-returns-then-not-stands-clause-read_as t c =
    alone c.args.counts.now c.args.left 38 both item conjunction (and_step c.args.counts.now c.args.left) and_fewer and-later some-and
    c.args.text.now c.args.at c.in_ok-first.first.next c.in_ok-first.first.used c.read_item.new.nodes
    c.in_ok-first.ensures.read_as (sym c.stands.ensures ∙ c.if-not-stands.true)

pub read_and-read_and-requires : goal.read_and-read_and-requires
read_and-read_and-requires t c =
    let g = c.in_ok-first.ensures.ranged in
    let i = stands_inside c.args.text.now c.in_ok-first.first.next 38 (sym c.stands.ensures ∙ c.if-not-stands.false) in
    (omega arith, (omega arith, c.requires.1, omega arith, c.requires.3, g.same_length ∙ c.requires.4))

pub read_and-returns-in_err-second-clause-read_as : goal.read_and-returns-in_err-second-clause-read_as
read_and-returns-in_err-second-clause-read_as t c =
    let residual = c.from_residual-in_err-second in
    let p = err_from_is_err_and residual.result residual.ensures.1 in
    rw (p.1, p.2)
    (second_refused c.args.counts.now c.args.left 38 both item conjunction (and_step c.args.counts.now c.args.left) and_fewer and-later some-and
    c.args.text.now c.args.at c.in_ok-first.first.next c.in_ok-first.first.used c.read_item.new.nodes
    c.in_ok-first.ensures.read_as (sym c.stands.ensures ∙ c.if-not-stands.false)
    c.in_ok-first.ensures.ranged.advanced _ c.read_and.new.nodes c.in_err-second.ensures.read_as)

pub read_and-returns-clause-ranged : goal.read_and-returns-clause-ranged
read_and-returns-clause-ranged t c =
    grown-joined c.args.text.now c.args.at c.args.used c.in_ok-first.first.next c.in_ok-first.first.used c.in_ok-second.second.next c.in_ok-second.second.used
    c.args.nodes.now c.read_item.new.nodes c.read_and.new.nodes c.put_both.new.nodes c.in_ok-first.ensures.ranged c.in_ok-second.ensures.ranged
    c.requires.2 c.requires.1 c.requires.4 _ _ _ _ c.put_both.ensures

pub read_and-returns-clause-read_as : goal.read_and-returns-clause-read_as
read_and-returns-clause-read_as t c =
    both_read c.args.counts.now c.args.left 38 both item conjunction (and_step c.args.counts.now c.args.left) and_fewer and-later some-and
    c.args.text.now c.args.at c.in_ok-first.first.next c.in_ok-first.first.used c.read_item.new.nodes
    c.in_ok-first.ensures.read_as (sym c.stands.ensures ∙ c.if-not-stands.false)
    c.in_ok-first.ensures.ranged.advanced
    c.in_ok-second.second.next c.in_ok-second.second.used c.read_and.new.nodes c.put_both.new.nodes c.in_ok-second.ensures.read_as
    (both_joined c.args.text.now c.args.at c.args.used c.in_ok-first.first.next c.in_ok-first.first.used c.in_ok-second.second.next c.in_ok-second.second.used
    c.args.nodes.now c.read_item.new.nodes c.read_and.new.nodes c.put_both.new.nodes c.in_ok-first.ensures.ranged c.in_ok-second.ensures.ranged
    c.requires.2 c.requires.1 c.requires.4 c.put_both.ensures)

pub read_item-returns-then-from-text-clause-read_as : goal.read_item-returns-then-from-text-clause-read_as
read_item-returns-then-from-text-clause-read_as t c =
    rw c.at.ensures (item-end c.args.text.now c.args.at c.args.left c.args.counts.now c.past_blanks-from.result c.past_blanks-from.ensures.2 c.args.nodes.now c.if-from-text.true)

pub read_item-read_name-requires : goal.read_item-read_name-requires
read_item-read_name-requires t c =
    let s = rw c.in-Some-Name.field-0-is at c.in-Some-Name.ensures in (
      inside c.past_blanks-from.ensures.1 c.if-from-text.false,
      c.requires.1,
      omega (arith, c.past_blanks-from.ensures.0),
      code_small _ s.0 s.2,
      c.requires.3,
      c.requires.4,
    )

pub read_item-returns-then-left-eq0-clause-read_as : goal.read_item-returns-then-left-eq0-clause-read_as
read_item-returns-then-left-eq0-clause-read_as t c =
    rw c.at-then-left-eq0.ensures
    (item_deep c.args.text.now c.args.at c.args.left c.args.counts.now c.past_blanks-from.result c.past_blanks-from.ensures.2
    (inside c.past_blanks-from.ensures.1 c.if-from-text.false) (rw c.in-Some-Opening.field-0-is at c.in-Some-Opening.ensures) c.args.nodes.now c.if-left-eq0.true)

pub read_item-returns-in-None-clause-read_as : goal.read_item-returns-in-None-clause-read_as
read_item-returns-in-None-clause-read_as t c =
    rw c.at-in-None.ensures
    (item_nothing c.args.text.now c.args.at c.args.left c.args.counts.now c.past_blanks-from.result c.past_blanks-from.ensures.2
    (inside c.past_blanks-from.ensures.1 c.if-from-text.false) c.args.nodes.now c.in-None.ensures)

pub read_item-returns-in-Some-Name-clause-read_as : goal.read_item-returns-in-Some-Name-clause-read_as
read_item-returns-in-Some-Name-clause-read_as t c =
    let s = rw c.in-Some-Name.field-0-is at c.in-Some-Name.ensures in
    item-name c.args.text.now c.args.at c.args.left c.args.counts.now c.past_blanks-from.result c.past_blanks-from.ensures.2
    (inside c.past_blanks-from.ensures.1 c.if-from-text.false) s.0 c.read_name.result c.read_name.new.nodes s.1 (c.read_name.ensures.named_as s.0 s.2)

pub read_item-returns-in_err-inner-in-Some-Opening-clause-read_as : goal.read_item-returns-in_err-inner-in-Some-Opening-clause-read_as
read_item-returns-in_err-inner-in-Some-Opening-clause-read_as t c =
    let p = err_from_is_err_and c.from_residual.result c.from_residual.ensures.1 in
    rw (p.1, p.2)
    (inner_refused c.args.text.now c.args.at c.args.left c.args.counts.now c.past_blanks-from.result c.past_blanks-from.ensures.2
    (inside c.past_blanks-from.ensures.1 c.if-from-text.false) (rw c.in-Some-Opening.field-0-is at c.in-Some-Opening.ensures) c.if-left-eq0.false c.past_blanks-from.ensures.0
    _ c.read_or.new.nodes c.in_err-inner-in-Some-Opening.ensures.read_as)

pub read_item-returns-in_ok-inner-in-Some-Opening-clause-read_as : goal.read_item-returns-in_ok-inner-in-Some-Opening-clause-read_as
read_item-returns-in_ok-inner-in-Some-Opening-clause-read_as t c =
    let inner = c.in_ok-inner-in-Some-Opening in
    inner-closed c.args.text.now c.args.at c.args.left c.args.counts.now c.past_blanks-from.result c.past_blanks-from.ensures.2
    (inside c.past_blanks-from.ensures.1 c.if-from-text.false) (rw c.in-Some-Opening.field-0-is at c.in-Some-Opening.ensures) c.if-left-eq0.false c.past_blanks-from.ensures.0
    inner.inner.next inner.inner.used c.close_item.result c.read_or.new.nodes inner.ensures.read_as c.close_item.ensures

pub read_or-returns-in_err-first-clause-read_as : goal.read_or-returns-in_err-first-clause-read_as
read_or-returns-in_err-first-clause-read_as t c =
    let p = err_from_is_err_and c.from_residual.result c.from_residual.ensures.1 in
    rw (p.1, p.2)
    (first_refused c.args.counts.now c.args.left 124 either conjunction disjunction (or_step c.args.counts.now c.args.left) or_fewer or_later some_or
    c.args.text.now c.args.at _ c.read_and.new.nodes
    c.in_err-first.ensures.read_as)

pub read_or-returns-then-not-stands-clause-read_as : goal.read_or-returns-then-not-stands-clause-read_as
read_or-returns-then-not-stands-clause-read_as t c =
    alone c.args.counts.now c.args.left 124 either conjunction disjunction (or_step c.args.counts.now c.args.left) or_fewer or_later some_or
    c.args.text.now c.args.at c.in_ok-first.first.next c.in_ok-first.first.used c.read_and.new.nodes
    c.in_ok-first.ensures.read_as (sym c.stands.ensures ∙ c.if-not-stands.true)

pub read_or-read_or-requires : goal.read_or-read_or-requires
read_or-read_or-requires t c =
    let g = c.in_ok-first.ensures.ranged in
    let i = stands_inside c.args.text.now c.in_ok-first.first.next 124 (sym c.stands.ensures ∙ c.if-not-stands.false) in
    (omega arith, (omega arith, c.requires.1, omega arith, c.requires.3, g.same_length ∙ c.requires.4))

pub read_or-returns-in_err-second-clause-read_as : goal.read_or-returns-in_err-second-clause-read_as
read_or-returns-in_err-second-clause-read_as t c =
    let residual = c.from_residual-in_err-second in
    let p = err_from_is_err_and residual.result residual.ensures.1 in
    rw (p.1, p.2)
    (second_refused c.args.counts.now c.args.left 124 either conjunction disjunction (or_step c.args.counts.now c.args.left) or_fewer or_later some_or
    c.args.text.now c.args.at c.in_ok-first.first.next c.in_ok-first.first.used c.read_and.new.nodes
    c.in_ok-first.ensures.read_as (sym c.stands.ensures ∙ c.if-not-stands.false)
    c.in_ok-first.ensures.ranged.advanced _ c.read_or.new.nodes c.in_err-second.ensures.read_as)

pub read_or-returns-clause-ranged : goal.read_or-returns-clause-ranged
read_or-returns-clause-ranged t c =
    grown-joined c.args.text.now c.args.at c.args.used c.in_ok-first.first.next c.in_ok-first.first.used c.in_ok-second.second.next c.in_ok-second.second.used
    c.args.nodes.now c.read_and.new.nodes c.read_or.new.nodes c.put_either.new.nodes c.in_ok-first.ensures.ranged c.in_ok-second.ensures.ranged
    c.requires.2 c.requires.1 c.requires.4 _ _ _ _ c.put_either.ensures

pub read_or-returns-clause-read_as : goal.read_or-returns-clause-read_as
read_or-returns-clause-read_as t c =
    both_read c.args.counts.now c.args.left 124 either conjunction disjunction (or_step c.args.counts.now c.args.left) or_fewer or_later some_or
    c.args.text.now c.args.at c.in_ok-first.first.next c.in_ok-first.first.used c.read_and.new.nodes
    c.in_ok-first.ensures.read_as (sym c.stands.ensures ∙ c.if-not-stands.false)
    c.in_ok-first.ensures.ranged.advanced
    c.in_ok-second.second.next c.in_ok-second.second.used c.read_or.new.nodes c.put_either.new.nodes c.in_ok-second.ensures.read_as
    (either_joined c.args.text.now c.args.at c.args.used c.in_ok-first.first.next c.in_ok-first.first.used c.in_ok-second.second.next c.in_ok-second.second.used
    c.args.nodes.now c.read_and.new.nodes c.read_or.new.nodes c.put_either.new.nodes c.in_ok-first.ensures.ranged c.in_ok-second.ensures.ranged
    c.requires.2 c.requires.1 c.requires.4 c.put_either.ensures)

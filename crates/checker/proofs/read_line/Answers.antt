-- By its first number, the clash of the path, and the rule that is named.
use Rattle.std.proofs.Common.{arith, refl, sym, ap, ◌∙◌}
use Rattle.link_query.proofs.Said.{terms-said}
use Rattle.clash.specs.Answers.{line_of}
use Rattle.facts.specs.Path.{path_of}
use Rattle.rules.specs.Answers.{choice_of}
use Rattle.checker.proofs.Readings.{named_in, named_linked, read_past, read_clash, read_false, read_clashed, read_unruled, read_rule_lem, read_idle}
use Rattle.checker.proofs.read_line.Goals as goal

pub returns-then-count-at : goal.returns-then-count-at
returns-then-count-at c = read_past _ _ _ _ _ c.requires.1 c.if-count-at.true

pub returns-then-is_clash : goal.returns-then-is_clash
returns-then-is_clash c =
    let p = c.requires in
    let l = c.if-count-at.false in
    let a = c.byte_at-a.ensures in
    let b = c.byte_at-b.ensures in
    let d = c.byte_at-c.ensures in
    read_clash _ _ _ _ _ p.1 (omega arith) _ _ _ _ refl a b d _ c.if-number-eq9.true c.is_clash.ensures c.if-is_clash.true

pub returns-then-number-eq9 : goal.returns-then-number-eq9
returns-then-number-eq9 c =
    let p = c.requires in
    let l = c.if-count-at.false in
    let a = c.byte_at-a.ensures in
    let b = c.byte_at-b.ensures in
    let d = c.byte_at-c.ensures in
    read_false _ _ _ _ _ p.1 (omega arith) _ _ _ _ refl a b d _ c.if-number-eq9.true c.is_clash.ensures c.if-is_clash.false

pub returns-in-Some : goal.returns-in-Some
returns-in-Some c =
    let p = c.requires in
    let l = c.if-count-at.false in
    let a = c.byte_at-a.ensures in
    let b = c.byte_at-b.ensures in
    let d = c.byte_at-c.ensures in
    read_clashed _ _ _ _ _ p.1 (omega arith) _ _ _ _ refl a b d c.if-number-eq9.false _ c.find_clash.ensures _ (ap line_of c.in-Some.is)

pub returns-in_default-named : goal.returns-in_default-named
returns-in_default-named c =
    let p = c.requires in
    let l = c.if-count-at.false in
    let a = c.byte_at-a.ensures in
    let b = c.byte_at-b.ensures in
    let d = c.byte_at-c.ensures in
    let unnamed = named_in (path_of c.args.s.now) _ _ _ _ _ (sym (ap choice_of c.in_default-named.is) ∙ c.named.ensures) in
    read_unruled _ _ _ _ _ p.1 (omega arith) _ _ _ _ refl a b d c.if-number-eq9.false _ c.find_clash.ensures (ap line_of c.in_default.is) unnamed

pub applies-requires : goal.applies-requires
applies-requires c =
    let named = named_in (path_of c.args.s.now) _ _ _ _ _ (sym (ap choice_of c.in-Some-named.is) ∙ c.named.ensures) in
    (c.requires.0.terms_within, named_linked (path_of c.args.s.now) _ _ _ _ named)

pub returns-then-applies : goal.returns-then-applies
returns-then-applies c =
    let p = c.requires in
    let l = c.if-count-at.false in
    let a = c.byte_at-a.ensures in
    let b = c.byte_at-b.ensures in
    let d = c.byte_at-c.ensures in
    let named = named_in (path_of c.args.s.now) _ _ _ _ _ (sym (ap choice_of c.in-Some-named.is) ∙ c.named.ensures) in
    read_rule_lem _ _ _ _ _ p.1 (omega arith) _ _ _ _ refl a b d c.if-number-eq9.false _ c.find_clash.ensures _ _ _ (ap line_of c.in_default.is) named
    (sym (terms-said _ _ p.0)) c.applies.ensures c.if-applies.true

pub returns : goal.returns
returns c =
    let p = c.requires in
    let l = c.if-count-at.false in
    let a = c.byte_at-a.ensures in
    let b = c.byte_at-b.ensures in
    let d = c.byte_at-c.ensures in
    let named = named_in (path_of c.args.s.now) _ _ _ _ _ (sym (ap choice_of c.in-Some-named.is) ∙ c.named.ensures) in
    read_idle _ _ _ _ _ p.1 (omega arith) _ _ _ _ refl a b d c.if-number-eq9.false _ c.find_clash.ensures _ _ _ (ap line_of c.in_default.is) named
    (sym (terms-said _ _ p.0)) c.applies.ensures c.if-applies.false

-- The counts that a well-formed report has. Assumes nothing.
use native.Mathlib.Omega.{arith}
use borrow.Author.Rules.{rules}
use mathlib.Core.Path.{refl}
use Rattle.wording.proofs.Texts.{report_sized}
use Rattle.wording.proofs.report_size.Statement.{statement}
use Rattle.wording.proofs.report_size.Tie as tie

pub report_size_spec : {M : Type 1} → statement M
report_size_spec =
    tie.close
    (tie.spec
    -- shared-slice-read-wide
    (λ c.
    let start = c in
    let s = report_sized start.args.report.now start.args.links _ _ start.requires.2 refl refl in omega (arith, s.whole))
    -- wide-requires
    (λ c κs. search rules)
    -- add-wide
    (λ c. search rules)
    -- shared-slice-read-wide-2
    (λ c.
    let start = c in
    let s = report_sized start.args.report.now start.args.links _ _ start.requires.2 c.wide-p.ensures.0 refl in omega (arith, s.whole))
    -- wide-requires-2
    (λ c κs. search rules)
    -- add-result
    (λ c. search rules)
    -- div-result
    (λ c. omega (arith, (c).requires.0))
    -- add-result-2
    (λ c.
    let after_wide = c in let start = after_wide in
    let s = report_sized start.args.report.now start.args.links _ _ start.requires.2 after_wide.wide-p.ensures.0 c.wide-n.ensures.0 in
    omega (arith, s.nodes, after_wide.wide-p.ensures.1, c.wide-n.ensures.1))
    -- add-result-3
    (λ c.
    let after_wide = c in let start = after_wide in
    let s = report_sized start.args.report.now start.args.links _ _ start.requires.2 after_wide.wide-p.ensures.0 c.wide-n.ensures.0 in
    omega (arith, s.nodes, after_wide.wide-p.ensures.1, c.wide-n.ensures.1))
    -- returns
    (λ c.
    let after_wide = c in let start = after_wide in
    let s = report_sized start.args.report.now start.args.links _ _ start.requires.2 after_wide.wide-p.ensures.0 c.wide-n.ensures.0 in
    (s.counted, s.whole, omega arith, omega (arith, s.successors, s.terms, s.nodes))))

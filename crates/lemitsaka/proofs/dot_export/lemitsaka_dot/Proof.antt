-- The call's answer, as a number. Assumes nothing.
use borrow.Author.Rules.{rules}
use native.Mathlib.Omega.{arith}
use mathlib.Core.Path.{ap, ◌∙◌}
use lib.ListN.{length}
use Rattle.codes.specs.Codes.{code}
use Rattle.answer_codes.specs.Numbers.{dot_digits}
use Rattle.lemitsaka.proofs.Bounds.{dot_short}
use Rattle.lemitsaka.proofs.dot_export.lemitsaka_dot.Statement.{statement}
use Rattle.lemitsaka.proofs.dot_export.lemitsaka_dot.Tie as tie

pub lemitsaka_dot_spec : {M : Type 1} → statement M
lemitsaka_dot_spec =
    tie.close
    (tie.spec
    -- dot-requires
    (λ c κs. search rules)
    -- dot-number-requires
    (λ c κs. search rules)
    -- same-length
    (λ c. search rules)
    -- returns
    (λ c.
    let did = c.dot.ensures in
    let start = c.args in
    let known = c.shared_slice_known-1.given in
    record {
      answers = c.dot_number.ensures ∙ ap (λ a. code (dot_digits a)) did.answers;
      leaves = did.leaves;
      short = dot_short start.report.now (length start.text.now) (λ i. omega (arith, known i));
    }))

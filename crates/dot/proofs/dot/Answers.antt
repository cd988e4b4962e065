-- The checks in their order, and then the text. Assumes nothing.
use Rattle.std.proofs.Common.{ℕ, List, length, replicate, arith, sym, ap, ◌∙◌}
use Rattle.drawing.proofs.Longest.{text_longest}
use Rattle.dot.proofs.Answers.{answer_unformed, answer_short, answer-written, drawn_length, drawn_blank, drawn_size}
use Rattle.dot.proofs.dot.Goals as goal

pub returns-then-not-is_well_formed : goal.returns-then-not-is_well_formed
returns-then-not-is_well_formed c =
    rw c.at.ensures
    (answer_unformed c.args.report.now _ (length c.args.text.now) (sym c.is_well_formed.ensures ∙ c.if-not-is_well_formed.true) c.clear.ensures)

pub draw-length-requires : goal.draw-length-requires
draw-length-requires c =
    let formed = sym c.is_well_formed.ensures ∙ c.if-not-is_well_formed.false in
    omega (arith, text_longest c.args.report.now (record { formed = formed; below = λ i. omega (arith, c.type_inv.report i) }))

pub returns-then-text-length : goal.returns-then-text-length
returns-then-text-length c =
    let report : List ℕ = c.args.report.now in
    let text : List ℕ = c.args.text.now in
    let formed = sym c.is_well_formed.ensures ∙ c.if-not-is_well_formed.false in
    let long = drawn_length report text _ _ _ c.clear.ensures c.draw-length.ensures in
    let size = drawn_size report text _ _ _ c.clear.ensures c.draw-length.ensures in
    rw c.at-then-text-length.ensures
    (answer_short report _ (length text) formed (omega arith) (c.clear-then-text-length.ensures ∙ ap (λ (k : ℕ). replicate k 0) long))

pub returns : goal.returns
returns c =
    let report : List ℕ = c.args.report.now in
    let text : List ℕ = c.args.text.now in
    let formed = sym c.is_well_formed.ensures ∙ c.if-not-is_well_formed.false in
    let long = drawn_length report text _ _ _ c.clear.ensures c.draw-length.ensures in
    let size = drawn_size report text _ _ _ c.clear.ensures c.draw-length.ensures in
    answer-written report _ (length text) _ formed (omega arith) (drawn_blank report text _ _ _ c.clear.ensures c.draw-length.ensures)

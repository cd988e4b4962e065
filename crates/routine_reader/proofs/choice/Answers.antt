-- Assumes nothing.
use Rattle.std.proofs.Common.{ℕ, List, ◌+◌, ◌*◌, get_or, ap, ◌∙◌}
use Rattle.routine_reader.proofs.Stack.{choice_in, choice_out}
use Rattle.routine_reader.proofs.choice.Goals as goal

pub returns-then-rule-lt42 : goal.returns-then-rule-lt42
returns-then-rule-lt42 c =
    let s = c.args in
    c.from.ensures ∙ ap (λ (l : List ℕ). get_or l (45 * s.rule + s.kind) 0) c.requires.1 ∙ choice_in s.rule s.kind c.if-rule-lt42.true

pub returns : goal.returns
returns c = choice_out c.args.rule c.args.kind c.if-rule-lt42.false

use Rattle.std.proofs.Common.{refl, rules}
use Rattle.tally.proofs.Counts.{adds_lines, test_true, test_false}
use Rattle.tally.proofs.Tally.add.Goals as goal

pub returns-in_default : goal.returns-in_default
returns-in_default c =
    let misfits = c.in_default.ensures in
    adds_lines _ _ (search rules) c.rule_lines-more.ensures (test_false 0 28 refl misfits refl, test_false _ _ refl misfits refl)

pub returns : goal.returns
returns c =
    let (fit, e) = c.in-Some.ensures in
    adds_lines _ _ (search rules) c.rule_lines-more.ensures (test_true 0 28 refl fit refl, test_true _ _ refl fit e)

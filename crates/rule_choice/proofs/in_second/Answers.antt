-- TRANS2 and CYCLE have their own search.
use Rattle.std.proofs.Common.{◌≡◌, true, refl}
use Rattle.rules.specs.declared.Rule.{Rule}
use Rattle.rules.specs.declared.Rule.TheVariants as rule
use Rattle.rules.specs.Answers.{kind_of}
use Rattle.rules.specs.Tests.{is_not_cycle}
use Rattle.rule_choice.proofs.in_second.Goals as goal

no_cycle : (r : Rule) → (r ≡ rule.Cycle → ⊥) → is_not_cycle (kind_of r) ≡ true
unfolding is_not_cycle
no_cycle rule.Reflex n = refl
no_cycle rule.Trans1 n = refl
no_cycle rule.Trans2 n = refl
no_cycle rule.Func n = refl
no_cycle rule.Cycle n = absurd (n refl)
no_cycle rule.Scc n = refl
no_cycle rule.Total n = refl
no_cycle rule.Share n = refl

pub scan-requires : goal.scan-requires
scan-requires c = (c.requires.0, c.requires.1, no_cycle _ c.in_default.not-Cycle, c.requires.2)

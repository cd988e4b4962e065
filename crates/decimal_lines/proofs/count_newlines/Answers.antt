use Rattle.std.proofs.Common.{◌∙◌, rules, tests, eqb}
use Rattle.std.proofs.lemmas.Iterator.{YieldsList-from_slice}
use Rattle.std.proofs.lemmas.Iterator.Consumers.{YieldsList-from_filter, count_from_yields_List}
use Rattle.decimal_lines.proofs.Reading.{newlines_kept}
use Rattle.decimal_lines.proofs.count_newlines.Goals as goal

pub returns : goal.returns
returns c =
    count_from_yields_List c.filter.result _ c.count.ensures.ran
    (YieldsList-from_filter _ (λ x. eqb x 10) (YieldsList-from_slice c.args.text.now cc) c.filter.ensures.closure (λ x b q k. search (rules, tests)))
    ∙ newlines_kept c.args.text.now

use Rattle.std.proofs.Common.{◌∙◌, rules}
use Rattle.std.proofs.lemmas.Iterator.{YieldsList-from_slice}
use Rattle.std.proofs.lemmas.Iterator.Consumers.{fold_from_yields_List}
use Rattle.fnv.specs.Mark.{marked, mark_of}
use Rattle.fnv.proofs.Marks.{fold_marks}
use Rattle.fnv.proofs.mark.Goals as goal

pub returns : goal.returns
unfolding mark_of
returns c =
    fold_from_yields_List _ marked 2166136261 _ c.fold.ensures.ran (YieldsList-from_slice c.args.octets.now cc) (λ a x b q k. search rules)
    ∙ fold_marks 2166136261 c.args.octets.now

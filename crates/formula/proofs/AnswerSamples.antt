-- The samples come out as they are listed, by computation.
use mathlib.Core.Path.{refl}
use Rattle.logic.specs.Search.{flat_map}
use Rattle.formula.specs.Expansion.{expand}
use Rattle.formula.specs.AnswerSamples.{SamplesHold, name, equals, reaches}

pub samples_hold : SamplesHold
unfolding flat_map expand name equals reaches
samples_hold = record { right_fastest = refl; left_first = refl }

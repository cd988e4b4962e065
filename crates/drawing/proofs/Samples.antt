-- The samples come out as the vectors say, and their texts give their reports back, by computation.
use mathlib.Core.Path.{refl}
use Rattle.logic.specs.Search.{◌and◌, ◌or◌, from, any, all, select, flat_map}
use Rattle.logic.specs.Shown.{size_in, node_in, is_node, well_formed}
use Rattle.logic.specs.Calls.{padded}
use Rattle.text.specs.Text.{decimal_within, decimal}
use Rattle.drawing.specs.Text.{count_in, link_in, datum_in, booleans_in, report_size, listed, terms_at, comment_line, node_line, arrow_line, text}
use Rattle.drawing.specs.Call.{refusal, drawn, dot_call}
use Rattle.drawing.specs.Samples.{SamplesHold, samples, computed}

pub samples_hold : SamplesHold
unfolding ◌and◌ ◌or◌ from any all select flat_map size_in node_in is_node well_formed padded decimal_within decimal count_in link_in datum_in booleans_in
    report_size listed terms_at comment_line node_line arrow_line text refusal drawn dot_call samples computed
samples_hold = refl

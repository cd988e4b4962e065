-- The numbers come out. Assumes nothing.
use mathlib.Core.Path.{refl}
use Rattle.answer_codes.specs.Rows.{Rows}

pub rows : Rows
rows =
    record {
      verdict_row = refl;
      order_row = refl;
      formula_row = refl;
      check_row = refl;
      dot_row = refl;
      writing_row = refl;
      join_row = refl;
      hand_row = refl;
    }

-- The bit is read in its row; no fact where a number is no term.
use Rattle.std.proofs.Common.{sym, ◌∙◌, arith}
use Rattle.link_rows.proofs.Cube.{cube_above, cube_beside, held_at}
use Rattle.link_rows.proofs.is_held.Goals as goal
use Rattle.link_rows.proofs.is_held.Goals.{then-a-gt16-via-then-a-gt16, then-a-gt16-via-else-a-gt16+then-b-gt16}

pub returns-then-a-gt16 : goal.returns-then-a-gt16
returns-then-a-gt16 c =
    elim c.then-a-gt16.branch [
      | then-a-gt16-via-then-a-gt16 w ↦ sym (cube_above _ _ _ _ (omega arith))
      | then-a-gt16-via-else-a-gt16+then-b-gt16 w ↦ sym (cube_beside _ _ _ _ (omega arith))
    ]

pub returns : goal.returns
returns c = c.has.ensures ∙ held_at _ _ _ _ c.requires.0 (omega arith) (omega arith) _ c.place.ensures.0

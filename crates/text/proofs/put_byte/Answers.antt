-- The byte is stored where it has room.
use Rattle.std.proofs.Common.{◌∙◌, sym, refl}
use Rattle.text.proofs.Writing.{write_at_one, write_at_out}
use Rattle.text.proofs.put_byte.Goals as goal
use Rattle.text.proofs.put_byte.Goals.{then-at-buffer, else-at-buffer}

pub returns : goal.returns
returns c =
    elim c.if-at-buffer.branch [
      | then-at-buffer w ↦ record { leaves = w.buffer-is ∙ sym (write_at_one _ _ _); ends = refl }
      | else-at-buffer w ↦ record { leaves = w.buffer-is ∙ sym (write_at_out _ _ _ w.if-at-buffer.false); ends = refl }
    ]

-- The bytes that are read, as the definition cuts them. Assumes nothing.
use Prim.Native.Nat.{ℕ}
use native.Mathlib.Omega.{arith}
use mathlib.Core.Path.{◌≡◌, sym, ap, ◌∙◌}
use mathlib.Core.List.{List, ◌++◌}
use lib.ListN.{length}
use lib.Seq.{take_all, take_at}
use Rattle.between_printing.specs.BetweenverdictText.{text_of, betweenverdict_text}
use Rattle.between_printing.specs.Reading.{ReadsAtMost}
use Rattle.between_printing.proofs.Told.{all_read}

rest_unread : (bytes rest : List ℕ) → length bytes ≡ 1024 → betweenverdict_text (bytes ++ rest) ≡ betweenverdict_text bytes
unfolding betweenverdict_text
rest_unread bytes rest h = ap text_of (take_at bytes rest 1024 h ∙ sym (take_all 1024 bytes (omega arith)))

pub reads_at_most : ReadsAtMost
reads_at_most = record { read_whole = λ bytes h. sym (all_read bytes h); rest_unread = rest_unread }

-- What a call writes is printed whole. Assumes nothing.
use Prim.Native.Nat.{ℕ, ◌-◌, ◌≤◌}
use native.Mathlib.Omega.{arith}
use mathlib.Core.Path.{◌≡◌, refl, sym, ap, ◌∙◌}
use mathlib.Core.Bool.{true}
use mathlib.Core.List.{List}
use lib.ListN.{length, replicate}
use lib.Seq.{take_at}
use Rattle.logic.specs.Calls.{padded}
use Rattle.encoding.specs.QueryBytes.{encode}
use Rattle.encoding.specs.WritingCall.{Writing, written, accepts_in, writes, writing_call}
use Rattle.encoding.proofs.WritingCall.{call_writes, wrote}
use Rattle.rewriting.specs.Call.{rewrite_of, rewriting_old, rewrite_call}
use Rattle.rewriting.proofs.Encoded.{room_has, room_intro}
use Rattle.rewriting.proofs.Claims as rewriting
use Rattle.hex_lines.specs.HexLines.{hex_line}
use Rattle.rewrite_printing.specs.RewriteText.{answer_text, outcome_text, text_of, rewritequery_text}
use Rattle.rewrite_printing.specs.Claims.{Claims}
use Rattle.rewrite_printing.proofs.Texts.{text_whole}

-- where the checks pass and there is room
pub printed_whole : (w : Writing) (bytes : List ℕ) (most : ℕ) → accepts_in w.form bytes ≡ true → w.has_room most bytes ≡ true → outcome_text (writing_call w bytes most) ≡ hex_line (w.made bytes)
unfolding outcome_text answer_text writes padded
printed_whole w bytes most a r =
    ap outcome_text (call_writes w bytes most a r)
    ∙ ap hex_line (take_at (w.made bytes) (replicate (most - length (w.made bytes)) 0) (length (w.made bytes)) refl)

prints_whole : (bytes : List ℕ) (room n : ℕ) → length bytes ≤ 1024 → (rewrite_call bytes room).answer ≡ written n → rewritequery_text bytes ≡ hex_line (encode (rewrite_of bytes))
unfolding text_of
prints_whole bytes room n short h =
    let r = wrote rewriting_old bytes room n h in
    let has = room_has room (rewrite_of bytes) r.room_there in
    let fits : length (encode (rewrite_of bytes)) ≤ 561 = omega (arith, r.counted, ((rewriting.claims).written bytes room n h).within) in
    sym (text_whole bytes short)
    ∙ printed_whole rewriting_old bytes 561 r.accepted (room_intro 561 (rewrite_of bytes) (record { terms = has.terms; fields = has.fields; output = fits }))

pub claims : Claims
claims = record { prints_whole = prints_whole }

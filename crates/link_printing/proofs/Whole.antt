-- What the call writes is printed whole. Assumes nothing.
use Prim.Native.Nat.{ℕ, ◌≤◌}
use native.Mathlib.Omega.{arith}
use mathlib.Core.Path.{◌≡◌, sym, ◌∙◌}
use mathlib.Core.List.{List}
use lib.ListN.{length}
use borrow.Author.Tests.{le-leb}
use Rattle.encoding.specs.WritingCall.{written}
use Rattle.encoding.proofs.WritingCall.{wrote}
use Rattle.link_rewriting.specs.Call.{linked_bytes, rewriting_links, links_rewrite_call}
use Rattle.link_rewriting.proofs.Claims as rewriting
use Rattle.hex_lines.specs.HexLines.{hex_line}
use Rattle.rewrite_printing.proofs.Whole.{printed_whole}
use Rattle.link_printing.specs.LinkText.{text_of, rewritelinks_text}
use Rattle.link_printing.specs.Claims.{Claims}
use Rattle.link_printing.proofs.Texts.{text_whole}

prints_whole : (bytes : List ℕ) (room n : ℕ) → length bytes ≤ 1024 → (links_rewrite_call bytes room).answer ≡ written n → rewritelinks_text bytes ≡ hex_line (linked_bytes bytes)
unfolding text_of
prints_whole bytes room n short h =
    let r = wrote rewriting_links bytes room n h in
    let fits : length (linked_bytes bytes) ≤ 637 = omega (arith, r.counted, ((rewriting.claims).written bytes room n h).within) in
    sym (text_whole bytes short) ∙ printed_whole rewriting_links bytes 637 r.accepted (le-leb _ 637 fits)

pub claims : Claims
claims = record { prints_whole = prints_whole }

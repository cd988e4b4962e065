-- What is claimed of the text, as a statement about the definitions (02, R-11).
use Rattle.std.specs.Prelude.{ℕ, ◌≤◌, ◌≡◌, List, length}
use Rattle.encoding.specs.WritingCall.{written}
use Rattle.link_rewriting.specs.Call.{linked_bytes, links_rewrite_call}
use Rattle.hex_lines.specs.HexLines.{hex_line}
use Rattle.link_printing.specs.LinkText.{rewritelinks_text}

pub record Claims : Type 0 where
  -- a query that the call writes in any room is printed whole: what the program has room for is never too short
  pub prints_whole : (bytes : List ℕ) (room n : ℕ) → length bytes ≤ 1024 → (links_rewrite_call bytes room).answer ≡ written n → rewritelinks_text bytes ≡ hex_line (linked_bytes bytes)

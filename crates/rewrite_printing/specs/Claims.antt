-- What is claimed of the text, as a statement about the definitions (02, R-13).
use Rattle.std.specs.Prelude.{ℕ, ◌≤◌, ◌≡◌, List, length}
use Rattle.encoding.specs.QueryBytes.{encode}
use Rattle.encoding.specs.WritingCall.{written}
use Rattle.rewriting.specs.Call.{rewrite_of, rewrite_call}
use Rattle.hex_lines.specs.HexLines.{hex_line}
use Rattle.rewrite_printing.specs.RewriteText.{rewritequery_text}

pub record Claims : Type 0 where
  -- an old query that the call writes anew in any room is printed whole: what the program has room for is never too short
  pub prints_whole : (bytes : List ℕ) (room n : ℕ) → length bytes ≤ 1024 → (rewrite_call bytes room).answer ≡ written n → rewritequery_text bytes ≡ hex_line (encode (rewrite_of bytes))

-- A line of bytes in hex digits.
use Rattle.std.specs.Prelude.{ℕ, List, map}
use Rattle.text.specs.Text.{hex_byte}
use Rattle.wording.specs.Words.{line_of}

-- bytes as two hex digits each, separated by blanks
unfoldable pub hex_line : List ℕ → List ℕ
hex_line bytes = line_of (map hex_byte bytes)

-- The words that programs print, byte for byte (01, "The program heapverdict").
use Rattle.std.specs.Prelude.{ℕ, ◌+◌, List, [], ◌∷◌, ◌++◌, map, get_or, take}
use Rattle.logic.specs.Facts.{Line}
use Rattle.logic.specs.Derivation.{line_bytes}
use Rattle.logic.specs.Shown.{size_in}
use Rattle.text.specs.Text.{ascii, decimal, hex_byte}

-- "separated by blanks": a line of words
unfoldable pub behind : List (List ℕ) → List ℕ
behind [] = ascii "\n"
behind (w ∷ ws) = (ascii " " ++ w) ++ behind ws

unfoldable pub line_of : List (List ℕ) → List ℕ
line_of [] = ascii "\n"
line_of (w ∷ ws) = w ++ behind ws

-- "It prints `sat`, `unsat` or `refused N at P`": the words of a refusal, and its line
unfoldable pub refused_text : ℕ → ℕ → List ℕ
refused_text k place = ascii "refused " ++ (decimal k ++ (ascii " at " ++ decimal place))

unfoldable pub refusal_text : ℕ → ℕ → List ℕ
refusal_text k place = refused_text k place ++ ascii "\n"

-- "That is 2m+n+5 bytes", and with three links 4m+n+5 (02, R-11): what the first three counts say, these counts, and the last section's two bytes
unfoldable pub report_size : List ℕ → ℕ
report_size bytes =
    let p : ℕ = size_in bytes in
    let n : ℕ = get_or bytes (p + 1) 0 in
    p + n + get_or bytes (p + n + 2) 0 + 5

-- "one line, the heap report's bytes (without the zeros past it) as two lower-case hex digits each, separated by blanks"
unfoldable pub report_text : List ℕ → List ℕ
report_text bytes = line_of (map hex_byte (take (report_size bytes) bytes))

-- "each derivation line as four decimal numbers separated by blanks"
unfoldable pub line_text : Line → List ℕ
line_text l = line_of (map decimal (line_bytes l))

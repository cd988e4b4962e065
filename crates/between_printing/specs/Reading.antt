-- How many bytes betweenverdict reads (01, "The program heapverdict", whose words it has).
use Rattle.std.specs.Prelude.{ℕ, ◌≤◌, ◌≡◌, List, ◌++◌, length}
use Rattle.between_printing.specs.BetweenverdictText.{text_of, betweenverdict_text}

-- "It reads at most the first 1,024 bytes of standard input": up to 1,024 bytes are read whole, and no byte behind 1,024 plays a part
pub record ReadsAtMost : Type 0 where
  pub read_whole : (bytes : List ℕ) → length bytes ≤ 1024 → betweenverdict_text bytes ≡ text_of bytes
  pub rest_unread : (bytes rest : List ℕ) → length bytes ≡ 1024 → betweenverdict_text (bytes ++ rest) ≡ betweenverdict_text bytes

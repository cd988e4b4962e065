-- The sentences of 02, R-14, one by one, as what the definition of the output makes of them.
use Rattle.std.specs.Prelude.{ℕ, ◌+◌, ◌*◌, ◌≤◌, ◌<◌, ◌≡◌, cond, List, [], ◌∷◌, ◌++◌, length, eqb}
use Rattle.logic.specs.Search.{flat_map}
use Rattle.logic.specs.Calls.{Input, refused, refuted, derivation_call}
use Rattle.text.specs.Text.{ascii, decimal}
use Rattle.wording.specs.Words.{line_text}
use Rattle.printing.specs.HeapverdictText.{heapverdict_text}
use Rattle.fnv.specs.Mark.{mark_of}
use Rattle.tally.specs.Counting.{tallied}
use Rattle.fractions.specs.Fractions.{shares_text}
use Rattle.sharing.specs.Output.{hex_word, written_lines, query_line, output_from}

-- What stands behind an order list of eight bytes, where the tally stands so.
pub record TurnClaims : Type 0 where
  -- nothing: the shares. A cut order list has no queries behind it.
  pub no_query : (counts order : List ℕ) → length order ≤ 8 → output_from counts order ≡ shares_text counts
  -- "queries, each after its length in two bytes, high first": the line of the first, and all that is printed of the others where its lines are tallied
  pub one_query : (counts order query rest : List ℕ) (a b : ℕ) → length order ≡ 8 → 256 * a + b ≤ 681 → length query ≡ 256 * a + b
      → output_from counts (order ++ (a ∷ b ∷ (query ++ rest))) ≡ query_line order query ++ output_from (tallied counts (written_lines order query)) (order ++ rest)
  -- "a cut query is taken as far as it goes"
  pub cut_query : (counts order query : List ℕ) (a b : ℕ) → length order ≡ 8 → 256 * a + b ≤ 681 → length query ≤ 256 * a + b
      → output_from counts (order ++ (a ∷ b ∷ query)) ≡ query_line order query ++ shares_text (tallied counts (written_lines order query))
  -- "a length above 681 .. ends them with the line `bad length`": nothing behind it is read, and the tally stays
  pub long_length : (counts order rest : List ℕ) (a b : ℕ) → length order ≡ 8 → 681 < 256 * a + b → output_from counts (order ++ (a ∷ b ∷ rest)) ≡ ascii "bad length\n" ++ shares_text counts
  -- ".. or cut short"
  pub cut_length : (counts order : List ℕ) (a : ℕ) → length order ≡ 8 → output_from counts (order ++ (a ∷ [])) ≡ ascii "bad length\n" ++ shares_text counts

-- the bytes of a text before its first newline
unfoldable pub first_line_in : List ℕ → List ℕ
first_line_in [] = []
first_line_in (c ∷ cs) = cond (eqb c 10) [] (c ∷ first_line_in cs)

-- heapverdict's derivation call: "Its derivation buffer has 64,002 bytes" (01)
abbrev pub asked : List ℕ → List ℕ → Input
asked order query = record { order = order; query = query; room = 64002 }

-- The line of a query, and what heapverdict prints of the same order list and query.
pub record LineClaims : Type 0 where
  -- "its FNV-1a 32-bit mark .. as eight lower-case hex digits, heapverdict's first line, and the line count"
  pub first_line_lem : (order query : List ℕ) → length order ≡ 8 → length query ≤ 681
      → query_line order query
      ≡ hex_word (mark_of query) ++ (ascii " " ++ (first_line_in (heapverdict_text (order ++ query)) ++ (ascii " " ++ (decimal (length (written_lines order query)) ++ ascii "\n"))))
  -- where a derivation was written, its lines are those that heapverdict prints behind `unsat`
  pub lines_written : (order query : List ℕ) → length order ≡ 8 → length query ≤ 681 → (derivation_call (asked order query)).answer ≡ refuted
      → heapverdict_text (order ++ query) ≡ ascii "unsat\n" ++ flat_map line_text (written_lines order query)
  -- "0 unless a derivation was written"
  pub none_written : (order query : List ℕ) (k place : ℕ) → (derivation_call (asked order query)).answer ≡ refused k place → written_lines order query ≡ []
  -- "only written ones are tallied"
  pub none_tallied : (counts : List ℕ) → tallied counts [] ≡ counts

-- What it is for a derivation to follow the eight rules line by line (demand 2), said without reference to our walk.
use Rattle.std.specs.Prelude.{ℕ, zero, suc, ◌+◌, ◌*◌, ◌/◌, ◌%◌, ◌≡◌, true, List, [], ◌∷◌, ◌++◌, length, get_or, drop}
use Rattle.std.proofs.Math.Option.{none}
use Rattle.logic.specs.Search.{flat_map}
use Rattle.logic.specs.Query.{Query, term_count}
use Rattle.logic.specs.Facts.{Facts, Line, line, join_lines, start_joins, start, is_clash, clash}
use Rattle.logic.specs.Rules.{Move, Fact, alternatives, applies, branch, add, move_line}

-- Lines refute a path: a true clash ends it; or there is no clash, a rule applies, and the lines of all its branches follow in order, each
-- with the lines of its joins at its head (02, R-1).
mutual
  pub data Refutes (q : Query) : Facts → List Line → Type 0 where
    ends : {s : Facts} (l : Line) → is_clash q s l ≡ true → Refutes q s (l ∷ [])
    follows : {s : Facts} (m : Move) {ls : List Line} → clash q s ≡ none → applies (term_count q) s m ≡ true → RefutesEach q s (alternatives (term_count q) s.graph m) ls → Refutes q s (move_line m ∷ ls)

  pub data RefutesEach (q : Query) : Facts → List Fact → List Line → Type 0 where
    none_left : {s : Facts} → RefutesEach q s [] []
    one_more : {s : Facts} {c : Fact} {cs : List Fact} {ls ms : List Line} → Refutes q (add (term_count q) s c) ls → RefutesEach q s cs ms → RefutesEach q s (c ∷ cs) ((join_lines (branch (term_count q) s c).pairs ++ ls) ++ ms)

-- Lines are a derivation of a query: the lines of the start's joins, and then lines that refute the start.
pub record Derivation (q : Query) (lines : List Line) : Type 0 where
  pub walked : List Line
  pub headed : lines ≡ join_lines (start_joins q).pairs ++ walked
  pub refutes : Refutes q (start q) walked

-- "then lines of four bytes in walk order"
unfoldable pub line_bytes : Line → List ℕ
line_bytes (line a b c d) = a ∷ b ∷ c ∷ d ∷ []

-- "Line count in two bytes, high byte first"
unfoldable pub derivation_bytes : List Line → List ℕ
derivation_bytes ls = length ls / 256 ∷ length ls % 256 ∷ flat_map line_bytes ls

-- Reading a derivation. "Line count in two bytes, high byte first, then lines of four bytes": the first k lines of bytes, and the lines
-- in the bytes of a derivation; "bytes after them" are not read.
unfoldable pub lines_from : ℕ → List ℕ → List Line
lines_from zero bytes = []
lines_from (suc k) bytes = line (get_or bytes 0 0) (get_or bytes 1 0) (get_or bytes 2 0) (get_or bytes 3 0) ∷ lines_from k (drop 4 bytes)

unfoldable pub lines_in : List ℕ → List Line
lines_in bytes = lines_from (256 * get_or bytes 0 0 + get_or bytes 1 0) (drop 2 bytes)

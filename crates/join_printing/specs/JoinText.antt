-- What joinqueries prints, byte for byte, as a function of the bytes that it is given (02, R-12): two queries, each behind its length in two
-- bytes, high first, and then a pair list, or a clash line as heapverdict prints it.
use Rattle.std.specs.Prelude.{ℕ, ◌+◌, List, [], ◌++◌, false, cond, length, take, drop, ltb}
use Rattle.std.proofs.Math.Option.{Option-elim}
use Rattle.text.specs.Text.{ascii, decimal}
use Rattle.wording.specs.Words.{refused_text}
use Rattle.hex_lines.specs.HexLines.{hex_line}
use Rattle.decimal_lines.specs.DecimalLines.{begins, numbers_from}
use Rattle.checking.specs.CheckCall.{count_in}
use Rattle.joining.specs.Call.{Answer, written, first_refused, second_refused, refused, Outcome, join_call}
use Rattle.joining.specs.HandBack.{Handed, hand_back_call, part_of}
use Rattle.joining.specs.HandBack as handed

-- a query behind its length, and what stands behind it; either counts as far as it goes
unfoldable pub query_in : List ℕ → List ℕ
query_in bytes = take (count_in bytes) (drop 2 bytes)

unfoldable pub behind_query : List ℕ → List ℕ
behind_query bytes = drop (2 + count_in bytes) bytes

-- The joined query, or a refusal and the query that it is about.
unfoldable pub answer_text : Answer → List ℕ → List ℕ
answer_text (written length) lent = hex_line (take length lent)
answer_text (first_refused k place) lent = refused_text k place ++ ascii " of the first query\n"
answer_text (second_refused k place) lent = refused_text k place ++ ascii " of the second query\n"
answer_text (refused k place) lent = refused_text k place ++ ascii "\n"

-- a query has at most 561 bytes
unfoldable pub joined_text : List ℕ → List ℕ → List ℕ → List ℕ
joined_text first second pairs = let o : Outcome = join_call first second pairs 561 in answer_text o.answer o.lent

-- Where the literal stands that a clash line names, and its own bytes.
unfoldable pub part_text : Handed → List ℕ → List ℕ
part_text (handed.in_first at size) part = ascii "first query at " ++ (decimal at ++ (ascii ": " ++ hex_line part))
part_text (handed.in_second at size) part = ascii "second query at " ++ (decimal at ++ (ascii ": " ++ hex_line part))
part_text (handed.first_refused k place) part = refused_text k place ++ ascii " of the first query\n"
part_text (handed.second_refused k place) part = refused_text k place ++ ascii " of the second query\n"
part_text (handed.refused k place) part = refused_text k place ++ ascii "\n"

unfoldable pub handed_text : List ℕ → List ℕ → List ℕ → List ℕ
handed_text first second line =
    let h : Handed = hand_back_call first second line in part_text h (part_of h first second)

-- the numbers of a line, none where it is no line or a text of more than 64 bytes
unfoldable pub line_in : List ℕ → List ℕ
line_in text = cond (ltb 64 (length text)) [] (Option-elim (numbers_from 0 0 false text) [] (λ ns. ns))

-- Behind the queries: a line in decimal that begins with 9, or a pair list. No pair list that passes its check begins so: it would have 57 pairs,
-- and term 32 in the first.
unfoldable pub told_text : List ℕ → List ℕ → List ℕ → List ℕ
told_text first second rest =
    cond (begins (ascii "9 ") rest) (handed_text first second (line_in rest)) (joined_text first second rest)

unfoldable pub joinqueries_text : List ℕ → List ℕ
joinqueries_text bytes =
    let behind : List ℕ = behind_query bytes in told_text (query_in bytes) (query_in behind) (behind_query behind)

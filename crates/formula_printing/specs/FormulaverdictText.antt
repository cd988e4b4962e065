-- What formulaverdict prints, byte for byte, as a function of the bytes that it is given (02, R-7: "Take an order list, a query and a text").
use Rattle.std.specs.Prelude.{ℕ, ◌+◌, ◌*◌, List, ◌++◌, get_or, take, drop}
use Rattle.text.specs.Text.{ascii, decimal}
use Rattle.wording.specs.Words.{refusal_text, report_text}
use Rattle.formula.specs.Call.{Outcome, Answer, conjunction, refuted, refused, formula_call}

-- "the first satisfiable conjunction's number (from 1) and its heap, or "refuted"": `sat`, the number and the report as heapverdict prints it
unfoldable pub sat_text : ℕ → List ℕ → List ℕ
sat_text n bytes = ascii "sat " ++ (decimal n ++ (ascii "\n" ++ report_text bytes))

unfoldable pub answer_text : Answer → List ℕ → List ℕ
answer_text (conjunction n) bytes = sat_text n bytes
answer_text refuted bytes = ascii "unsat\n"
answer_text (refused k place) bytes = refusal_text k place

-- the report's buffer has the 53 bytes that the call asks for
unfoldable pub text_of : List ℕ → List ℕ → List ℕ → List ℕ
text_of order query text =
    let o : Outcome = formula_call (record { order = order; query = query; text = text; room = 53 }) in answer_text o.answer o.lent

-- The parts of what is read: the order list, the query's length in two bytes, high byte first, the query, and all that follows is the text.
-- A query that is cut short is taken as far as it goes.
unfoldable pub query_length : List ℕ → ℕ
query_length bytes = 256 * get_or bytes 8 0 + get_or bytes 9 0

unfoldable pub query_in : List ℕ → List ℕ
query_in bytes = take (query_length bytes) (drop 10 bytes)

unfoldable pub text_in : List ℕ → List ℕ
text_in bytes = drop (query_length bytes) (drop 10 bytes)

unfoldable pub parts_text : List ℕ → List ℕ
parts_text read = text_of (take 8 read) (query_in read) (text_in read)

-- at most the first 2,048 bytes are read: the longest query and the longest text fit, and a longer one is still seen to be too long
unfoldable pub formulaverdict_text : List ℕ → List ℕ
formulaverdict_text bytes = parts_text (take 2048 bytes)

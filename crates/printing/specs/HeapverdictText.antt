-- What heapverdict prints, byte for byte, as a function of the bytes that it is given (01, "The program heapverdict"), and linksverdict, which
-- prints the same of queries with three links (02, R-11).
use Rattle.std.specs.Prelude.{ℕ, List, [], ◌++◌, take, drop}
use Rattle.logic.specs.Search.{flat_map}
use Rattle.logic.specs.Derivation.{lines_in}
use Rattle.logic.specs.Calls.{CallForm, one_link_form, Outcome, Answer, refused, satisfiable, refuted, verdict_call_of, derivation_call_of}
use Rattle.logic.specs.ThreeLinks.{three_link_form}
use Rattle.text.specs.Text.{ascii}
use Rattle.wording.specs.Words.{refused_text, report_text, line_text}

-- "It prints `sat`, `unsat` or `refused N at P`": the words of an answer, and the first line
unfoldable pub answer_text : Answer → List ℕ
answer_text satisfiable = ascii "sat"
answer_text refuted = ascii "unsat"
answer_text (refused k place) = refused_text k place

unfoldable pub first_line : Answer → List ℕ
first_line a = answer_text a ++ ascii "\n"

-- what follows `unsat`, where the derivation call has this outcome: its lines, "or `refused 12 at 0`". It never answers "satisfiable".
unfoldable pub derivation_text : Answer → List ℕ → List ℕ
derivation_text refuted bytes = flat_map line_text (lines_in bytes)
derivation_text (refused k place) bytes = first_line (refused k place)
derivation_text satisfiable bytes = []

-- "After `sat`: one line ... After `unsat`: each derivation line .."
unfoldable pub verdict_text : Answer → List ℕ → List ℕ → List ℕ
verdict_text satisfiable bytes derivation = first_line satisfiable ++ report_text bytes
verdict_text refuted bytes derivation = first_line refuted ++ derivation
verdict_text (refused k place) bytes derivation = first_line (refused k place)

-- "Its derivation buffer has 64,002 bytes."
unfoldable pub unsat_text : CallForm → List ℕ → List ℕ → List ℕ
unsat_text f order query =
    let d : Outcome = derivation_call_of f (record { order = order; query = query; room = 64002 }) in derivation_text d.answer d.lent

-- the text of an order list and a query; the report's buffer has the bytes that the verdict call asks for
unfoldable pub text_of : CallForm → List ℕ → List ℕ → List ℕ
text_of f order query =
    let v : Outcome = verdict_call_of f (record { order = order; query = query; room = f.room }) in
    let derivation : List ℕ = unsat_text f order query in
    verdict_text v.answer v.lent derivation

-- "It reads at most the first 1,024 bytes of standard input: the order list, then the query. Fewer than eight bytes are a bad order
-- list."
unfoldable pub text_by : CallForm → List ℕ → List ℕ
text_by f bytes = let read : List ℕ = take 1024 bytes in text_of f (take 8 read) (drop 8 read)

abbrev pub heapverdict_text : List ℕ → List ℕ
heapverdict_text = text_by one_link_form

abbrev pub linksverdict_text : List ℕ → List ℕ
linksverdict_text = text_by three_link_form

-- What betweenverdict prints, byte for byte, as a function of the bytes that it is given: heapverdict's words for the between call.
use Rattle.std.specs.Prelude.{ℕ, List, ◌++◌, take}
use Rattle.logic.specs.Calls.{Outcome, Answer, refused, satisfiable, refuted}
use Rattle.text.specs.Text.{ascii}
use Rattle.wording.specs.Words.{report_text, refusal_text}
use Rattle.between_search.specs.Calls.{between_call}

-- "It prints `sat`, `unsat` or `refused N at P`. After `sat`: one line, the heap report's bytes"
unfoldable pub outcome_text : Answer → List ℕ → List ℕ
outcome_text satisfiable bytes = ascii "sat\n" ++ report_text bytes
outcome_text refuted bytes = ascii "unsat\n"
outcome_text (refused k place) bytes = refusal_text k place

-- the text of a query; the report's buffer has the 53 bytes that the call asks for
unfoldable pub text_of : List ℕ → List ℕ
text_of query = let o : Outcome = between_call query 53 in outcome_text o.answer o.lent

-- "It reads at most the first 1,024 bytes of standard input"
unfoldable pub betweenverdict_text : List ℕ → List ℕ
betweenverdict_text bytes = text_of (take 1024 bytes)

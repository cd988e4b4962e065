-- What the rewriting call answers, and every byte of what is lent, on every input (02, R-13).
use Rattle.std.specs.Prelude.{ℕ, Bool, List, length, leb}
use Rattle.logic.specs.Search.{◌and◌}
use Rattle.logic.specs.Query.{Query, term_count}
use Rattle.encoding.specs.QueryBytes.{encode}
use Rattle.encoding.specs.WritingCall.{Outcome, Writing, writing_call}
use Rattle.rewriting.specs.OldQuery.{old_sections, decode_old}
use Rattle.rewriting.specs.Rewritten.{rewrite}

-- the query that is written for old query bytes
abbrev pub rewrite_of : List ℕ → Query
rewrite_of bytes = rewrite (decode_old bytes)

-- not "27, no room for the term, the literals or the output": a query has 16 terms and 60 data literals at most
unfoldable pub has_room : ℕ → Query → Bool
has_room room q = leb (term_count q) 16 and leb (length q.fields) 60 and leb (length (encode q)) room

-- "the rewriting keeps 2 to 8 as they stood, then 27"
abbrev pub rewriting_old : Writing
rewriting_old =
    record {
      form = old_sections;
      has_room = λ room bytes. has_room room (rewrite_of bytes);
      made = λ bytes. encode (rewrite_of bytes);
    }

abbrev pub rewrite_call : List ℕ → ℕ → Outcome
rewrite_call = writing_call rewriting_old

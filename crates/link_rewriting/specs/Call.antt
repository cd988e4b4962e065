-- What the call answers that rewrites a query with link 1, and every byte of what is lent, on every input (02, R-11).
use Rattle.std.specs.Prelude.{ℕ, List, length, leb}
use Rattle.logic.specs.Query.{Query, sections, decode}
use Rattle.encoding.specs.WritingCall.{Outcome, Writing, writing_call}
use Rattle.link_rewriting.specs.LinkedQuery.{with_link_one, encode_links}

-- the query with three links that is written for query bytes in the old layout, and its bytes
abbrev pub linked_of : List ℕ → Query
linked_of bytes = with_link_one (decode bytes)

abbrev pub linked_bytes : List ℕ → List ℕ
linked_bytes bytes = encode_links (decode bytes)

-- checks 2 to 8 and 26 of the old layout, then 27 where the lent bytes are too few: three links pass no other limit
abbrev pub rewriting_links : Writing
rewriting_links =
    record { form = sections; has_room = λ room bytes. leb (length (linked_bytes bytes)) room; made = linked_bytes }

abbrev pub links_rewrite_call : List ℕ → ℕ → Outcome
links_rewrite_call = writing_call rewriting_links

-- What rewritequery prints, byte for byte, as a function of the bytes that it is given (02, R-13): an old query.
use Rattle.std.specs.Prelude.{ℕ, List, take}
use Rattle.encoding.specs.WritingCall.{Answer, written, refused, Outcome}
use Rattle.wording.specs.Words.{refusal_text}
use Rattle.rewriting.specs.Call.{rewrite_call}
use Rattle.hex_lines.specs.HexLines.{hex_line}

-- the bytes of the query written, as two hex digits each, separated by blanks, or a refusal
unfoldable pub answer_text : Answer → List ℕ → List ℕ
answer_text (written length) lent = hex_line (take length lent)
answer_text (refused k place) lent = refusal_text k place

unfoldable pub outcome_text : Outcome → List ℕ
outcome_text o = answer_text o.answer o.lent

-- a query has at most 561 bytes
unfoldable pub text_of : List ℕ → List ℕ
text_of query = outcome_text (rewrite_call query 561)

-- at most the first 1,024 bytes of standard input, as heapverdict reads them
unfoldable pub rewritequery_text : List ℕ → List ℕ
rewritequery_text bytes = text_of (take 1024 bytes)

-- What checkderivation prints, and checklinks of queries with three links (02, R-11), byte for byte, as a function of the bytes that it is
-- given (02, R-8): the query's length in two bytes, high first, the query, and behind it what heapverdict or linksverdict printed, or a
-- derivation's bytes.
use Rattle.std.specs.Prelude.{ℕ, ◌+◌, ◌/◌, ◌%◌, false, cond, List, [], ◌∷◌, ◌++◌, length, take, drop, ltb}
use Rattle.std.proofs.Math.Option.{Option-elim}
use Rattle.logic.specs.Calls.{CallForm, one_link_form}
use Rattle.logic.specs.ThreeLinks.{three_link_form}
use Rattle.text.specs.Text.{ascii, decimal}
use Rattle.wording.specs.Words.{refused_text}
use Rattle.decimal_lines.specs.DecimalLines.{begins, numbers_from, newlines}
use Rattle.checking.specs.CheckCall.{Checked, accepted, wrong, refused, count_in, check_call_of}

-- The bytes of the derivation whose lines a text shows. A text of more than 16,000 lines, or longer than these can be (16 bytes each), and
-- one that is no text of lines, has none, so that the call refuses it by 20.
unfoldable pub text_bytes : List ℕ → List ℕ
text_bytes text =
    let count : ℕ = newlines text in
    let shown : List ℕ = Option-elim (numbers_from 0 0 false text) [] (λ ns. count / 256 ∷ count % 256 ∷ ns) in
    cond (ltb 256000 (length text)) [] (cond (ltb 16000 count) [] shown)

-- Behind the query: what heapverdict printed, which begins with `unsat`, or the bytes of a derivation. No derivation that passes its checks
-- begins so: its count would be above 16,000.
unfoldable pub derivation_in : List ℕ → List ℕ
derivation_in bytes = cond (begins (ascii "unsat\n") bytes) (text_bytes (drop 6 bytes)) bytes

-- "accepted", "the first wrong line's number", or a refusal as heapverdict prints it
unfoldable pub checked_text : Checked → List ℕ
checked_text accepted = ascii "accepted\n"
checked_text (wrong k) = ascii "wrong line " ++ (decimal k ++ ascii "\n")
checked_text (refused k place) = refused_text k place ++ ascii "\n"

-- the whole: a length of the query that is cut short counts as far as it goes, and so does a query
unfoldable pub check_text_of : CallForm → List ℕ → List ℕ
check_text_of f bytes =
    let size : ℕ = count_in bytes in checked_text (check_call_of f (take size (drop 2 bytes)) (derivation_in (drop (2 + size) bytes)))

abbrev pub checkderivation_text : List ℕ → List ℕ
checkderivation_text = check_text_of one_link_form

abbrev pub checklinks_text : List ℕ → List ℕ
checklinks_text = check_text_of three_link_form

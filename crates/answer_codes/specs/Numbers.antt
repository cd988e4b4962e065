-- The number that C is answered for each answer of each call (include/lemitsaka.h), by its digits, and the answer that they give back.
use Rattle.std.specs.Prelude.{cond, eqb}
use Rattle.logic.specs.Search.{◌or◌}
use Rattle.logic.specs.Calls as calls
use Rattle.drawing.specs.Call as drawing
use Rattle.ordering.specs.Calls as ordering
use Rattle.formula.specs.Call as formula
use Rattle.checking.specs.CheckCall as checking
use Rattle.encoding.specs.WritingCall as writing
use Rattle.joining.specs.Call as joining
use Rattle.joining.specs.HandBack as hand
use Rattle.codes.specs.Codes.{Digits, own, refusal, with_high, read_back}

-- The verdict call, the derivation call and the between call: 0 satisfiable, or a heap; 1 refuted, or none
abbrev pub verdict_digits : calls.Answer → Digits
verdict_digits calls.satisfiable = own 0
verdict_digits calls.refuted = own 1
verdict_digits (calls.refused k place) = refusal k place

unfoldable pub verdict_read : Digits → calls.Answer
verdict_read d = read_back (λ n. cond (eqb n 0) calls.satisfiable calls.refuted) calls.refused d

-- The precedence call: 0 an order, 1 none and its ring
abbrev pub order_digits : ordering.Answer → Digits
order_digits ordering.order = own 0
order_digits ordering.ring = own 1
order_digits (ordering.refused k place) = refusal k place

unfoldable pub order_read : Digits → ordering.Answer
order_read d = read_back (λ n. cond (eqb n 0) ordering.order ordering.ring) ordering.refused d

-- The formula call: 0 refuted, else the conjunction's number
abbrev pub formula_digits : formula.Answer → Digits
formula_digits formula.refuted = own 0
formula_digits (formula.conjunction n) = own n
formula_digits (formula.refused k place) = refusal k place

unfoldable pub formula_read : Digits → formula.Answer
formula_read d = read_back (λ n. cond (eqb n 0) formula.refuted (formula.conjunction n)) formula.refused d

-- The checking call: 0 accepted, else the first wrong line's number
abbrev pub check_digits : checking.Checked → Digits
check_digits checking.accepted = own 0
check_digits (checking.wrong line) = own line
check_digits (checking.refused k place) = refusal k place

unfoldable pub check_read : Digits → checking.Checked
check_read d = read_back (λ n. cond (eqb n 0) checking.accepted (checking.wrong n)) checking.refused d

-- The dot call: the text's length
abbrev pub dot_digits : drawing.Answer → Digits
dot_digits (drawing.written length) = own length
dot_digits (drawing.refused k place) = refusal k place

unfoldable pub dot_read : Digits → drawing.Answer
dot_read d = read_back drawing.written drawing.refused d

-- The two rewritings: the length of the query written
abbrev pub writing_digits : writing.Answer → Digits
writing_digits (writing.written length) = own length
writing_digits (writing.refused k place) = refusal k place

unfoldable pub writing_read : Digits → writing.Answer
writing_read d = read_back writing.written writing.refused d

-- The joining call: the length of the query written; 4,294,967,296 is added to a refusal that is about the second query
abbrev pub join_digits : joining.Answer → Digits
join_digits (joining.written length) = own length
join_digits (joining.first_refused k place) = refusal k place
join_digits (joining.second_refused k place) = with_high 1 k place
join_digits (joining.refused k place) = refusal k place

-- 23 and 24 are about neither query
unfoldable pub join_read : Digits → joining.Answer
join_read d =
    cond (eqb d.high 1) (joining.second_refused d.middle d.low)
    (read_back joining.written (λ k place. cond (eqb k 23 or eqb k 24) (joining.refused k place) (joining.first_refused k place)) d)

-- The hand-back: 65,536 times the offset plus the length, and 4,294,967,296 more in the second query; a refusal is 1,099,511,627,776 plus its
-- number times 65,536 plus its place, and 4,294,967,296 more where it is about the second query
abbrev pub hand_digits : hand.Handed → Digits
hand_digits (hand.in_first at size) = with_high 0 at size
hand_digits (hand.in_second at size) = with_high 1 at size
hand_digits (hand.first_refused k place) = with_high 256 k place
hand_digits (hand.second_refused k place) = with_high 257 k place
hand_digits (hand.refused k place) = with_high 256 k place

-- 25 is about neither query
unfoldable pub hand_read : Digits → hand.Handed
hand_read d =
    cond (eqb d.high 0) (hand.in_first d.middle d.low)
    (cond (eqb d.high 1) (hand.in_second d.middle d.low)
    (cond (eqb d.high 257) (hand.second_refused d.middle d.low)
    (cond (eqb d.middle 25) (hand.refused d.middle d.low) (hand.first_refused d.middle d.low))))

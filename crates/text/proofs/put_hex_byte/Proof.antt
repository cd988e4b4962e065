-- The high digit, and then the low one. Assumes nothing.
use borrow.Author.Rules.{rules}
use Rattle.text.proofs.Writing.{writes_then, writes_as}
use Rattle.text.proofs.Digits.{hex_pair}
use Rattle.text.proofs.put_hex_byte.Statement.{statement}
use Rattle.text.proofs.put_hex_byte.Tie as tie

-- The places that lie behind a place.

abbrev put_byte2_of_slice_known3 : tie.After-slice_known-3-1 → tie.After-put_byte
put_byte2_of_slice_known3 c = c.before.before

pub put_hex_byte_spec : {M : Type 1} → statement M
put_hex_byte_spec =
    tie.close
    (tie.spec
    -- hex-digit-requires
    (λ c κs. search rules)
    -- put-byte-requires
    (λ c κs. search rules)
    -- hex-digit-requires-2
    (λ c κs. search rules)
    -- put-byte-requires-2
    (λ c κs. search rules)
    -- same-length
    (λ c. search rules)
    -- returns
    (λ c.
    let after_put_byte2 = put_byte2_of_slice_known3 c in let after_hex_digit2 = after_put_byte2 in
    let after_put_byte = after_hex_digit2 in
    writes_as (hex_pair _ after_put_byte.hex_digit.ensures after_hex_digit2.hex_digit-2.ensures)
    (writes_then after_put_byte.put_byte-to.ensures after_put_byte2.put_byte.ensures)))

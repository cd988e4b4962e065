-- A term's argument, as the code reads it from the entries of section 1.
use Rattle.std.specs.Prelude.{ℕ, cond, eqb}

-- a term's argument by its byte: "Term byte 255 now names nil" (02, R-3), which is f of no term
unfoldable pub argument_by : ℕ → ℕ
argument_by byte = cond (eqb byte 255) 0 byte

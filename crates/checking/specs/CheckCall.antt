-- What the call answers on every input (02, R-8). It is lent nothing to write into.
use Rattle.std.specs.Prelude.{ℕ, zero, suc, ◌+◌, ◌*◌, Bool, not, cond, List, [], length, get_or, eqb, ltb}
use Rattle.std.proofs.Math.Option.{Option, Option-elim}
use Rattle.logic.specs.Search.{◌or◌}
use Rattle.logic.specs.Derivation.{lines_in}
use Rattle.logic.specs.Calls.{Answer, CallForm, one_link_form, refusal_of}
use Rattle.logic.specs.Calls as calls
use Rattle.checking.specs.Fitting.{wrong_line}

-- no fault, the first wrong line's number, or a refusal's number and place
pub data Checked : Type 0 where
  accepted : Checked
  wrong : ℕ → Checked
  refused : ℕ → ℕ → Checked

-- "Line count in two bytes, high byte first"
unfoldable pub count_in : List ℕ → ℕ
count_in bytes = 256 * get_or bytes 0 0 + get_or bytes 1 0

-- "20 length not 2 plus 4 times the count, or count above 16,000"
unfoldable pub misshapen : List ℕ → Bool
misshapen bytes = not (eqb (length bytes) (2 + 4 * count_in bytes)) or ltb 16000 (count_in bytes)

-- an answer by the number of the first wrong line, 0 being none
unfoldable pub by_wrong : ℕ → Checked
by_wrong zero = accepted
by_wrong (suc k) = wrong (suc k)

-- a refusal of the query, as this call's
unfoldable pub refused_query : Answer → Checked
refused_query (calls.refused k place) = refused k place
refused_query calls.satisfiable = accepted
refused_query calls.refuted = accepted

-- "Checks: 2 to 8", with 26 among them (02, R-13), and with three links 22 (02, R-11): "room plays no part", and there is no order list
unfoldable pub query_refusal : CallForm → List ℕ → Option Answer
query_refusal f query = refusal_of f.checks (record { order = []; query = query; room = 0 })

-- "Checks: 2 to 8, then 20", of a query in any form that calls take
unfoldable pub check_call_of : CallForm → List ℕ → List ℕ → Checked
check_call_of f query derivation =
    let judged : Checked = by_wrong (wrong_line (f.decode query) (lines_in derivation)) in
    let own : Checked = cond (misshapen derivation) (refused 20 0) judged in
    Option-elim (query_refusal f query) own refused_query

-- the call of R-8, for the form of 01
abbrev pub check_call : List ℕ → List ℕ → Checked
check_call = check_call_of one_link_form

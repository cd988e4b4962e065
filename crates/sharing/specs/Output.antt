-- What ruleshares prints, as a function of all bytes of its input (02, R-14): "Standard input is an order list, then queries, each after its
-- length in two bytes, high first".
use Rattle.std.specs.Prelude.{ℕ, zero, suc, ◌+◌, ◌*◌, ◌/◌, ◌%◌, Bool, true, false, cond, List, [], ◌∷◌, ◌++◌, length, get_or, take, drop, ltb}
use Rattle.logic.specs.Search.{◌or◌}
use Rattle.logic.specs.Facts.{Line}
use Rattle.logic.specs.Derivation.{lines_in}
use Rattle.logic.specs.Calls.{Answer, Outcome, refused, satisfiable, refuted, verdict_call, derivation_call}
use Rattle.text.specs.Text.{ascii, decimal, hex_byte}
use Rattle.printing.specs.HeapverdictText.{answer_text}
use Rattle.fnv.specs.Mark.{mark_of}
use Rattle.tally.specs.Counting.{tallied, no_lines}
use Rattle.fractions.specs.Fractions.{shares_text}

-- "as eight lower-case hex digits"
unfoldable pub hex_word : ℕ → List ℕ
hex_word k = hex_byte (k / 16777216 % 256) ++ (hex_byte (k / 65536 % 256) ++ (hex_byte (k / 256 % 256) ++ hex_byte (k % 256)))

-- the lines of a derivation, none unless one was written
unfoldable pub lines_of : Answer → List ℕ → List Line
lines_of refuted bytes = lines_in bytes
lines_of (refused k place) bytes = []
lines_of satisfiable bytes = []

-- the answer and the derivation that heapverdict has of an order list and a query (01): a report of 53 bytes, and a buffer of 64,002
unfoldable pub answer_of : List ℕ → List ℕ → Answer
answer_of order query = (verdict_call (record { order = order; query = query; room = 53 })).answer

unfoldable pub written_lines : List ℕ → List ℕ → List Line
written_lines order query =
    let d : Outcome = derivation_call (record { order = order; query = query; room = 64002 }) in lines_of d.answer d.lent

-- "per query on one line with blanks between, its FNV-1a 32-bit mark .., heapverdict's first line, and the line count, 0 unless a
-- derivation was written"
unfoldable pub query_line : List ℕ → List ℕ → List ℕ
query_line order query =
    hex_word (mark_of query)
    ++ (ascii " " ++ (answer_text (answer_of order query) ++ (ascii " " ++ (decimal (length (written_lines order query)) ++ ascii "\n"))))

-- "a length above 681 or cut short ends them": a length in the bytes that were read for it
unfoldable pub length_in : List ℕ → ℕ
length_in head = 256 * get_or head 0 0 + get_or head 1 0

unfoldable pub is_bad : List ℕ → Bool
is_bad head = ltb (length head) 2 or ltb 681 (length_in head)

-- how many bytes are read behind it
unfoldable pub wanted : List ℕ → ℕ
wanted head = cond (is_bad head) 0 (length_in head)

-- One turn: the bytes read for a length, and those read behind it. What it prints, the tally after it, and whether a query may follow.
pub record Turn : Type 0 where
  pub text : List ℕ
  pub counts : List ℕ
  pub goes : Bool

unfoldable pub turn_of : List ℕ → List ℕ → List ℕ → List ℕ → Turn
turn_of order counts [] query = record { text = []; counts = counts; goes = false }
turn_of order counts (b ∷ head) query =
    let next : Turn = record { text = query_line order query; counts = tallied counts (written_lines order query); goes = true } in
    cond (is_bad (b ∷ head)) (record { text = ascii "bad length\n"; counts = counts; goes = false }) next

-- The turn that stands first in a row of bytes, and how many of them it takes.
unfoldable pub first_turn : List ℕ → List ℕ → List ℕ → Turn
first_turn order counts bytes = turn_of order counts (take 2 bytes) (take (wanted (take 2 bytes)) (drop 2 bytes))

unfoldable pub first_length : List ℕ → ℕ
first_length bytes = 2 + wanted (take 2 bytes)

-- All turns, and then the shares. "a cut query is taken as far as it goes". Each turn is a step, and takes two bytes or ends.
unfoldable pub output_within : ℕ → List ℕ → List ℕ → List ℕ → List ℕ
output_within zero order counts bytes = shares_text counts
output_within (suc steps) order counts bytes =
    let t : Turn = first_turn order counts bytes in
    let rest : List ℕ = output_within steps order t.counts (drop (first_length bytes) bytes) in
    t.text ++ cond t.goes rest (shares_text t.counts)

-- What is printed where the tally stands so: of the order list, and of the queries behind it.
unfoldable pub output_from : List ℕ → List ℕ → List ℕ
output_from counts bytes = output_within (suc (length bytes)) (take 8 bytes) counts (drop 8 bytes)

unfoldable pub output : List ℕ → List ℕ
output bytes = output_from no_lines bytes

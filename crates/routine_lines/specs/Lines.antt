-- What the program routinechecks prints of a text, byte for byte (03, "Answers"): the checks of each routine, all of them undecided, or the fault.
use Rattle.std.specs.Prelude.{ℕ, ◌-◌, List, [], ◌++◌, length, get_or}
use Rattle.logic.specs.Search.{flat_map}
use Rattle.text.specs.Text.{ascii, decimal}
use Rattle.routine_logic.specs.Syntax.{Base, null, variable, bound, Term}
use Rattle.routine_logic.specs.Runs.{Kind, null_of, asserted, covered, entry, kept, ensured}
use Rattle.routine_logic.specs.Checks.{Listed, checks}
use Rattle.routine_text.specs.Builder.{Word, no_word, Fault, text_fault, name_fault, forall_fault, limit_fault, Named}
use Rattle.routine_text.specs.Reading.{Reading, read, faulty}

-- the name of that number
unfoldable pub name_of : List Word → ℕ → List ℕ
name_of names i = (get_or names i no_word).bytes

-- a term as it is written, with the names of links and variables; no name of a `forall` is dereferenced in an assignment or a condition
unfoldable pub base_text : List Word → Base → List ℕ
base_text variables null = ascii "NULL"
base_text variables (variable x) = name_of variables x
base_text variables (bound i) = []

unfoldable pub term_text : List Word → List Word → Term → List ℕ
term_text links variables t = base_text variables t.base ++ flat_map (λ i. ascii "->" ++ name_of links (i - 1)) t.links

-- "`ensures` ..; `null T` ..; `assert`; .. `invariant entry` .. and `invariant kept` ..; `cover`"
unfoldable pub kind_text : List Word → List Word → Kind → List ℕ
kind_text links variables (null_of t) = ascii "null " ++ term_text links variables t
kind_text links variables asserted = ascii "assert"
kind_text links variables covered = ascii "cover"
kind_text links variables (entry i) = ascii "invariant entry"
kind_text links variables (kept i) = ascii "invariant kept"
kind_text links variables (ensured i) = ascii "ensures"

-- "An undecided check reads `12 assert: undecided terms`."
unfoldable pub check_text : List Word → List Word → Listed → List ℕ
check_text links variables c = decimal c.line ++ (ascii " " ++ (kind_text links variables c.check.kind ++ ascii ": undecided steps\n"))

-- "The last line of a routine"
unfoldable pub count_text : ℕ → List ℕ
count_text n = decimal n ++ (ascii " checks: 0 hold, 0 can fail, " ++ (decimal n ++ ascii " undecided\n"))

unfoldable pub routine_text : List Word → Named → List ℕ
routine_text links r =
    ascii "routine " ++ (r.name.bytes ++ (ascii "\n" ++ (flat_map (check_text links r.variables) (checks r.routine) ++ count_text (length (checks r.routine)))))

-- "WORD is `text` ..; `name` ..; `forall` ..; `limit` .."
unfoldable pub fault_word : Fault → List ℕ
fault_word text_fault = ascii "text"
fault_word name_fault = ascii "name"
fault_word forall_fault = ascii "forall"
fault_word limit_fault = ascii "limit"

-- "one line, `fault L:C WORD`"
unfoldable pub place_text : ℕ → ℕ → List ℕ
place_text line column = decimal line ++ (ascii ":" ++ decimal column)

unfoldable pub fault_text : ℕ → ℕ → Fault → List ℕ
fault_text line column f = ascii "fault " ++ (place_text line column ++ (ascii " " ++ (fault_word f ++ ascii "\n")))

-- "Nothing stands between routines."
unfoldable pub checks_text : Reading → List ℕ
checks_text (read c) = flat_map (routine_text c.links) c.routines
checks_text (faulty line column f) = fault_text line column f

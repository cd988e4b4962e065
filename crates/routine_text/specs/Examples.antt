-- Examples that the definitions are held to: those of 03, a case at and past each limit, each fault, and which of two is given.
use Rattle.std.specs.Prelude.{ℕ, ◌-◌, ◌≡◌, true, false, List, [], ◌∷◌, ◌++◌, map, replicate}
use Prim.Native.String.{String}
use Rattle.text.specs.Text.{ascii}
use Rattle.logic.specs.Search.{flat_map}
use Rattle.routine_logic.specs.Syntax.{bound, Term, Formula, equal, unequal, reaches, between, flag, forall, negation, both, either, implies, same, always, never, Place, Clause, Code, end, assign, assign_link, assign_flag, havoc, assume, assert, cover, branch, loop, leave, break_out, Routine}
use Rattle.routine_logic.specs.Examples.{remove, palletiser, NULL, name, each, via, place, clause}
use Rattle.routine_text.specs.Builder.{Fault, text_fault, name_fault, forall_fault, limit_fault, Word, Mark, Named, Builder, with_counts, begin_statement, count_part}
use Rattle.routine_text.specs.Reading.{empty, length_marks, Reading, read, faulty, read_text}

-- the routines that are read
unfoldable pub routines_of : Reading → List Routine
routines_of (read c) = map (λ (n : Named). n.routine) c.routines
routines_of (faulty line column fault) = []

unfoldable pub routines_in : String → List Routine
routines_in s = routines_of (read_text (ascii s))

-- what is said of a routine with this body (line 2), of parameter `p` and flag `d`
unfoldable pub within : List ℕ → Reading
within body = read_text (ascii "flags d; routine f(p) {\n" ++ (body ++ ascii "\n}"))

-- a word so many times, with something in front and behind
unfoldable pub times : ℕ → String → String → String → List ℕ
times k front s behind = ascii front ++ (flat_map (λ x. x) (replicate k (ascii s)) ++ ascii behind)

-- the first fault, or the number of routines
pub data Answer : Type 0 where
  good : Answer
  fault : ℕ → ℕ → Fault → Answer

unfoldable pub answer : Reading → Answer
answer (read c) = good
answer (faulty line column f) = fault line column f

unfoldable pub in_body : String → Answer
in_body s = answer (within (ascii s))

unfoldable pub of_text : String → Answer
of_text s = answer (read_text (ascii s))

-- the statements numbered from 0 on, as in the examples of what routines mean
unfoldable pub earlier_place : Place → Place
earlier_place p = place (p.number - 1) p.line

unfoldable pub renumbered : Code → Code
renumbered end = end
renumbered (assign p x t rest) = assign (earlier_place p) x t (renumbered rest)
renumbered (assign_link p t i u rest) = assign_link (earlier_place p) t i u (renumbered rest)
renumbered (assign_flag p t j b rest) = assign_flag (earlier_place p) t j b (renumbered rest)
renumbered (havoc p x rest) = havoc (earlier_place p) x (renumbered rest)
renumbered (assume p f rest) = assume (earlier_place p) f (renumbered rest)
renumbered (assert p f rest) = assert (earlier_place p) f (renumbered rest)
renumbered (cover p f rest) = cover (earlier_place p) f (renumbered rest)
renumbered (branch p f first second rest) = branch (earlier_place p) f (renumbered first) (renumbered second) (renumbered rest)
renumbered (loop p f invariants body rest) = loop (earlier_place p) f invariants (renumbered body) (renumbered rest)
renumbered (leave p rest) = leave (earlier_place p) (renumbered rest)
renumbered (break_out p rest) = break_out (earlier_place p) (renumbered rest)

unfoldable pub from_zero : List Routine → List Routine
from_zero rs = map (λ (r : Routine). record { line = r.line; requires = r.requires; ensures = r.ensures; body = renumbered r.body }) rs

-- the formula of a routine's `requires`
unfoldable pub required_of : Routine → List Formula
required_of r = map (λ (c : Clause). c.formula) r.requires

unfoldable pub assumed : String → List Formula
assumed s = flat_map required_of (routines_of (read_text (ascii "routine f() requires " ++ (ascii s ++ ascii " { }"))))

-- the faults that an action marks where so many statements and parts were counted before
unfoldable pub counted : (Builder → Builder) → ℕ → ℕ → List Mark
counted action statements parts = (action (with_counts (record { statements = statements; parts = parts; nesting = 0 }) empty)).marks

abbrev pub limit_at : ℕ → List Mark
limit_at place = record { place = place; fault = limit_fault } ∷ []

-- the examples of 03: lines, each with its line feed; the second one without the comment in front
unfoldable pub lines_of : List String → List ℕ
lines_of ls = flat_map (λ (s : String). ascii s ++ (10 ∷ [])) ls

unfoldable pub remove_lines : List String
remove_lines =
    "links next;"
    ∷ "flags old;"
    ∷ ""
    ∷ "// q, the node behind p, is taken out of the list."
    ∷ "routine remove(head, p, q)"
    ∷ "  requires head reaches NULL && head reaches p && p != NULL"
    ∷ "  requires forall v: v->old <=> (v != NULL && head reaches v)"
    ∷ "  ensures head reaches NULL"
    ∷ "  ensures q == NULL || !(head reaches q)"
    ∷ "  ensures forall v: v->old => (head reaches v || v == q)"
    ∷ "{"
    ∷ "  var r;"
    ∷ "  q = p->next;"
    ∷ "  if (q == NULL) { return; }"
    ∷ "  r = q->next;"
    ∷ "  p->next = r;"
    ∷ "}" ∷ []

unfoldable pub palletiser_lines : List String
palletiser_lines =
    "routine palletiser(a, b) {"
    ∷ "  assume a->next == b->next && a != b && a reaches b;"
    ∷ "  cover true;"
    ∷ "  assume b reaches a;"
    ∷ "  cover true;"
    ∷ "}" ∷ []

pub record PaperHolds : Type 0 where
  pub first_example : from_zero (routines_of (read_text (lines_of remove_lines))) ≡ remove end ∷ []
  pub second_example : from_zero (routines_of (read_text (lines_of palletiser_lines))) ≡ palletiser ∷ []

-- A text with every kind of statement, clause and atom; the parameter `p` is hidden by a `forall`.
unfoldable pub walk_lines : List String
walk_lines =
    "links next, prev; flags mark, old;"
    ∷ "routine f() { }"
    ∷ "routine walk(p, q)"
    ∷ "  requires forall u, v: p reaches u by prev => between(u, v, NULL) by prev && v->old"
    ∷ "  ensures p == NULL"
    ∷ "{"
    ∷ "  var r;"
    ∷ "  while (p != q->next)"
    ∷ "    invariant r->mark"
    ∷ "  { if (p->mark) { break; } p->next->prev = NULL; }"
    ∷ "  p->mark = 1; r->old = 0; havoc q; assert p reaches r; cover forall p: p == r; return;"
    ∷ "}" ∷ []

abbrev pub outer : Term
outer = record { base = bound 1; links = [] }

unfoldable pub walked : Routine
walked =
    record {
      line = 3;
      requires = clause 4 (forall (forall (implies (reaches 2 (name 0) outer) (both (between 2 outer each NULL) (flag 2 each))))) ∷ [];
      ensures = clause 5 (equal (name 0) NULL) ∷ [];
      body =
          loop (place 1 8) (unequal (name 0) (via (name 1) 1)) (clause 9 (flag 1 (name 2)) ∷ [])
          (branch (place 2 10) (flag 1 (name 0)) (break_out (place 3 10) end) end (assign_link (place 4 10) (via (name 0) 1) 2 NULL end))
          (assign_flag (place 5 11) (name 0) 1 true
          (assign_flag (place 6 11) (name 2) 2 false
          (havoc (place 7 11) 1
          (assert (place 8 11) (reaches 1 (name 0) (name 2))
          (cover (place 9 11) (forall (equal each (name 2))) (leave (place 10 11) end))))));
    }

-- the names of links, of flags, and of each routine and its variables
unfoldable pub spelled : List Word → List (List ℕ)
spelled ws = map (λ (w : Word). w.bytes) ws

unfoldable pub names_in : Reading → List (List (List ℕ))
names_in (read c) = spelled c.links ∷ spelled c.flags ∷ map (λ (n : Named). spelled (n.name ∷ n.variables)) c.routines
names_in (faulty line column f) = []

pub record WholeHolds : Type 0 where
  pub every_kind :
      routines_of (read_text (lines_of walk_lines)) ≡ record { line = 2; requires = []; ensures = []; body = end } ∷ walked ∷ []
  pub names_told :
      names_in (read_text (ascii "flags d; routine f(p) { var q, r; }"))
      ≡ (ascii "next" ∷ []) ∷ (ascii "d" ∷ []) ∷ (ascii "f" ∷ ascii "p" ∷ ascii "q" ∷ ascii "r" ∷ []) ∷ []

-- Which items belong together.
pub record JoiningHolds : Type 0 where
  pub tighter_first : assumed "true && false || true => false <=> true" ≡ same (implies (either (both always never) always) never) always ∷ []
  pub and_left : assumed "true && false && true" ≡ both (both always never) always ∷ []
  pub implies_right : assumed "true => false => true" ≡ implies always (implies never always) ∷ []
  pub negated_item : assumed "!true && !(false || true)" ≡ both (negation always) (negation (either never always)) ∷ []
  -- "A `forall` reaches as far to the right as it can."
  pub forall_far : assumed "true && !forall v: false || true <=> true" ≡ both always (negation (forall (same (either never always) always))) ∷ []

-- "an `else if` is no deeper than its `if`", and belongs to it
pub record BranchHolds : Type 0 where
  pub else_if :
      routines_in "routine f() { if (true) { } else if (false) { } else { } }"
      ≡ record { line = 1; requires = []; ensures = []; body = branch (place 1 1) always end (branch (place 2 1) never end end end) end } ∷ []

-- Each fault, at its place.
pub record FaultsHold : Type 0 where
  pub text_end : of_text "links next;\n" ≡ fault 2 1 text_fault
  pub text_word : in_body "p = 0;" ≡ fault 2 5 text_fault
  pub text_byte : in_body "p = p; // é" ≡ fault 2 11 text_fault
  pub text_break : in_body "if (true) { break; }" ≡ fault 2 13 text_fault
  pub break_inside : in_body "while (true) { if (true) { break; } else if (p->d) { break; } }" ≡ good
  pub name_undeclared : in_body "p = q;" ≡ fault 2 5 name_fault
  pub name_twice : of_text "links next, next; routine f() { }" ≡ fault 1 13 name_fault
  pub name_kind : in_body "p->d = p;" ≡ fault 2 4 name_fault
  pub name_flag : in_body "assume p->next;" ≡ fault 2 11 name_fault
  pub name_local : of_text "routine f(p) ensures q == p { var q; }" ≡ fault 1 22 name_fault
  -- "without `links` there is one, `next`"
  pub name_next : of_text "flags next; routine f() { }" ≡ fault 1 7 name_fault
  pub other_link : of_text "flags next; links succ; routine f() { }" ≡ good
  pub forall_condition : in_body "if (forall v: true) { }" ≡ fault 2 5 forall_fault
  pub forall_negated : in_body "assume forall u: !(forall v: u == v);" ≡ fault 2 20 forall_fault
  pub forall_left : in_body "assume forall u: (forall v: u == v) => true;" ≡ fault 2 19 forall_fault
  pub forall_same : in_body "assume forall u: true <=> (forall v: u == v);" ≡ fault 2 28 forall_fault
  pub forall_even : in_body "assume forall u: !((forall v: u == v) => true);" ≡ good
  -- "The fault is the one at the smallest place": a later one too; the kind is asked of the finished item
  pub name_first : in_body "p = q; p = ;" ≡ fault 2 5 name_fault
  pub text_first : in_body "p = ; p = q;" ≡ fault 2 5 text_fault
  pub unfinished_item : in_body "assume p->next }" ≡ fault 2 16 text_fault
  -- "at one place .. `name` before `forall`, `forall` before `limit`"
  pub name_before_limit : of_text "links a, b, c, a; routine f() { }" ≡ fault 1 16 name_fault

-- Limits: at them, and past them.
pub record LimitsHold : Type 0 where
  pub links_3 : of_text "links a, b; links c; routine f() { }" ≡ good
  pub links_4 : of_text "links a, b; links c, d; routine f() { }" ≡ fault 1 22 limit_fault
  pub flags_8 : of_text "flags a, b, c, d, e, g, h, i; routine f() { }" ≡ good
  pub flags_9 : of_text "flags a, b, c, d, e, g, h, i, j; routine f() { }" ≡ fault 1 31 limit_fault
  pub names_3 : in_body "assume forall u, v, w: true;" ≡ good
  pub names_4 : in_body "assume forall u, v, w, x: true;" ≡ fault 2 24 limit_fault
  pub nesting_32 : answer (within (times 32 "assume " "!" "true;")) ≡ good
  pub nesting_33 : answer (within (times 33 "assume " "!" "true;")) ≡ fault 2 40 limit_fault
  pub blocks_32 : answer (within (times 32 "" "if(true){" "" ++ times 32 "" "}" "")) ≡ good
  pub blocks_33 : answer (within (times 33 "" "if(true){" "" ++ times 33 "" "}" "")) ≡ fault 2 297 limit_fault
  pub else_ifs : answer (within (times 40 "if(true){}" "else if(true){}" "")) ≡ good
  pub statements_256 : counted begin_statement 255 0 ≡ []
  pub statements_257 : counted begin_statement 256 0 ≡ limit_at 0
  pub parts_1024 : counted count_part 0 1023 ≡ []
  pub parts_1025 : counted count_part 0 1024 ≡ limit_at 0
  pub bytes_8192 : length_marks 8192 ≡ []
  pub bytes_8193 : length_marks 8193 ≡ limit_at 8192

pub record ExamplesHold : Type 0 where
  pub paper : PaperHolds
  pub whole : WholeHolds
  pub joining : JoiningHolds
  pub branches : BranchHolds
  pub faults : FaultsHold
  pub limits : LimitsHold

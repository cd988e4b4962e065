-- What is built while a text is read, and what each action of the grammar does to it (03, "The text", and its faults and limits in "Answers").
use Rattle.std.specs.Prelude.{ℕ, zero, suc, ◌+◌, ◌-◌, Bool, true, false, not, cond, List, [], ◌∷◌, ◌++◌, eqb, leb, length, take, drop}
use Rattle.logic.specs.Search.{◌and◌, ◌or◌, any, select}
use Rattle.text.specs.Text.{ascii}
use Rattle.routine_logic.specs.Syntax.{Base, null, variable, bound, Term, Formula, always, never, equal, unequal, reaches, between, flag, negation, both, either, implies, same, forall, Place, Clause, Code, end, assign, assign_link, assign_flag, havoc, assume, assert, cover, branch, loop, leave, break_out, Routine}
use Rattle.routine_tokens.specs.declared.Token.{Token}
use Rattle.routine_tokens.specs.Tokens.{line_of}

-- a word or sign of the text: the place of its first byte, the line of that place, and its bytes
pub record Word : Type 0 where
  pub place : ℕ
  pub line : ℕ
  pub bytes : List ℕ

unfoldable pub word_in : List ℕ → Token → Word
word_in text t = record { place = t.start; line = line_of text t.start; bytes = take (t.end - t.start) (drop t.start text) }

abbrev pub no_word : Word
no_word = record { place = 0; line = 1; bytes = [] }

-- "WORD is `text` ..; `name` ..; `forall` ..; `limit` .."
pub data Fault : Type 0 where
  text_fault name_fault forall_fault limit_fault : Fault

-- a fault at a place
pub record Mark : Type 0 where
  pub place : ℕ
  pub fault : Fault

-- What is open in a formula: a `!`; a sign with the formula on its left; a parenthesis; a `forall` of so many names.
pub data Open : Type 0 where
  negating : Open
  conjoining disjoining implying equating : Formula → Open
  parenthesis : Open
  quantifying : ℕ → Open

-- a statement, and what stands behind it in its block
abbrev pub Statement : Type 0
Statement = Code → Code

-- the block that is being read, in an `if`, behind its `else`, or in a loop
pub data Head : Type 0 where
  then_of : Place → Formula → Head
  else_of : Place → Formula → Code → Head
  loop_of : Place → Formula → List Clause → Head

-- a block that is interrupted by an inner one: its statements so far, the last one first
pub record Level : Type 0 where
  pub before : List Statement
  pub head : Head

-- a routine with its name and its variables, the parameters first
pub record Named : Type 0 where
  pub name : Word
  pub variables : List Word
  pub routine : Routine

-- the names that are declared, in order: of bound names those of the innermost `forall` first, of one `forall` the last one first; the fresh ones
-- are those of the `forall` whose names are being read
pub record Names : Type 0 where
  pub links : List Word
  pub flags : List Word
  pub routines : List Word
  pub variables : List Word
  pub bound : List Word
  pub fresh : List Word

pub record Counts : Type 0 where
  pub statements : ℕ
  pub parts : ℕ
  pub nesting : ℕ

-- the terms that are read and not yet used, the last one first; the last name behind a `->`, of which it is not known yet whether it is to be a link or
-- a flag; the link or flag that is assigned; the link of `by`
pub record Terms : Type 0 where
  pub read : List Term
  pub member : Word
  pub assigned : ℕ
  pub by : ℕ

-- what is open, the innermost first; the last formula that is finished; for each name of a `forall`, in text order, the place of that `forall`; the
-- last `forall`; whether a condition is being read
pub record Formulas : Type 0 where
  pub opened : List Open
  pub finished : Formula
  pub foralls : List ℕ
  pub last_forall : ℕ
  pub conditional : Bool

-- the statement that is being read, its condition and invariants; the statements of the block, the last one first; the blocks around it
pub record Codes : Type 0 where
  pub here : Place
  pub test : Formula
  pub invariants : List Clause
  pub statements : List Statement
  pub levels : List Level

-- the routine that is being read: its line, the line of the last `requires`, `ensures` or `invariant`, its clauses; and those that are read
pub record Routines : Type 0 where
  pub line : ℕ
  pub clause_line : ℕ
  pub requires : List Clause
  pub ensures : List Clause
  pub done : List Named

-- All of it, with the last word that was accepted, and the faults found so far.
pub record Builder : Type 0 where
  pub word : Word
  pub names : Names
  pub counts : Counts
  pub terms : Terms
  pub formulas : Formulas
  pub codes : Codes
  pub routines : Routines
  pub marks : List Mark

-- the builder with another part
unfoldable pub with_names : Names → Builder → Builder
with_names x b =
    record { word = b.word; names = x; counts = b.counts; terms = b.terms; formulas = b.formulas; codes = b.codes; routines = b.routines; marks = b.marks }

unfoldable pub with_counts : Counts → Builder → Builder
with_counts x b =
    record { word = b.word; names = b.names; counts = x; terms = b.terms; formulas = b.formulas; codes = b.codes; routines = b.routines; marks = b.marks }

unfoldable pub with_terms : Terms → Builder → Builder
with_terms x b =
    record { word = b.word; names = b.names; counts = b.counts; terms = x; formulas = b.formulas; codes = b.codes; routines = b.routines; marks = b.marks }

unfoldable pub with_formulas : Formulas → Builder → Builder
with_formulas x b =
    record { word = b.word; names = b.names; counts = b.counts; terms = b.terms; formulas = x; codes = b.codes; routines = b.routines; marks = b.marks }

unfoldable pub with_codes : Codes → Builder → Builder
with_codes x b =
    record { word = b.word; names = b.names; counts = b.counts; terms = b.terms; formulas = b.formulas; codes = x; routines = b.routines; marks = b.marks }

unfoldable pub with_routines : Routines → Builder → Builder
with_routines x b =
    record { word = b.word; names = b.names; counts = b.counts; terms = b.terms; formulas = b.formulas; codes = b.codes; routines = x; marks = b.marks }

unfoldable pub with_marks : List Mark → Builder → Builder
with_marks x b =
    record { word = b.word; names = b.names; counts = b.counts; terms = b.terms; formulas = b.formulas; codes = b.codes; routines = b.routines; marks = x }

-- a word is accepted
unfoldable pub accept : Word → Builder → Builder
accept w b =
    record { word = w; names = b.names; counts = b.counts; terms = b.terms; formulas = b.formulas; codes = b.codes; routines = b.routines; marks = b.marks }

-- a fault, where there is one: at a place, or at the word that was accepted
unfoldable pub mark_at : Bool → ℕ → Fault → Builder → Builder
mark_at true p f b = with_marks (record { place = p; fault = f } ∷ b.marks) b
mark_at false p f b = b

unfoldable pub mark : Bool → Fault → Builder → Builder
mark faulty f b = mark_at faulty b.word.place f b

-- NAMES. One name is another if their bytes are the same.
unfoldable pub same_bytes : List ℕ → List ℕ → Bool
same_bytes [] [] = true
same_bytes [] (b ∷ bs) = false
same_bytes (a ∷ cs) [] = false
same_bytes (a ∷ cs) (b ∷ bs) = eqb a b and same_bytes cs bs

unfoldable pub declares : List Word → Word → Bool
declares names w = any (λ n. same_bytes n.bytes w.bytes) names

-- how many of the names stand before the first that is this one
unfoldable pub number_in : List Word → Word → ℕ
number_in [] w = 0
number_in (n ∷ ns) w = cond (same_bytes n.bytes w.bytes) 0 (suc (number_in ns w))

-- "links are numbered from 1 and flags from 1"
unfoldable pub link_number : Builder → Word → ℕ
link_number b w = suc (number_in b.names.links w)

unfoldable pub flag_number : Builder → Word → ℕ
flag_number b w = suc (number_in b.names.flags w)

unfoldable pub is_link : Builder → Word → Bool
is_link b w = declares b.names.links w

unfoldable pub is_flag : Builder → Word → Bool
is_flag b w = declares b.names.flags w

-- The last word is declared: a fault if it is among the names that it must differ from ("declared twice"), and "at the first name too many" of those
-- that there are.
unfoldable pub declaring : Bool → ℕ → List Word → Builder → Builder
declaring taken most names b = mark (leb most (length names)) limit_fault (mark taken name_fault b)

abbrev pub field_name : Builder → Bool
field_name b = is_link b b.word or is_flag b b.word

unfoldable pub set_links : List Word → Names → Names
set_links x n = record { links = x; flags = n.flags; routines = n.routines; variables = n.variables; bound = n.bound; fresh = n.fresh }

unfoldable pub set_flags : List Word → Names → Names
set_flags x n = record { links = n.links; flags = x; routines = n.routines; variables = n.variables; bound = n.bound; fresh = n.fresh }

unfoldable pub set_routine_names : List Word → Names → Names
set_routine_names x n = record { links = n.links; flags = n.flags; routines = x; variables = n.variables; bound = n.bound; fresh = n.fresh }

unfoldable pub set_variables : List Word → Names → Names
set_variables x n = record { links = n.links; flags = n.flags; routines = n.routines; variables = x; bound = n.bound; fresh = n.fresh }

unfoldable pub set_bound : List Word → Names → Names
set_bound x n = record { links = n.links; flags = n.flags; routines = n.routines; variables = n.variables; bound = x; fresh = n.fresh }

unfoldable pub set_fresh : List Word → Names → Names
set_fresh x n = record { links = n.links; flags = n.flags; routines = n.routines; variables = n.variables; bound = n.bound; fresh = x }

-- "`links` declares one to three links and `flags` up to eight flags, for all routines"; "A link, a flag and a variable of one routine have different
-- names, and so have two routines"
unfoldable pub declare_link : Builder → Builder
declare_link b = let n : Names = b.names in with_names (set_links (n.links ++ (b.word ∷ [])) n) (declaring (field_name b) 3 n.links b)

unfoldable pub declare_flag : Builder → Builder
declare_flag b = let n : Names = b.names in with_names (set_flags (n.flags ++ (b.word ∷ [])) n) (declaring (field_name b) 8 n.flags b)

unfoldable pub name_routine : Builder → Builder
name_routine b =
    let n : Names = b.names in
    with_names (set_routine_names (n.routines ++ (b.word ∷ [])) n) (mark (declares n.routines b.word) name_fault b)

-- "32 variables a routine"
unfoldable pub declare_variable : Builder → Builder
declare_variable b =
    let n : Names = b.names in
    with_names (set_variables (n.variables ++ (b.word ∷ [])) n) (declaring (field_name b or declares n.variables b.word) 32 n.variables b)

-- "the names of a `forall` may be those of variables or of an outer `forall`, which they hide, and not those of links or flags"; "3 names a `forall`"
unfoldable pub fresh_name : Builder → Builder
fresh_name b =
    let n : Names = b.names in
    with_names (set_fresh (b.word ∷ n.fresh) n) (declaring (field_name b or declares n.fresh b.word) 3 n.fresh b)

-- "without `links` there is one, `next`": a flag of that name is declared twice
abbrev pub next_name : Word
next_name = record { place = 0; line = 1; bytes = ascii "next" }

unfoldable pub mark_next : List Word → Builder → Builder
mark_next [] b = b
mark_next (f ∷ fs) b = mark_next fs (mark_at (same_bytes f.bytes next_name.bytes) f.place name_fault b)

unfoldable pub end_declarations_of : List Word → Builder → Builder
end_declarations_of [] b = with_names (set_links (next_name ∷ []) b.names) (mark_next b.names.flags b)
end_declarations_of (l ∷ ls) b = b

unfoldable pub end_declarations : Builder → Builder
end_declarations b = end_declarations_of b.names.links b

-- TERMS. A name is that of the innermost `forall` that has it, or of a variable; else it is not declared.
unfoldable pub base_of : Names → Word → Base
base_of n w =
    let of_variable : Base = cond (declares n.variables w) (variable (number_in n.variables w)) null in
    cond (declares n.bound w) (bound (number_in n.bound w)) of_variable

unfoldable pub set_terms : List Term → Terms → Terms
set_terms x t = record { read = x; member = t.member; assigned = t.assigned; by = t.by }

unfoldable pub push_term : Base → Builder → Builder
push_term base b = with_terms (set_terms (record { base = base; links = [] } ∷ b.terms.read) b.terms) b

unfoldable pub name_base : Builder → Builder
name_base b =
    let n : Names = b.names in
    push_term (base_of n b.word) (mark (not (declares n.bound b.word or declares n.variables b.word)) name_fault b)

unfoldable pub null_base : Builder → Builder
null_base b = push_term null b

unfoldable pub extended : ℕ → List Term → List Term
extended i [] = []
extended i (t ∷ ts) = record { base = t.base; links = t.links ++ (i ∷ []) } ∷ ts

unfoldable pub follow : ℕ → Builder → Builder
follow i b = with_terms (set_terms (extended i b.terms.read) b.terms) b

-- "{ "->" link }"
unfoldable pub follow_link : Builder → Builder
follow_link b = follow (link_number b b.word) (mark (not (is_link b b.word)) name_fault b)

-- "In the grammar `link`, `flag` and `name` are all names: of which kind one must be is asked of the finished item": that it is declared at once
unfoldable pub name_member : Builder → Builder
name_member b =
    with_terms (record { read = b.terms.read; member = b.word; assigned = b.terms.assigned; by = b.terms.by })
    (mark (not (field_name b)) name_fault b)

-- the last name behind a `->` is to be a link, or a flag: a fault, if it is of the other kind
unfoldable pub want_link : Builder → Builder
want_link b = mark_at (is_flag b b.terms.member) b.terms.member.place name_fault b

unfoldable pub want_flag : Builder → Builder
want_flag b = mark_at (is_link b b.terms.member) b.terms.member.place name_fault b

unfoldable pub take_link : Builder → Builder
take_link b = follow (link_number b b.terms.member) (want_link b)

unfoldable pub assigning : ℕ → Builder → Builder
assigning i b = with_terms (record { read = b.terms.read; member = b.terms.member; assigned = i; by = b.terms.by }) b

unfoldable pub write_link : Builder → Builder
write_link b = assigning (link_number b b.terms.member) (want_link b)

unfoldable pub write_flag : Builder → Builder
write_flag b = assigning (flag_number b b.terms.member) (want_flag b)

-- "`by` may be left out: then it is the first link."
unfoldable pub through : ℕ → Builder → Builder
through i b = with_terms (record { read = b.terms.read; member = b.terms.member; assigned = b.terms.assigned; by = i }) b

unfoldable pub by_link : Builder → Builder
by_link b = through (link_number b b.word) (mark (not (is_link b b.word)) name_fault b)

unfoldable pub by_first : Builder → Builder
by_first b = through 1 b

-- the last terms that are read: the last one, the one before it and the one before that
abbrev pub no_term : Term
no_term = record { base = null; links = [] }

unfoldable pub top_term : ℕ → List Term → Term
top_term k [] = no_term
top_term zero (t ∷ ts) = t
top_term (suc k) (t ∷ ts) = top_term k ts

abbrev pub term : ℕ → Builder → Term
term k b = top_term k b.terms.read

-- FORMULAS. "1,024 formula parts a text .. at the part's own first byte"
unfoldable pub count_part : Builder → Builder
count_part b =
    let c : Counts = b.counts in
    with_counts (record { statements = c.statements; parts = suc c.parts; nesting = c.nesting }) (mark (leb 1024 c.parts) limit_fault b)

unfoldable pub set_opened : List Open → Formulas → Formulas
set_opened x f = record { opened = x; finished = f.finished; foralls = f.foralls; last_forall = f.last_forall; conditional = f.conditional }

unfoldable pub set_finished : List Open → Formula → Formulas → Formulas
set_finished x g f = record { opened = x; finished = g; foralls = f.foralls; last_forall = f.last_forall; conditional = f.conditional }

-- a formula is finished; an atom, with the terms that it uses
unfoldable pub finish : Formula → Builder → Builder
finish f b = with_formulas (set_finished b.formulas.opened f b.formulas) b

unfoldable pub atom : ℕ → Formula → Builder → Builder
atom used f b = finish f (with_terms (set_terms (drop used b.terms.read) b.terms) b)

unfoldable pub add_true : Builder → Builder
add_true b = finish always (count_part b)

unfoldable pub add_false : Builder → Builder
add_false b = finish never (count_part b)

unfoldable pub add_equal : Builder → Builder
add_equal b = atom 2 (equal (term 1 b) (term 0 b)) b

unfoldable pub add_unequal : Builder → Builder
add_unequal b = atom 2 (unequal (term 1 b) (term 0 b)) b

unfoldable pub add_reaches : Builder → Builder
add_reaches b = atom 2 (reaches b.terms.by (term 1 b) (term 0 b)) b

unfoldable pub add_between : Builder → Builder
add_between b = atom 3 (between b.terms.by (term 2 b) (term 1 b) (term 0 b)) b

unfoldable pub read_flag : Builder → Builder
read_flag b = atom 1 (flag (flag_number b b.terms.member) (term 0 b)) (want_flag b)

-- How tight what is open binds: an item is joined by `!` first, then by `&&`, `||`, `=>` and `<=>`; what a parenthesis or a `forall` opened it ends.
unfoldable pub tightness : Open → ℕ
tightness negating = 5
tightness (conjoining f) = 4
tightness (disjoining f) = 3
tightness (implying f) = 2
tightness (equating f) = 1
tightness parenthesis = 0
tightness (quantifying k) = 0

unfoldable pub joined : Open → Formula → Formula
joined negating g = negation g
joined (conjoining f) g = both f g
joined (disjoining f) g = either f g
joined (implying f) g = implies f g
joined (equating f) g = same f g
joined parenthesis g = g
joined (quantifying k) g = g

-- what is open is joined to the finished formula, as long as it binds as tight as that or tighter
unfoldable pub join : ℕ → List Open → Formula → Formulas → Formulas
join least [] g f = set_finished [] g f
join least (o ∷ os) g f = cond (leb least (tightness o)) (join least os (joined o g) f) (set_finished (o ∷ os) g f)

unfoldable pub join_by : ℕ → Builder → Builder
join_by least b = with_formulas (join least b.formulas.opened b.formulas.finished b.formulas) b

unfoldable pub open_now : Open → Builder → Builder
open_now o b = with_formulas (set_opened (o ∷ b.formulas.opened) b.formulas) b

-- "and = item { "&&" item }", "or = and { "||" and }" and "formula = implies { "<=>" implies }" join from the left, "implies = or [ "=>" implies ]"
-- from the right
unfoldable pub join_and : Builder → Builder
join_and b = let c : Builder = join_by 4 (count_part b) in open_now (conjoining c.formulas.finished) c

unfoldable pub join_or : Builder → Builder
join_or b = let c : Builder = join_by 3 (count_part b) in open_now (disjoining c.formulas.finished) c

unfoldable pub join_implies : Builder → Builder
join_implies b = let c : Builder = join_by 3 (count_part b) in open_now (implying c.formulas.finished) c

unfoldable pub join_iff : Builder → Builder
join_iff b = let c : Builder = join_by 1 (count_part b) in open_now (equating c.formulas.finished) c

-- the end of a formula, as far as the parenthesis or the `forall` that opened it
unfoldable pub close_formula : Builder → Builder
close_formula b = join_by 1 b

-- "nesting 32, .. of `(`, `!` and `forall` in each other in a formula (at the 33rd ..)"
unfoldable pub deepens : Open → Bool
deepens negating = true
deepens (conjoining f) = false
deepens (disjoining f) = false
deepens (implying f) = false
deepens (equating f) = false
deepens parenthesis = true
deepens (quantifying k) = true

unfoldable pub deepen : Builder → Builder
deepen b = mark (leb 32 (length (select deepens b.formulas.opened))) limit_fault b

unfoldable pub negate : Builder → Builder
negate b = open_now negating (deepen (count_part b))

unfoldable pub open_parenthesis : Builder → Builder
open_parenthesis b = open_now parenthesis (deepen b)

unfoldable pub close_parenthesis : Builder → Builder
close_parenthesis b = with_formulas (set_opened (drop 1 b.formulas.opened) b.formulas) b

-- "Conditions of `if` and `while` have none."
unfoldable pub open_forall : Builder → Builder
open_forall b =
    let f : Formulas = b.formulas in
    let begun : Formulas = record { opened = f.opened; finished = f.finished; foralls = f.foralls; last_forall = b.word.place; conditional = f.conditional } in
    with_names (set_fresh [] b.names) (with_formulas begun (mark f.conditional forall_fault (deepen (count_part b))))

unfoldable pub declare_bound : Builder → Builder
declare_bound b =
    let f : Formulas = b.formulas in
    let counted : Formulas =
    record { opened = f.opened; finished = f.finished; foralls = f.foralls ++ (f.last_forall ∷ []); last_forall = f.last_forall; conditional = f.conditional } in
    with_formulas counted (fresh_name b)

unfoldable pub open_body : Builder → Builder
open_body b =
    let n : Names = b.names in
    open_now (quantifying (length n.fresh)) (with_names (set_bound (n.fresh ++ n.bound) n) b)

-- "A `forall` of several names is one for each of them."
unfoldable pub forall_of : ℕ → Formula → Formula
forall_of zero f = f
forall_of (suc k) f = forall (forall_of k f)

unfoldable pub close_forall_of : List Open → Builder → Builder
close_forall_of (quantifying k ∷ os) b =
    with_names (set_bound (drop k b.names.bound) b.names) (with_formulas (set_finished os (forall_of k b.formulas.finished) b.formulas) b)
close_forall_of (negating ∷ os) b = b
close_forall_of (conjoining f ∷ os) b = b
close_forall_of (disjoining f ∷ os) b = b
close_forall_of (implying f ∷ os) b = b
close_forall_of (equating f ∷ os) b = b
close_forall_of (parenthesis ∷ os) b = b
close_forall_of [] b = b

unfoldable pub close_forall : Builder → Builder
close_forall b = close_forall_of b.formulas.opened b

-- How a part of a formula stands in the body of a `forall`: in that of none, under an even or an odd number of negations, or below `<=>`.
pub data Standing : Type 0 where
  free even odd below : Standing

unfoldable pub negated : Standing → Standing
negated free = free
negated even = odd
negated odd = even
negated below = below

unfoldable pub equated : Standing → Standing
equated free = free
equated even = below
equated odd = below
equated below = below

unfoldable pub quantified : Standing → Standing
quantified free = even
quantified even = even
quantified odd = odd
quantified below = below

-- "another may stand only plainly, that is under an even number of negations .. and not below `<=>`"
unfoldable pub plainly : Standing → Bool
plainly free = true
plainly even = true
plainly odd = false
plainly below = false

-- of each `forall` in text order, whether it may stand there: "the left side of `=>` is one"
unfoldable pub standings : Standing → Formula → List Bool
standings s always = []
standings s never = []
standings s (equal t u) = []
standings s (unequal t u) = []
standings s (reaches i t u) = []
standings s (between i t u v) = []
standings s (flag j t) = []
standings s (negation f) = standings (negated s) f
standings s (both f g) = standings s f ++ standings s g
standings s (either f g) = standings s f ++ standings s g
standings s (implies f g) = standings (negated s) f ++ standings s g
standings s (same f g) = standings (equated s) f ++ standings (equated s) g
standings s (forall f) = plainly s ∷ standings (quantified s) f

unfoldable pub mark_foralls : List ℕ → List Bool → Builder → Builder
mark_foralls [] stand b = b
mark_foralls (p ∷ ps) [] b = b
mark_foralls (p ∷ ps) (s ∷ ss) b = mark_foralls ps ss (mark_at (not s) p forall_fault b)

unfoldable pub judge_foralls : Builder → Builder
judge_foralls b =
    let f : Formulas = b.formulas in
    let judged : Formulas = record { opened = f.opened; finished = f.finished; foralls = []; last_forall = f.last_forall; conditional = f.conditional } in
    with_formulas judged (mark_foralls f.foralls (standings free f.finished) b)

unfoldable pub set_conditional : Bool → Formulas → Formulas
set_conditional x f = record { opened = f.opened; finished = f.finished; foralls = f.foralls; last_forall = f.last_forall; conditional = x }

-- STATEMENTS. "256 statements a text", numbered in text order from 1 on, since an `ensures` has 0; "A line number is that of the first byte of a statement"
unfoldable pub begin_statement : Builder → Builder
begin_statement b =
    let c : Counts = b.counts in
    let d : Codes = b.codes in
    let at : Place = record { number = suc c.statements; line = b.word.line } in
    with_codes (record { here = at; test = d.test; invariants = []; statements = d.statements; levels = d.levels })
    (with_terms (set_terms [] b.terms)
    (with_counts (record { statements = suc c.statements; parts = c.parts; nesting = c.nesting }) (mark (leb 256 c.statements) limit_fault b)))

unfoldable pub begin_condition : Builder → Builder
begin_condition b = with_formulas (set_conditional true b.formulas) b

unfoldable pub end_condition : Builder → Builder
end_condition b =
    let d : Codes = b.codes in
    with_codes (record { here = d.here; test = b.formulas.finished; invariants = d.invariants; statements = d.statements; levels = d.levels })
    (with_formulas (set_conditional false b.formulas) b)

-- the statements of a block, the last one first, and what stands behind them
unfoldable pub closed : List Statement → Code → Code
closed [] rest = rest
closed (s ∷ ss) rest = closed ss (s rest)

unfoldable pub set_block : List Statement → List Level → Builder → Builder
set_block ss ls b =
    let d : Codes = b.codes in
    with_codes (record { here = d.here; test = d.test; invariants = d.invariants; statements = ss; levels = ls }) b

unfoldable pub add : Statement → Builder → Builder
add s b = set_block (s ∷ b.codes.statements) b.codes.levels b

-- "name "=" term ";"": the variable that a name is
unfoldable pub variable_of : Base → ℕ
variable_of null = 0
variable_of (variable x) = x
variable_of (bound i) = 0

unfoldable pub add_assign : Builder → Builder
add_assign b = add (assign b.codes.here (variable_of (term 1 b).base) (term 0 b)) b

unfoldable pub add_assign_link : Builder → Builder
add_assign_link b = add (assign_link b.codes.here (term 1 b) b.terms.assigned (term 0 b)) b

unfoldable pub add_clear : Builder → Builder
add_clear b = add (assign_flag b.codes.here (term 0 b) b.terms.assigned false) b

unfoldable pub add_set : Builder → Builder
add_set b = add (assign_flag b.codes.here (term 0 b) b.terms.assigned true) b

unfoldable pub add_havoc : Builder → Builder
add_havoc b = add (havoc b.codes.here (variable_of (term 0 b).base)) b

unfoldable pub add_assume : Builder → Builder
add_assume b = add (assume b.codes.here b.formulas.finished) b

unfoldable pub add_assert : Builder → Builder
add_assert b = add (assert b.codes.here b.formulas.finished) b

unfoldable pub add_cover : Builder → Builder
add_cover b = add (cover b.codes.here b.formulas.finished) b

unfoldable pub add_return : Builder → Builder
add_return b = add (leave b.codes.here) b

unfoldable pub add_break : Builder → Builder
add_break b = add (break_out b.codes.here) b

-- "nesting 32, of the blocks of `if` and `while` in each other .. (at the 33rd `{` ..; an `else if` is no deeper than its `if`)"
unfoldable pub set_nesting : ℕ → Builder → Builder
set_nesting k b = with_counts (record { statements = b.counts.statements; parts = b.counts.parts; nesting = k }) b

unfoldable pub open_block : Builder → Builder
open_block b = set_nesting (suc b.counts.nesting) (mark (leb 32 b.counts.nesting) limit_fault b)

unfoldable pub close_block : Builder → Builder
close_block b = set_nesting (b.counts.nesting - 1) b

-- an inner block is read
unfoldable pub inner : Head → Builder → Builder
inner h b = set_block [] (record { before = b.codes.statements; head = h } ∷ b.codes.levels) b

unfoldable pub open_then : Builder → Builder
open_then b = inner (then_of b.codes.here b.codes.test) (open_block b)

unfoldable pub open_loop : Builder → Builder
open_loop b = inner (loop_of b.codes.here b.codes.test b.codes.invariants) (open_block b)

-- an inner block is read to its end; what it belongs to goes on, or is a statement of the block around it
unfoldable pub ended : Head → Code → Statement
ended (then_of p f) body = branch p f body end
ended (else_of p f first) body = branch p f first body
ended (loop_of p f invariants) body = loop p f invariants body

unfoldable pub else_head : Head → Code → Head
else_head (then_of p f) body = else_of p f body
else_head (else_of p f first) body = else_of p f first
else_head (loop_of p f invariants) body = loop_of p f invariants

unfoldable pub go_on : List Level → Builder → Builder
go_on [] b = b
go_on (l ∷ ls) b = set_block [] (record { before = l.before; head = else_head l.head (closed b.codes.statements end) } ∷ ls) b

unfoldable pub leave_block : List Level → Builder → Builder
leave_block [] b = b
leave_block (l ∷ ls) b = set_block (ended l.head (closed b.codes.statements end) ∷ l.before) ls b

unfoldable pub close_then : Builder → Builder
close_then b = go_on b.codes.levels (close_block b)

unfoldable pub end_if : Builder → Builder
end_if b = leave_block b.codes.levels b

unfoldable pub close_loop : Builder → Builder
close_loop b = leave_block b.codes.levels (close_block b)

-- ROUTINES. Their clauses, each with the line of its word.
unfoldable pub begin_clause : Builder → Builder
begin_clause b =
    let r : Routines = b.routines in
    with_routines (record { line = r.line; clause_line = b.word.line; requires = r.requires; ensures = r.ensures; done = r.done }) b

abbrev pub clause : Builder → Clause
clause b = record { line = b.routines.clause_line; formula = b.formulas.finished }

unfoldable pub add_requires : Builder → Builder
add_requires b =
    let r : Routines = b.routines in
    with_routines (record { line = r.line; clause_line = r.clause_line; requires = r.requires ++ (clause b ∷ []); ensures = r.ensures; done = r.done }) b

unfoldable pub add_ensures : Builder → Builder
add_ensures b =
    let r : Routines = b.routines in
    with_routines (record { line = r.line; clause_line = r.clause_line; requires = r.requires; ensures = r.ensures ++ (clause b ∷ []); done = r.done }) b

unfoldable pub add_invariant : Builder → Builder
add_invariant b =
    let d : Codes = b.codes in
    with_codes (record { here = d.here; test = d.test; invariants = d.invariants ++ (clause b ∷ []); statements = d.statements; levels = d.levels }) b

-- "A routine's parameters and `var`s are its variables; its `requires` and `ensures` speak of parameters only": the `var`s are declared behind them
unfoldable pub begin_routine : Builder → Builder
begin_routine b =
    let r : Routines = b.routines in
    with_routines (record { line = b.word.line; clause_line = r.clause_line; requires = []; ensures = []; done = r.done })
    (with_names (set_variables [] b.names) (set_block [] [] b))

unfoldable pub last_name : List Word → Word
last_name [] = no_word
last_name (n ∷ []) = n
last_name (n ∷ m ∷ ns) = last_name (m ∷ ns)

unfoldable pub end_routine : Builder → Builder
end_routine b =
    let r : Routines = b.routines in
    let read : Routine = record { line = r.line; requires = r.requires; ensures = r.ensures; body = closed b.codes.statements end } in
    let named : Named = record { name = last_name b.names.routines; variables = b.names.variables; routine = read } in
    with_routines (record { line = r.line; clause_line = r.clause_line; requires = r.requires; ensures = r.ensures; done = r.done ++ (named ∷ []) }) b

-- The grammar of 03, "The text", with its actions: left-factored, so that the next word or sign tells which alternative is read. Words and signs are
-- quoted as in the paper; a name is a token of kind 2. What each action does is said in Builder.
use Rattle.std.specs.Prelude.{ℕ, ◌-◌, List, [], ◌∷◌, map}
use Prim.Native.String.{String}
use Rattle.text.specs.Text.{ascii}
use Rattle.grammar_theory.specs.Grammar.{Symbol, token, rule, action, Symbols, Grammar}
use Rattle.grammar_theory.specs.Machine.{Table}
use Rattle.grammar_theory.specs.LL1.{Facts}
use Rattle.routine_tokens.specs.Tokens.{token_in}

-- a word or sign as it is quoted in the paper; a name
abbrev pub q : String → Symbol
q s = token (token_in 0 (ascii s)).kind

abbrev pub name : Symbol
name = token 2

-- the rules, by their numbers in the list below

abbrev pub text : Symbol
text = rule 0

abbrev pub declarations : Symbol
declarations = rule 1

abbrev pub link_names : Symbol
link_names = rule 2

abbrev pub more_links : Symbol
more_links = rule 3

abbrev pub flag_names : Symbol
flag_names = rule 4

abbrev pub more_flags : Symbol
more_flags = rule 5

abbrev pub routines : Symbol
routines = rule 6

abbrev pub routine : Symbol
routine = rule 7

abbrev pub parameters : Symbol
parameters = rule 8

abbrev pub variable_names : Symbol
variable_names = rule 9

abbrev pub more_variables : Symbol
more_variables = rule 10

abbrev pub clauses : Symbol
clauses = rule 11

abbrev pub variables : Symbol
variables = rule 12

abbrev pub statements : Symbol
statements = rule 13

abbrev pub statement : Symbol
statement = rule 14

abbrev pub if_statement : Symbol
if_statement = rule 15

abbrev pub else_part : Symbol
else_part = rule 16

abbrev pub else_block : Symbol
else_block = rule 17

abbrev pub while_statement : Symbol
while_statement = rule 18

abbrev pub inner_statements : Symbol
inner_statements = rule 19

abbrev pub inner_statement : Symbol
inner_statement = rule 20

abbrev pub inner_if : Symbol
inner_if = rule 21

abbrev pub inner_else : Symbol
inner_else = rule 22

abbrev pub inner_else_block : Symbol
inner_else_block = rule 23

abbrev pub condition : Symbol
condition = rule 24

abbrev pub invariants : Symbol
invariants = rule 25

abbrev pub simple : Symbol
simple = rule 26

abbrev pub assignment : Symbol
assignment = rule 27

abbrev pub member_assignment : Symbol
member_assignment = rule 28

abbrev pub assigned : Symbol
assigned = rule 29

abbrev pub term : Symbol
term = rule 30

abbrev pub path : Symbol
path = rule 31

abbrev pub sentence : Symbol
sentence = rule 32

abbrev pub formula : Symbol
formula = rule 33

abbrev pub operand : Symbol
operand = rule 34

abbrev pub bound_names : Symbol
bound_names = rule 35

abbrev pub more_bound : Symbol
more_bound = rule 36

abbrev pub compared : Symbol
compared = rule 37

abbrev pub member : Symbol
member = rule 38

abbrev pub comparison : Symbol
comparison = rule 39

abbrev pub by : Symbol
by = rule 40

abbrev pub joined : Symbol
joined = rule 41

-- the actions, by their numbers in the list of what they do
abbrev pub on_end_declarations : Symbol
on_end_declarations = action 0

abbrev pub on_declare_link : Symbol
on_declare_link = action 1

abbrev pub on_declare_flag : Symbol
on_declare_flag = action 2

abbrev pub on_begin_routine : Symbol
on_begin_routine = action 3

abbrev pub on_name_routine : Symbol
on_name_routine = action 4

abbrev pub on_end_routine : Symbol
on_end_routine = action 5

abbrev pub on_declare_variable : Symbol
on_declare_variable = action 6

abbrev pub on_begin_clause : Symbol
on_begin_clause = action 7

abbrev pub on_add_requires : Symbol
on_add_requires = action 8

abbrev pub on_add_ensures : Symbol
on_add_ensures = action 9

abbrev pub on_begin_statement : Symbol
on_begin_statement = action 10

abbrev pub on_open_then : Symbol
on_open_then = action 11

abbrev pub on_close_then : Symbol
on_close_then = action 12

abbrev pub on_end_if : Symbol
on_end_if = action 13

abbrev pub on_open_block : Symbol
on_open_block = action 14

abbrev pub on_close_block : Symbol
on_close_block = action 15

abbrev pub on_open_loop : Symbol
on_open_loop = action 16

abbrev pub on_close_loop : Symbol
on_close_loop = action 17

abbrev pub on_add_break : Symbol
on_add_break = action 18

abbrev pub on_begin_condition : Symbol
on_begin_condition = action 19

abbrev pub on_end_condition : Symbol
on_end_condition = action 20

abbrev pub on_add_invariant : Symbol
on_add_invariant = action 21

abbrev pub on_name_base : Symbol
on_name_base = action 22

abbrev pub on_null_base : Symbol
on_null_base = action 23

abbrev pub on_name_member : Symbol
on_name_member = action 24

abbrev pub on_add_havoc : Symbol
on_add_havoc = action 25

abbrev pub on_add_assume : Symbol
on_add_assume = action 26

abbrev pub on_add_assert : Symbol
on_add_assert = action 27

abbrev pub on_add_cover : Symbol
on_add_cover = action 28

abbrev pub on_add_return : Symbol
on_add_return = action 29

abbrev pub on_add_assign : Symbol
on_add_assign = action 30

abbrev pub on_take_link : Symbol
on_take_link = action 31

abbrev pub on_write_flag : Symbol
on_write_flag = action 32

abbrev pub on_add_clear : Symbol
on_add_clear = action 33

abbrev pub on_add_set : Symbol
on_add_set = action 34

abbrev pub on_write_link : Symbol
on_write_link = action 35

abbrev pub on_add_assign_link : Symbol
on_add_assign_link = action 36

abbrev pub on_follow_link : Symbol
on_follow_link = action 37

abbrev pub on_judge_foralls : Symbol
on_judge_foralls = action 38

abbrev pub on_close_formula : Symbol
on_close_formula = action 39

abbrev pub on_negate : Symbol
on_negate = action 40

abbrev pub on_open_parenthesis : Symbol
on_open_parenthesis = action 41

abbrev pub on_close_parenthesis : Symbol
on_close_parenthesis = action 42

abbrev pub on_add_true : Symbol
on_add_true = action 43

abbrev pub on_add_false : Symbol
on_add_false = action 44

abbrev pub on_open_forall : Symbol
on_open_forall = action 45

abbrev pub on_open_body : Symbol
on_open_body = action 46

abbrev pub on_close_forall : Symbol
on_close_forall = action 47

abbrev pub on_count_part : Symbol
on_count_part = action 48

abbrev pub on_add_between : Symbol
on_add_between = action 49

abbrev pub on_declare_bound : Symbol
on_declare_bound = action 50

abbrev pub on_read_flag : Symbol
on_read_flag = action 51

abbrev pub on_add_equal : Symbol
on_add_equal = action 52

abbrev pub on_add_unequal : Symbol
on_add_unequal = action 53

abbrev pub on_add_reaches : Symbol
on_add_reaches = action 54

abbrev pub on_by_link : Symbol
on_by_link = action 55

abbrev pub on_by_first : Symbol
on_by_first = action 56

abbrev pub on_join_and : Symbol
on_join_and = action 57

abbrev pub on_join_or : Symbol
on_join_or = action 58

abbrev pub on_join_implies : Symbol
on_join_implies = action 59

abbrev pub on_join_iff : Symbol
on_join_iff = action 60

-- THE RULES. What each of them can be read as.
-- "text = { "links" names ";" | "flags" names ";" } routine { routine }"
abbrev pub of_text : List Symbols
of_text =
    (declarations ∷ routine ∷ routines ∷ []) ∷ []

-- "{ "links" names ";" | "flags" names ";" }"; what is declared is known where the first routine begins
abbrev pub of_declarations : List Symbols
of_declarations =
    (q "links" ∷ link_names ∷ q ";" ∷ declarations ∷ [])
    ∷ (q "flags" ∷ flag_names ∷ q ";" ∷ declarations ∷ [])
    ∷ (on_end_declarations ∷ []) ∷ []

-- "names = name { "," name }", of links and of flags
abbrev pub of_link_names : List Symbols
of_link_names =
    (name ∷ on_declare_link ∷ more_links ∷ []) ∷ []

abbrev pub of_more_links : List Symbols
of_more_links =
    (q "," ∷ name ∷ on_declare_link ∷ more_links ∷ [])
    ∷ [] ∷ []

abbrev pub of_flag_names : List Symbols
of_flag_names =
    (name ∷ on_declare_flag ∷ more_flags ∷ []) ∷ []

abbrev pub of_more_flags : List Symbols
of_more_flags =
    (q "," ∷ name ∷ on_declare_flag ∷ more_flags ∷ [])
    ∷ [] ∷ []

-- "{ routine }"
abbrev pub of_routines : List Symbols
of_routines =
    (routine ∷ routines ∷ [])
    ∷ [] ∷ []

-- "routine = "routine" name "(" [ names ] ")" { ( "requires" | "ensures" ) formula } "{" { "var" names ";" } { statement } "}""
abbrev pub of_routine : List Symbols
of_routine =
    (q "routine" ∷ on_begin_routine ∷ name ∷ on_name_routine ∷ q "("
    ∷ parameters ∷ q ")" ∷ clauses ∷ q "{" ∷ variables ∷ statements ∷ q "}" ∷ on_end_routine ∷ []) ∷ []

-- "[ names ]", of variables
abbrev pub of_parameters : List Symbols
of_parameters =
    (variable_names ∷ [])
    ∷ [] ∷ []

abbrev pub of_variable_names : List Symbols
of_variable_names =
    (name ∷ on_declare_variable ∷ more_variables ∷ []) ∷ []

abbrev pub of_more_variables : List Symbols
of_more_variables =
    (q "," ∷ name ∷ on_declare_variable ∷ more_variables ∷ [])
    ∷ [] ∷ []

-- "{ ( "requires" | "ensures" ) formula }"
abbrev pub of_clauses : List Symbols
of_clauses =
    (q "requires" ∷ on_begin_clause ∷ sentence ∷ on_add_requires ∷ clauses ∷ [])
    ∷ (q "ensures" ∷ on_begin_clause ∷ sentence ∷ on_add_ensures ∷ clauses ∷ [])
    ∷ [] ∷ []

-- "{ "var" names ";" }"
abbrev pub of_variables : List Symbols
of_variables =
    (q "var" ∷ variable_names ∷ q ";" ∷ variables ∷ [])
    ∷ [] ∷ []

-- "{ statement }" outside of loops
abbrev pub of_statements : List Symbols
of_statements =
    (statement ∷ statements ∷ [])
    ∷ [] ∷ []

abbrev pub of_statement : List Symbols
of_statement =
    (simple ∷ [])
    ∷ (if_statement ∷ [])
    ∷ (while_statement ∷ []) ∷ []

-- ""if" "(" formula ")" block [ "else" ( block | if-statement ) ]", "block = "{" { statement } "}""
abbrev pub of_if_statement : List Symbols
of_if_statement =
    (q "if" ∷ on_begin_statement ∷ condition ∷ q "{" ∷ on_open_then ∷ statements ∷ q "}" ∷ on_close_then ∷ else_part ∷ []) ∷ []

abbrev pub of_else_part : List Symbols
of_else_part =
    (q "else" ∷ else_block ∷ [])
    ∷ (on_end_if ∷ []) ∷ []

abbrev pub of_else_block : List Symbols
of_else_block =
    (q "{" ∷ on_open_block ∷ statements ∷ q "}" ∷ on_close_block ∷ on_end_if ∷ [])
    ∷ (if_statement ∷ on_end_if ∷ []) ∷ []

-- ""while" "(" formula ")" { "invariant" formula } block"
abbrev pub of_while_statement : List Symbols
of_while_statement =
    (q "while" ∷ on_begin_statement ∷ condition ∷ invariants ∷ q "{" ∷ on_open_loop ∷ inner_statements ∷ q "}" ∷ on_close_loop ∷ []) ∷ []

-- "break only within a loop": the same for statements within one
abbrev pub of_inner_statements : List Symbols
of_inner_statements =
    (inner_statement ∷ inner_statements ∷ [])
    ∷ [] ∷ []

abbrev pub of_inner_statement : List Symbols
of_inner_statement =
    (simple ∷ [])
    ∷ (inner_if ∷ [])
    ∷ (while_statement ∷ [])
    ∷ (q "break" ∷ on_begin_statement ∷ q ";" ∷ on_add_break ∷ []) ∷ []

abbrev pub of_inner_if : List Symbols
of_inner_if =
    (q "if" ∷ on_begin_statement ∷ condition ∷ q "{" ∷ on_open_then ∷ inner_statements ∷ q "}" ∷ on_close_then ∷ inner_else ∷ []) ∷ []

abbrev pub of_inner_else : List Symbols
of_inner_else =
    (q "else" ∷ inner_else_block ∷ [])
    ∷ (on_end_if ∷ []) ∷ []

abbrev pub of_inner_else_block : List Symbols
of_inner_else_block =
    (q "{" ∷ on_open_block ∷ inner_statements ∷ q "}" ∷ on_close_block ∷ on_end_if ∷ [])
    ∷ (inner_if ∷ on_end_if ∷ []) ∷ []

-- ""(" formula ")", behind `if` and `while`
abbrev pub of_condition : List Symbols
of_condition =
    (q "(" ∷ on_begin_condition ∷ sentence ∷ q ")" ∷ on_end_condition ∷ []) ∷ []

-- "{ "invariant" formula }"
abbrev pub of_invariants : List Symbols
of_invariants =
    (q "invariant" ∷ on_begin_clause ∷ sentence ∷ on_add_invariant ∷ invariants ∷ [])
    ∷ [] ∷ []

-- "name "=" term ";"", "term "->" link "=" term ";"", "term "->" flag "=" ( "0" | "1" ) ";"", ""havoc" name ";"",
-- "( "assume" | "assert" | "cover" ) formula ";"", ""return" ";""
abbrev pub of_simple : List Symbols
of_simple =
    (name ∷ on_begin_statement ∷ on_name_base ∷ assignment ∷ [])
    ∷ (q "NULL" ∷ on_begin_statement ∷ on_null_base ∷ q "->" ∷ name ∷ on_name_member ∷ member_assignment ∷ [])
    ∷ (q "havoc" ∷ on_begin_statement ∷ name ∷ on_name_base ∷ q ";" ∷ on_add_havoc ∷ [])
    ∷ (q "assume" ∷ on_begin_statement ∷ sentence ∷ q ";" ∷ on_add_assume ∷ [])
    ∷ (q "assert" ∷ on_begin_statement ∷ sentence ∷ q ";" ∷ on_add_assert ∷ [])
    ∷ (q "cover" ∷ on_begin_statement ∷ sentence ∷ q ";" ∷ on_add_cover ∷ [])
    ∷ (q "return" ∷ on_begin_statement ∷ q ";" ∷ on_add_return ∷ []) ∷ []

-- what stands behind the first name of an assignment; behind a name that stands behind `->`; behind `=`
abbrev pub of_assignment : List Symbols
of_assignment =
    (q "=" ∷ term ∷ q ";" ∷ on_add_assign ∷ [])
    ∷ (q "->" ∷ name ∷ on_name_member ∷ member_assignment ∷ []) ∷ []

abbrev pub of_member_assignment : List Symbols
of_member_assignment =
    (q "->" ∷ on_take_link ∷ name ∷ on_name_member ∷ member_assignment ∷ [])
    ∷ (q "=" ∷ assigned ∷ []) ∷ []

abbrev pub of_assigned : List Symbols
of_assigned =
    (q "0" ∷ on_write_flag ∷ q ";" ∷ on_add_clear ∷ [])
    ∷ (q "1" ∷ on_write_flag ∷ q ";" ∷ on_add_set ∷ [])
    ∷ (on_write_link ∷ term ∷ q ";" ∷ on_add_assign_link ∷ []) ∷ []

-- "term = ( name | "NULL" ) { "->" link }"
abbrev pub of_term : List Symbols
of_term =
    (name ∷ on_name_base ∷ path ∷ [])
    ∷ (q "NULL" ∷ on_null_base ∷ path ∷ []) ∷ []

abbrev pub of_path : List Symbols
of_path =
    (q "->" ∷ name ∷ on_follow_link ∷ path ∷ [])
    ∷ [] ∷ []

-- a formula that stands in no other
abbrev pub of_sentence : List Symbols
of_sentence =
    (formula ∷ on_judge_foralls ∷ []) ∷ []

-- "formula = implies { "<=>" implies }", "implies = or [ "=>" implies ]", "or = and { "||" and }", "and = item { "&&" item }": items with
-- signs between them. Which of them belong together the actions at the signs say; behind the body of a `forall` no sign is left for what is around it,
-- since "A `forall` reaches as far to the right as it can".
abbrev pub of_formula : List Symbols
of_formula =
    (operand ∷ on_close_formula ∷ []) ∷ []

-- "item = "!" item | "(" formula ")" | "true" | "false" | "forall" names ":" formula" ..
abbrev pub of_operand : List Symbols
of_operand =
    (q "!" ∷ on_negate ∷ operand ∷ [])
    ∷ (q "(" ∷ on_open_parenthesis ∷ formula ∷ q ")" ∷ on_close_parenthesis ∷ joined ∷ [])
    ∷ (q "true" ∷ on_add_true ∷ joined ∷ [])
    ∷ (q "false" ∷ on_add_false ∷ joined ∷ [])
    ∷ (q "forall" ∷ on_open_forall ∷ bound_names ∷ q ":" ∷ on_open_body ∷ formula ∷ on_close_forall ∷ [])
    ∷ (name ∷ on_count_part ∷ on_name_base ∷ compared ∷ joined ∷ [])
    ∷ (q "NULL" ∷ on_count_part ∷ on_null_base ∷ compared ∷ joined ∷ [])
    ∷ (q "between" ∷ on_count_part ∷ q "(" ∷ term ∷ q "," ∷ term ∷ q "," ∷ term ∷ q ")" ∷ by ∷ on_add_between ∷ joined ∷ []) ∷ []

-- "names = name { "," name }", of a `forall`
abbrev pub of_bound_names : List Symbols
of_bound_names =
    (name ∷ on_declare_bound ∷ more_bound ∷ []) ∷ []

abbrev pub of_more_bound : List Symbols
of_more_bound =
    (q "," ∷ name ∷ on_declare_bound ∷ more_bound ∷ [])
    ∷ [] ∷ []

-- "term ( "==" | "!=" ) term", "term "reaches" term [ "by" link ]", "term "->" flag": behind the first name; behind a name that stands behind `->`
abbrev pub of_compared : List Symbols
of_compared =
    (comparison ∷ [])
    ∷ (q "->" ∷ name ∷ on_name_member ∷ member ∷ []) ∷ []

abbrev pub of_member : List Symbols
of_member =
    (q "->" ∷ on_take_link ∷ name ∷ on_name_member ∷ member ∷ [])
    ∷ (on_take_link ∷ comparison ∷ [])
    ∷ (on_read_flag ∷ []) ∷ []

abbrev pub of_comparison : List Symbols
of_comparison =
    (q "==" ∷ term ∷ on_add_equal ∷ [])
    ∷ (q "!=" ∷ term ∷ on_add_unequal ∷ [])
    ∷ (q "reaches" ∷ term ∷ by ∷ on_add_reaches ∷ []) ∷ []

-- "[ "by" link ]"
abbrev pub of_by : List Symbols
of_by =
    (q "by" ∷ name ∷ on_by_link ∷ [])
    ∷ (on_by_first ∷ []) ∷ []

-- the signs between items
abbrev pub of_joined : List Symbols
of_joined =
    (q "&&" ∷ on_join_and ∷ operand ∷ [])
    ∷ (q "||" ∷ on_join_or ∷ operand ∷ [])
    ∷ (q "=>" ∷ on_join_implies ∷ operand ∷ [])
    ∷ (q "<=>" ∷ on_join_iff ∷ operand ∷ [])
    ∷ [] ∷ []

unfoldable pub grammar : Grammar
grammar =
    of_text ∷ of_declarations ∷ of_link_names ∷ of_more_links ∷ of_flag_names ∷ of_more_flags ∷ of_routines ∷ of_routine ∷ of_parameters ∷ of_variable_names
    ∷ of_more_variables ∷ of_clauses ∷ of_variables ∷ of_statements ∷ of_statement ∷ of_if_statement ∷ of_else_part ∷ of_else_block ∷ of_while_statement
    ∷ of_inner_statements ∷ of_inner_statement ∷ of_inner_if ∷ of_inner_else ∷ of_inner_else_block ∷ of_condition ∷ of_invariants ∷ of_simple ∷ of_assignment
    ∷ of_member_assignment ∷ of_assigned ∷ of_term ∷ of_path ∷ of_sentence ∷ of_formula ∷ of_operand ∷ of_bound_names ∷ of_more_bound ∷ of_compared
    ∷ of_member ∷ of_comparison ∷ of_by ∷ of_joined ∷ []

-- For each rule: the number of the alternative that is read before a token of each kind, from kind 0 on; of none, how many there are.
-- Written in digits.
unfoldable pub digits : String → List ℕ
digits s = map (λ c. c - 48) (ascii s)

unfoldable pub predictions : Table
predictions =
    digits "111111000111111111111111111111111111111111111"
    ∷ digits "333333012333333333333333333333333333333333333"
    ∷ digits "110111111111111111111111111111111111111111111"
    ∷ digits "222222222222222222222222222222222222222212022"
    ∷ digits "110111111111111111111111111111111111111111111"
    ∷ digits "222222222222222222222222222222222222222212022"
    ∷ digits "122222220222222222222222222222222222222222222"
    ∷ digits "111111110111111111111111111111111111111111111"
    ∷ digits "220222222222222222222222222222222222212222222"
    ∷ digits "110111111111111111111111111111111111111111111"
    ∷ digits "222222222222222222222222222222222222212212022"
    ∷ digits "333333333013333333333333333333333333332333333"
    ∷ digits "221222222220111112121222222212222222222122222"
    ∷ digits "220222222222000002020222222202222222222122222"
    ∷ digits "330333333333000013230333333303333333333333333"
    ∷ digits "111111111111111101111111111111111111111111111"
    ∷ digits "221222222222111110121222222212222222222122222"
    ∷ digits "222222222222222212222222222222222222220222222"
    ∷ digits "111111111111111111011111111111111111111111111"
    ∷ digits "220222222222000002020022222202222222222122222"
    ∷ digits "440444444444000014240344444404444444444444444"
    ∷ digits "111111111111111101111111111111111111111111111"
    ∷ digits "221222222222111110121122222212222222222122222"
    ∷ digits "222222222222222212222222222222222222220222222"
    ∷ digits "111111111111111111111111111111111111011111111"
    ∷ digits "222222222222222222202222222222222222221222222"
    ∷ digits "770777777777234577776777777717777777777777777"
    ∷ digits "222222222222222222222222222221222222222222202"
    ∷ digits "222222222222222222222222222220222222222222212"
    ∷ digits "332013333333333333333333333323333333333333333"
    ∷ digits "220222222222222222222222222212222222222222222"
    ∷ digits "222222222112222222212222221220112211211212122"
    ∷ digits "110111111111111111111100011001111111011111110"
    ∷ digits "110111111111111111111100011001111111011111110"
    ∷ digits "885888888888888888888823488768888888188888880"
    ∷ digits "110111111111111111111111111111111111111111111"
    ∷ digits "222222222222222222222222222222222222222221022"
    ∷ digits "222222222222222222222222202221220022222222222"
    ∷ digits "333333333223333333323333313330221122322323333"
    ∷ digits "333333333333333333333333323333330133333333333"
    ∷ digits "222222222112222222212222220222112211211212222"
    ∷ digits "555555555445555555545555555555235501544545555"
    ∷ []

-- What the LL(1) test wants to know of the grammar; the test sees that it is so. Sets of rules are numbers, rule r being bit r.
unfoldable pub facts : Facts
facts =
    record {
      kinds = 45;
      top = 3;
      heaviest = 7;
      nullables = 3644318104938;
      firsts = 0 ∷ 0 ∷ 66103829268 ∷ 536870912 ∷ 536870912 ∷ 0 ∷ 3 ∷ 3 ∷ 193 ∷ 2048 ∷ 2048 ∷ 4096 ∷ 68706304 ∷ 68706304 ∷ 68706304 ∷ 68706304 ∷ 12247040 ∷ 4259840
          ∷ 1859584 ∷ 33554432 ∷ 68706304 ∷ 1572864 ∷ 30064771072 ∷ 30064771072 ∷ 30064771072 ∷ 962072674304 ∷ 1099511627776 ∷ 30064771072 ∷ 31744090112
          ∷ 414866997248 ∷ 2199023255552 ∷ 2199023255552 ∷ 962072674304 ∷ 962072674304 ∷ 2199023255552 ∷ 2199023255552 ∷ 30081548288 ∷ 0 ∷ 8519680 ∷ 0 ∷ 0 ∷ 0
          ∷ 68719477800 ∷ 402653184 ∷ 30064771072 ∷ [];
      follows = 193 ∷ 0 ∷ 1022873600 ∷ 0 ∷ 0 ∷ 0 ∷ 0 ∷ 0 ∷ 130 ∷ 4293893554176 ∷ 4293893554176 ∷ 0 ∷ 1022873600 ∷ 1022873600 ∷ 1022873600 ∷ 1022873600 ∷ 1022873600 ∷ 0
          ∷ 1022873600 ∷ 4293910331392 ∷ 1022873600 ∷ 1022623744 ∷ 0 ∷ 0 ∷ 0 ∷ 0 ∷ 3221225472 ∷ 0 ∷ 1022873600 ∷ 0 ∷ 2064805527552 ∷ 2064805527552 ∷ 0 ∷ 0
          ∷ 2064805527552 ∷ 2064805527552 ∷ 0 ∷ 4293893555968 ∷ 4293943887872 ∷ 1023406080 ∷ 4293893555772 ∷ 103079215104 ∷ 3221225472 ∷ 0 ∷ 0 ∷ [];
      ranks = 1 ∷ 0 ∷ 0 ∷ 0 ∷ 0 ∷ 0 ∷ 1 ∷ 0 ∷ 1 ∷ 0 ∷ 0 ∷ 0 ∷ 0 ∷ 2 ∷ 1 ∷ 0 ∷ 0 ∷ 1 ∷ 0 ∷ 2 ∷ 1 ∷ 0 ∷ 0 ∷ 1 ∷ 0 ∷ 0 ∷ 0 ∷ 0 ∷ 0 ∷ 1 ∷ 0 ∷ 0 ∷ 2 ∷ 1 ∷ 0 ∷ 0 ∷ 0 ∷ 1 ∷ 1
          ∷ 0 ∷ 0 ∷ 0 ∷ [];
      weights = 0 ∷ 2 ∷ 0 ∷ 1 ∷ 0 ∷ 1 ∷ 1 ∷ 0 ∷ 1 ∷ 0 ∷ 1 ∷ 1 ∷ 1 ∷ 1 ∷ 0 ∷ 0 ∷ 2 ∷ 0 ∷ 0 ∷ 1 ∷ 0 ∷ 0 ∷ 2 ∷ 0 ∷ 0 ∷ 1 ∷ 0 ∷ 0 ∷ 0 ∷ 0 ∷ 0 ∷ 1 ∷ 0 ∷ 0 ∷ 0 ∷ 0 ∷ 1 ∷ 0 ∷ 2
          ∷ 0 ∷ 2 ∷ 1 ∷ [];
      heights = 2 ∷ 0 ∷ 1 ∷ 0 ∷ 1 ∷ 0 ∷ 0 ∷ 1 ∷ 0 ∷ 1 ∷ 0 ∷ 0 ∷ 0 ∷ 0 ∷ 1 ∷ 5 ∷ 0 ∷ 1 ∷ 5 ∷ 0 ∷ 0 ∷ 5 ∷ 0 ∷ 1 ∷ 4 ∷ 0 ∷ 0 ∷ 2 ∷ 1 ∷ 0 ∷ 1 ∷ 0 ∷ 3 ∷ 2 ∷ 1 ∷ 1 ∷ 0 ∷ 1 ∷ 0
          ∷ 2 ∷ 0 ∷ 0 ∷ [];
    }

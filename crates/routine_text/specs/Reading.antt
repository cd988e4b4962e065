-- What a text says, and its first fault (03, "The text" and "Answers").
use Rattle.std.specs.Prelude.{ℕ, ◌+◌, ◌*◌, Bool, true, false, not, cond, List, [], ◌∷◌, ◌++◌, map, eqb, ltb, length, get_or}
use Rattle.std.proofs.Math.Option.{Option, none, some, Option-elim}
use Rattle.logic.specs.Search.{select}
use Rattle.grammar_theory.specs.Grammar.{Step, shift, act}
use Rattle.grammar_theory.specs.Machine.{Ending, accepted, stuck, unfinished}
use Rattle.grammar_theory.specs.LL1.{parse}
use Rattle.routine_logic.specs.Syntax.{never}
use Rattle.routine_tokens.specs.declared.Token.{Token}
use Rattle.routine_tokens.specs.Tokens.{tokens, line_of, column_of}
use Rattle.routine_text.specs.Grammar.{grammar, predictions, facts}
use Rattle.routine_text.specs.Builder.{Word, word_in, no_word, Fault, text_fault, name_fault, forall_fault, limit_fault, Mark, Named, Builder, accept, end_declarations, declare_link, declare_flag, begin_routine, name_routine, end_routine, declare_variable, begin_clause, add_requires, add_ensures, begin_statement, open_then, close_then, end_if, open_block, close_block, open_loop, close_loop, add_break, begin_condition, end_condition, add_invariant, name_base, null_base, name_member, add_havoc, add_assume, add_assert, add_cover, add_return, add_assign, take_link, write_flag, add_clear, add_set, write_link, add_assign_link, follow_link, judge_foralls, close_formula, negate, open_parenthesis, close_parenthesis, add_true, add_false, open_forall, open_body, close_forall, count_part, add_between, declare_bound, read_flag, add_equal, add_unequal, add_reaches, by_link, by_first, join_and, join_or, join_implies, join_iff}

-- what the actions of the grammar do, in the order of their numbers
unfoldable pub actions : List (Builder → Builder)
actions =
    end_declarations ∷ declare_link ∷ declare_flag ∷ begin_routine ∷ name_routine ∷ end_routine ∷ declare_variable ∷ begin_clause ∷ add_requires
    ∷ add_ensures ∷ begin_statement ∷ open_then ∷ close_then ∷ end_if ∷ open_block ∷ close_block ∷ open_loop ∷ close_loop ∷ add_break ∷ begin_condition
    ∷ end_condition ∷ add_invariant ∷ name_base ∷ null_base ∷ name_member ∷ add_havoc ∷ add_assume ∷ add_assert ∷ add_cover ∷ add_return ∷ add_assign ∷ take_link
    ∷ write_flag ∷ add_clear ∷ add_set ∷ write_link ∷ add_assign_link ∷ follow_link ∷ judge_foralls ∷ close_formula ∷ negate ∷ open_parenthesis
    ∷ close_parenthesis ∷ add_true ∷ add_false ∷ open_forall ∷ open_body ∷ close_forall ∷ count_part ∷ add_between ∷ declare_bound ∷ read_flag ∷ add_equal
    ∷ add_unequal ∷ add_reaches ∷ by_link ∷ by_first ∷ join_and ∷ join_or ∷ join_implies ∷ join_iff
    ∷ []

unfoldable pub perform : ℕ → Builder → Builder
perform k b = get_or actions k (λ c. c) b

-- where the reading is: the words that come, and what is built
pub record Reader : Type 0 where
  pub coming : List Word
  pub built : Builder

unfoldable pub accepting : List Word → Builder → Reader
accepting [] b = record { coming = []; built = b }
accepting (w ∷ ws) b = record { coming = ws; built = accept w b }

unfoldable pub does : Step → Reader → Reader
does (shift k) r = accepting r.coming r.built
does (act a) r = record { coming = r.coming; built = perform a r.built }

-- nothing is built yet
unfoldable pub empty : Builder
empty =
    record {
      word = no_word;
      names = record { links = []; flags = []; routines = []; variables = []; bound = []; fresh = [] };
      counts = record { statements = 0; parts = 0; nesting = 0 };
      terms = record { read = []; member = no_word; assigned = 0; by = 0 };
      formulas = record { opened = []; finished = never; foralls = []; last_forall = 0; conditional = false };
      codes = record { here = record { number = 0; line = 0 }; test = never; invariants = []; statements = []; levels = [] };
      routines = record { line = 0; clause_line = 0; requires = []; ensures = []; done = [] };
      marks = [];
    }

-- the kinds of the tokens before the end of the text
unfoldable pub kinds_of : List Token → List ℕ
kinds_of ts = select (λ k. not (eqb k 0)) (map (λ t. t.kind) ts)

-- the words, and how the machine ends on them
unfoldable pub words_of : List ℕ → List Token → List Word
words_of text ts = map (word_in text) ts

unfoldable pub ending_on : List ℕ → List Word → Ending Reader
ending_on ks words = parse does grammar predictions facts 0 ks (record { coming = words; built = empty })

unfoldable pub ending : List ℕ → Ending Reader
ending text = let ts : List Token = tokens text in ending_on (kinds_of ts) (words_of text ts)

-- "at one place `text` goes before `name`, `name` before `forall`, `forall` before `limit`"
unfoldable pub rank : Fault → ℕ
rank text_fault = 0
rank name_fault = 1
rank forall_fault = 2
rank limit_fault = 3

unfoldable pub order : Mark → ℕ
order m = 4 * m.place + rank m.fault

unfoldable pub before : Mark → Mark → Bool
before m n = ltb (order m) (order n)

-- "The fault is the one at the smallest place"
unfoldable pub earlier : Mark → Mark → Mark
earlier m n = cond (before n m) n m

unfoldable pub first : List Mark → Option Mark
first [] = none
first (m ∷ ms) = some (Option-elim (first ms) m (earlier m))

-- "at the first byte of the first word or sign that no text of the grammar could have there"
unfoldable pub place_of : List Word → ℕ
place_of [] = 0
place_of (w ∷ ws) = w.place

unfoldable pub marks_of : Ending Reader → List Mark
marks_of (accepted r) = r.built.marks
marks_of (stuck left r) = record { place = place_of r.coming; fault = text_fault } ∷ r.built.marks
marks_of unfinished = record { place = 0; fault = text_fault } ∷ []

-- "Limits: 8,192 bytes": "at the first byte past a limit"
unfoldable pub length_marks : ℕ → List Mark
length_marks n = cond (ltb 8192 n) (record { place = 8192; fault = limit_fault } ∷ []) []

unfoldable pub faults_of : List ℕ → Ending Reader → List Mark
faults_of text e = length_marks (length text) ++ marks_of e

unfoldable pub faults : List ℕ → List Mark
faults text = faults_of text (ending text)

-- what a text says: its links and flags, and its routines with their names and variables
pub record Contents : Type 0 where
  pub links : List Word
  pub flags : List Word
  pub routines : List Named

unfoldable pub contents_of : Builder → Contents
contents_of b = record { links = b.names.links; flags = b.names.flags; routines = b.routines.done }

-- "A text outside the grammar or past a limit gives one line, `fault L:C WORD`, line and column from 1."
pub data Reading : Type 0 where
  read : Contents → Reading
  faulty : ℕ → ℕ → Fault → Reading

unfoldable pub contents : Ending Reader → Contents
contents (accepted r) = contents_of r.built
contents (stuck left r) = contents_of r.built
contents unfinished = record { links = []; flags = []; routines = [] }

-- what is said of the least of the faults; without one, what the text says
unfoldable pub judged : List ℕ → Contents → Option Mark → Reading
judged text c none = read c
judged text c (some m) = faulty (line_of text m.place) (column_of text m.place) m.fault

unfoldable pub said : List ℕ → Ending Reader → Reading
said text e = judged text (contents e) (first (faults_of text e))

unfoldable pub read_tokens : List ℕ → List Token → Reading
read_tokens text ts = said text (ending_on (kinds_of ts) (words_of text ts))

unfoldable pub read_text : List ℕ → Reading
read_text text = read_tokens text (tokens text)

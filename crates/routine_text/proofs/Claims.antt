-- Claim 1 of 03, from the theorems about LL(1) grammars: of the grammar of routines nothing is used but that it passes the test.
use Prim.Native.Nat.{ℕ, zero, suc, ◌+◌, ◌≤◌}
use native.Mathlib.Omega.{arith}
use mathlib.Core.Path.{◌≡◌, refl, sym, ap, ◌∙◌, subst}
use mathlib.Core.Bool.{Bool, true, false, not, cond, false≢true}
use mathlib.Core.List.{List, [], ◌∷◌, ◌++◌, map, cons-ne-nil}
use mathlib.Core.Option.{Option, none, some}
use lib.Dec.{eqb, ltb}
use lib.ListN.{length, drop}
use borrow.Author.Tests.{ltb-false, lt-ltb, le-ltb, ne_eqb}
use Rattle.logic.specs.Search.{◌and◌, ◌or◌, from, any, all, select}
use Rattle.text.specs.Text.{is_digit}
use Rattle.grammar_theory.specs.Grammar.{Symbols, Kinds, Step, shift, act, Steps, Derives, empty, reading, acting, expanding, alternatives}
use Rattle.grammar_theory.specs.Machine.{predicted, Ending, accepted, stuck, unfinished, after}
use Rattle.grammar_theory.specs.LL1.{has, nullable, first, follow, rank, weight, height, vanish, begin, leading, weigh, lower, ◌implies◌, each, known, followed, fits_kind, fits_rule, fits, ll1, parse}
use Rattle.grammar_theory.specs.Claims.{plain, Any, Leaves, ended, Certain, Correct, LL1Correct}
use Rattle.grammar_theory.proofs.Correct.{ll1_correct}
use Rattle.routine_tokens.specs.declared.Token.{Token}
use Rattle.routine_tokens.specs.Tokens as lexical
use Rattle.routine_tokens.specs.Tokens.{line_of, column_of, tokens}
use Rattle.routine_text.specs.Builder.{Word, Fault, text_fault, limit_fault, Mark, Builder}
use Rattle.routine_text.specs.Grammar.{grammar, digits, predictions, facts}
use Rattle.routine_text.specs.Reading.{Reader, accepting, does, perform, kinds_of, words_of, ending_on, length_marks, place_of, marks_of, faults_of, Contents, contents_of, Reading, read, faulty, contents, judged, said, read_tokens, read_text}
use Rattle.routine_text.specs.Reading as reading_specs
use Rattle.routine_text.specs.Claims.{kinds, words, Grammatical, made, Outside, Faults, within, outside, First, FirstFault, Good, ReadingClaims}
use Rattle.routine_text.proofs.First.{first-none, first_some}

-- the grammar passes the LL(1) test
pub passes : ll1 grammar predictions facts 0 ≡ true
unfolding ◌and◌ ◌or◌ ◌implies◌ from any all is_digit alternatives predicted has nullable first follow rank weight height vanish begin leading weigh lower each known followed fits_kind fits_rule fits ll1 grammar digits predictions facts lexical.is_blank lexical.is_letter lexical.is_word_byte lexical.word_length lexical.opens_comment lexical.separates lexical.in_comment lexical.separators lexical.fits lexical.row_of lexical.reserved_kind lexical.digit_kind lexical.word_kind lexical.row_length lexical.token_of lexical.word_of lexical.sign_of lexical.token_at lexical.token_behind lexical.token_in
passes = refl

pub correct : Correct grammar predictions facts 0
unfolding LL1Correct
correct = ll1_correct grammar predictions facts 0 passes

-- no kind of a token before the end is that of the end
plain-select : (ks : Kinds) → plain (select (λ k. not (eqb k 0)) ks) ≡ true
unfolding plain all select ◌and◌
plain-select [] = refl
plain-select (zero ∷ ks) = plain-select ks
plain-select (suc k ∷ ks) = rw (ne_eqb (suc k) 0 (λ e. omega (arith, e))) (rw (lt-ltb 0 (suc k) (omega arith)) (plain-select ks))

plain-kinds : (text : List ℕ) → plain (kinds text) ≡ true
unfolding kinds_of
plain-kinds text = plain-select (map (λ (t : Token). t.kind) (tokens text))

-- how many tokens steps read
shifts : Steps → ℕ
shifts [] = 0
shifts (shift k ∷ ss) = suc (shifts ss)
shifts (act a ∷ ss) = shifts ss

shifts-append : (xs ys : Steps) → shifts (xs ++ ys) ≡ shifts xs + shifts ys
unfolding shifts
shifts-append [] ys = omega arith
shifts-append (shift k ∷ xs) ys = let h = shifts-append xs ys in omega (arith, h)
shifts-append (act a ∷ xs) ys = shifts-append xs ys

derives_shifts : {ss : Symbols} {ks : Kinds} {steps : Steps} → Derives grammar ss ks steps → shifts steps ≡ length ks
unfolding shifts
derives_shifts empty = refl
derives_shifts (reading d) = ap suc (derives_shifts d)
derives_shifts (acting d) = derives_shifts d
derives_shifts (expanding alternative m d) = derives_shifts d

length-append : (xs ys : Kinds) → length (xs ++ ys) ≡ length xs + length ys
length-append [] ys = omega arith
length-append (x ∷ xs) ys = let h = length-append xs ys in omega (arith, h)

-- the certain steps behind some tokens read these tokens
certain-shifts : {text : List ℕ} (o : Outside text) → shifts o.sure ≡ length o.passed
certain-shifts o =
    let (rest, steps, t) = o.begins in
    let (more, e, d) = o.certain.leaves.forth rest steps tt t in
    let a = derives_shifts t in
    let b = derives_shifts d in
    let c = ap shifts e ∙ shifts-append o.sure more in
    let n = length-append o.passed rest in
    omega (arith, a, b, c, n)

-- steps leave the words that they have not read
drop_next : (ws : List Word) (n : ℕ) (b : Builder) → drop n (accepting ws b).coming ≡ drop (suc n) ws
unfolding accepting
drop_next [] zero b = refl
drop_next [] (suc n) b = refl
drop_next (w ∷ ws) n b = refl

after_coming : (steps : Steps) (r : Reader) → (after does steps r).coming ≡ drop (shifts steps) r.coming
unfolding after does shifts
after_coming [] r = refl
after_coming (shift k ∷ ss) r = after_coming ss (accepting r.coming r.built) ∙ drop_next r.coming (shifts ss) r.built
after_coming (act a ∷ ss) r = after_coming ss (record { coming = r.coming; built = perform a r.built })

-- what is said of a text, and what is not
is_read : Reading → Bool
is_read (read c) = true
is_read (faulty line column f) = false

contents_in : Contents → Reading → Contents
contents_in d (read c) = c
contents_in d (faulty line column f) = d

line_in : Reading → ℕ
line_in (read c) = 0
line_in (faulty line column f) = line

column_in : Reading → ℕ
column_in (read c) = 0
column_in (faulty line column f) = column

fault_in : Reading → Fault
fault_in (read c) = text_fault
fault_in (faulty line column f) = f

judged-read : (text : List ℕ) (d c : Contents) (o : Option Mark) → judged text d o ≡ read c → (o ≡ none) × (d ≡ c)
unfolding judged is_read contents_in
judged-read text d c none h = (refl, ap (contents_in d) h)
judged-read text d c (some m) h = absurd (false≢true (ap is_read h))

-- the mark of which a fault is said
record Told (text : List ℕ) (o : Option Mark) (line column : ℕ) (fault : Fault) : Type 0 where
  mark : Mark
  marked : o ≡ some mark
  on_line : line ≡ line_of text mark.place
  in_column : column ≡ column_of text mark.place
  of_kind : fault ≡ mark.fault

judged_faulty : (text : List ℕ) (d : Contents) (o : Option Mark) (line column : ℕ) (f : Fault) → judged text d o ≡ faulty line column f → Told text o line column f
unfolding judged is_read line_in column_in fault_in
judged_faulty text d none line column f h = absurd (false≢true (sym (ap is_read h)))
judged_faulty text d (some m) line column f h =
    record { mark = m; marked = refl; on_line = sym (ap line_in h); in_column = sym (ap column_in h); of_kind = sym (ap fault_in h) }

append-empty : (xs ys : List Mark) → xs ++ ys ≡ [] → (xs ≡ []) × (ys ≡ [])
append-empty [] ys h = (refl, h)
append-empty (x ∷ xs) ys h = absurd (cons-ne-nil _ _ h)

-- "8,192 bytes"
within-length : (n : ℕ) → n ≤ 8192 → length_marks n ≡ []
unfolding length_marks
within-length n h = rw (le-ltb 8192 n h)

long_marked : (n : ℕ) (b : Bool) → ltb 8192 n ≡ b → length_marks n ≡ [] → n ≤ 8192
unfolding length_marks
long_marked n true e h = absurd (cons-ne-nil _ _ (sym (ap (λ (b : Bool). cond b (record { place = 8192; fault = limit_fault } ∷ []) []) e) ∙ h))
long_marked n false e h = ltb-false 8192 n e

length-within : (n : ℕ) → length_marks n ≡ [] → n ≤ 8192
length-within n h = long_marked n (ltb 8192 n) refl h

-- what is said of a text is what the machine's ending says
initial : List ℕ → Reader
initial text = record { coming = words text; built = reading_specs.empty }

ending_of : List ℕ → Ending Reader
ending_of text = parse does grammar predictions facts 0 (kinds text) (initial text)

said_ending : (text : List ℕ) → read_text text ≡ said text (ending_of text)
unfolding read_text read_tokens ending_on ending_of initial
said_ending text = refl

made_after : (text : List ℕ) (steps : Steps) → made text steps ≡ after does steps (initial text)
unfolding made initial
made_after text steps = refl

-- ACCEPTED. A text of the grammar is accepted with what its steps make.
grammatical_ending : (text : List ℕ) (steps : Steps) → Grammatical text steps → ending_of text ≡ accepted (made text steps)
unfolding ending_of
grammatical_ending text steps g =
    correct.text_accepted does (kinds text) steps (initial text) g ∙ ap accepted (sym (made_after text steps))

good_said : (text : List ℕ) (r : Reader) → length text ≤ 8192 → r.built.marks ≡ [] → said text (accepted r) ≡ read (contents_of r.built)
unfolding said faults_of marks_of contents judged reading_specs.first
good_said text r short unmarked =
    let e : length_marks (length text) ++ r.built.marks ≡ [] = ap (λ (ms : List Mark). ms ++ r.built.marks) (within-length (length text) short) ∙ unmarked in
    ap (λ (ms : List Mark). judged text (contents_of r.built) (reading_specs.first ms)) e

good_accepted : (text : List ℕ) (steps : Steps) → Good text steps → read_text text ≡ read (contents_of (made text steps).built)
good_accepted text steps g =
    said_ending text ∙ ap (said text) (grammatical_ending text steps g.grammatical) ∙ good_said text (made text steps) g.short g.unmarked

-- What is accepted is good.
said_read : (text : List ℕ) (e : Ending Reader) (c : Contents) → said text e ≡ read c →
    (length_marks (length text) ≡ []) × (marks_of e ≡ []) × (contents e ≡ c)
unfolding said faults_of
said_read text e c h =
    let (o, d) = judged-read text (contents e) c _ h in
    let (long, marks) = append-empty _ _ (first-none _ o) in
    (long, marks, d)

Accepted : List ℕ → Contents → Type 0
Accepted text c = (steps : Steps) × Good text steps × (c ≡ contents_of (made text steps).built)

accepted_from : (text : List ℕ) (c : Contents) (e : Ending Reader) → ending_of text ≡ e → said text e ≡ read c → Accepted text c
unfolding marks_of contents ending_of Accepted
accepted_from text c (accepted r) q h =
    let (long, marks, d) = said_read text (accepted r) c h in
    let (steps, g, m) = correct.accepted_text does (kinds text) (initial text) r (plain-kinds text) q in
    let same : r ≡ made text steps = m ∙ sym (made_after text steps) in (
      steps,
      record {
        grammatical = g;
        short = length-within (length text) long;
        unmarked = ap (λ (x : Reader). x.built.marks) (sym same) ∙ marks;
      },
      sym d ∙ ap (λ (x : Reader). contents_of x.built) same,
    )
accepted_from text c (stuck left r) q h = absurd (cons-ne-nil _ _ (said_read text (stuck left r) c h).1)
accepted_from text c unfinished q h = absurd (cons-ne-nil _ _ (said_read text unfinished c h).1)

accepted_good : (text : List ℕ) (c : Contents) → read_text text ≡ read c → Accepted text c
accepted_good text c h = accepted_from text c (ending_of text) refl (sym (said_ending text) ∙ h)

-- THE FIRST FAULT.
never_unfinished : (text : List ℕ) → ending_of text ≡ unfinished → ⊥
unfolding ending_of ended
never_unfinished text q = false≢true (sym (ap ended q) ∙ correct.parse_ended does (kinds text) (initial text))

outside_at : (text : List ℕ) (left : Kinds) (r : Reader) → ending_of text ≡ stuck left r → (o : Outside text) × (r ≡ made text o.sure)
unfolding ending_of
outside_at text left r q =
    let f = correct.stuck_fault does (kinds text) left (initial text) r (plain-kinds text) q in (
      record {
        passed = f.read;
        left = left;
        split = f.split;
        begins = f.begins;
        refused = f.refused;
        sure = f.steps;
        certain = f.certain;
      },
      f.made ∙ sym (made_after text f.steps),
    )

stuck_place : (text : List ℕ) (o : Outside text) → place_of (made text o.sure).coming ≡ place_of (drop (length o.passed) (words text))
unfolding initial
stuck_place text o =
    let steps = o.sure in
    ap (λ (r : Reader). place_of r.coming) (made_after text steps)
    ∙ ap place_of (after_coming steps (initial text) ∙ ap (λ (n : ℕ). drop n (words text)) (certain-shifts o))

-- what is marked at an ending are the faults of the text
ending_faults : (text : List ℕ) (e : Ending Reader) → ending_of text ≡ e → Faults text (faults_of text e)
unfolding faults_of marks_of ending_of
ending_faults text (accepted r) q =
    let (steps, g, m) = correct.accepted_text does (kinds text) (initial text) r (plain-kinds text) q in
    let same : made text steps ≡ r = made_after text steps ∙ sym m in
    subst (λ (x : Reader). Faults text (length_marks (length text) ++ x.built.marks)) same (within steps g)
ending_faults text (stuck left r) q =
    let (o, e) = outside_at text left r q in
    let marked : ℕ → Reader → List Mark =
    λ p x. length_marks (length text) ++ (record { place = p; fault = text_fault } ∷ x.built.marks) in
    let placed = subst (λ (p : ℕ). Faults text (marked p (made text o.sure))) (sym (stuck_place text o)) (outside o) in
    subst (λ (x : Reader). Faults text (marked (place_of x.coming) x)) (sym e) placed
ending_faults text unfinished q = absurd (never_unfinished text q)

first_given : (text : List ℕ) (line column : ℕ) (fault : Fault) → read_text text ≡ faulty line column fault → FirstFault text line column fault
unfolding said
first_given text line column fault h =
    let e = ending_of text in
    let t = judged_faulty text (contents e) (reading_specs.first (faults_of text e)) line column fault (sym (said_ending text) ∙ h) in
    record {
      marks = faults_of text e;
      of_text = ending_faults text e refl;
      mark = t.mark;
      is_first = first_some (faults_of text e) t.mark t.marked;
      on_line = t.on_line;
      in_column = t.in_column;
      of_kind = t.of_kind;
    }

pub reading_claims : ReadingClaims
unfolding Accepted
reading_claims =
    record {
      good_accepted = good_accepted;
      accepted_good = accepted_good;
      one_reading = λ text. correct.text_unique (kinds text);
      first_given = first_given;
    }

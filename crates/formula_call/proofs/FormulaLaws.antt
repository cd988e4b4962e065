-- What the formula call does, step by step.
use Prim.Native.Nat.{ℕ, zero, suc, ◌+◌, ◌-◌, ◌*◌, ◌≤◌, ◌<◌}
use native.Mathlib.Omega.{arith}
use native.Mathlib.Numerals.{add-one}
use mathlib.Core.Path.{◌≡◌, refl, sym, ap, ◌∙◌, subst, fun_ext}
use mathlib.Core.Logic.{⊎_elim}
use mathlib.Core.Bool.{Bool, true, false, cond}
use mathlib.Core.List.{List, [], ◌∷◌}
use mathlib.Core.Option.{none, some, Option-elim}
use lib.ListN.{length, get_or, take, drop, replicate, get_or-replicate, drop_of_length-le, length-drop}
use lib.Seq.{drop-cons}
use lib.Dec.{ltb, leb}
use borrow.Author.Tests.{lt-ltb, le-ltb, ltb-true, ltb-false, leb-true}
use Rattle.logic.specs.Search.{◌and◌, ◌or◌}
use Rattle.logic.specs.Query.{decode, is_order}
use Rattle.logic.specs.Calls.{Input, verdict_checks, query_checks, refusal_of, refused, verdict_call}
use Rattle.logic.specs.Calls as calls
use Rattle.theory.proofs.Basics.Search.{bool_cases, true-false, and_right}
use Rattle.theory.proofs.Calls.Refusals.{one_link_laws}
use Rattle.theory.proofs.Calls.VerdictCall.{VerdictCase, by_refusal, by_lines, by_model, verdict_case}
use Rattle.text.proofs.Writing.{writes_taken}
use Rattle.query.specs.LaysOut.{LaysOut, literal_in}
use Rattle.query_checks.specs.Answers.{CheckedAs}
use Rattle.query.specs.declared.Layout.{Layout}
use Rattle.query.proofs.Literals.{listed-length, equalities-listed, reachability-listed, fields-listed}
use Rattle.formula.specs.Grammar.{Letter, E, R, D, B, Formula, literal, both, either, disjunction}
use Rattle.formula.specs.Expansion.{Conjunction, expand}
use Rattle.formula.specs.Meaning.{names, present, AllPresent, restricted}
use Rattle.formula.specs.Reader.{Reading, read_text, read, and_then, ended, calls}
use Rattle.formula.specs.Reader as reader
use Rattle.encoding.specs.QueryBytes.{encode}
use Rattle.formula.specs.Call.{query_of, verdict_on, is_satisfiable, first_of, decided, after_reading, text_outcome, as_refusal, formula_call}
use Rattle.formula.specs.Call as formula
use Rattle.formula.proofs.Reading.{As, reads_as}
use Rattle.formula_reader.specs.Tree.{letter_code, conjunctions, has, Tree}
use Rattle.formula_reader.specs.Marked.{marked, Marks, fits, Picks}
use Rattle.formula_reader.proofs.Laws.{cap_low, cap_high}
use Rattle.formula_reader.proofs.Trees.{tree_count}
use Rattle.formula_query.specs.Kept.{PutsQuery}
use Rattle.std.specs.Prelude.{Ok, Err}
use Rattle.refusals.specs.declared.Refusal.{Refusal}
use Rattle.refusals.specs.Numbers.{number_of}
use Rattle.prover.specs.Promise.{meaning, input_of, Does}
use Rattle.formula_call.specs.FormulaPromise.{formula_input, DoesFormula, Formulas}
use Rattle.prover.specs.declared.Answer.{Answer}
use Rattle.formula_call.specs.declared.FormulaAnswer.{FormulaAnswer}
use Rattle.formula_call.specs.declared.FormulaAnswer.TheVariants as answer
use Rattle.prover.proofs.Checks.{order_refused, query_refused, room_refused, verdict_clear}

-- One conjunction

or-false : (b : Bool) → false or b ≡ b
or-false b = unfold ◌or◌ in refl

pub fresh_marks : (c : Conjunction) (after : List Bool) → Marks (replicate 256 false) c after → (l : Letter) (n : ℕ) → n < 64 → marked after l n ≡ names c l n
fresh_marks c after h l n k = h l n k ∙ ap (λ (b : Bool). b or names c l n) (unmarked (code_bound l)) ∙ or-false (names c l n)
  where
    code_bound : (x : Letter) → letter_code x ≤ 3
    code_bound E = unfold letter_code in omega arith
    code_bound R = unfold letter_code in omega arith
    code_bound D = unfold letter_code in omega arith
    code_bound B = unfold letter_code in omega arith

    unmarked : letter_code l ≤ 3 → get_or (replicate 256 false) (64 * letter_code l + n) false ≡ false
    unmarked b = get_or-replicate 256 (64 * letter_code l + n) false false (omega arith)

pub one_decided : (order query nodes before blank sub bytes : List ℕ) (root k end : ℕ) (marks : List Bool) (r : Answer) (f : Formula) →
    Marks (replicate 256 false) (get_or (expand f) k []) marks → PutsQuery query marks blank sub end → end ≤ length blank →
    Does (verdict_call (input_of order (take end sub) before)) r bytes →
    Does (verdict_call (record { order = order; query = encode (restricted (decode query) (get_or (expand f) k [])); room = length before })) r bytes
one_decided order query nodes before blank sub bytes root k end marks r f m p l d =
    subst (λ (q : List ℕ). Does (verdict_call (record { order = order; query = q; room = length before })) r bytes)
    (writes_taken (p (get_or (expand f) k []) (fresh_marks (get_or (expand f) k []) marks m)) l) d

-- the report is blank where a query is not satisfiable
pub unsatisfiable_blank : (i : Input) (r : Answer) (bytes : List ℕ) → Does (verdict_call i) r bytes → is_satisfiable (meaning r) ≡ false → bytes ≡ replicate i.room 0
unsatisfiable_blank i r bytes d h = d.leaves ∙ by (verdict_case calls.one_link_form one_link_laws i)
  where
    sat : is_satisfiable (verdict_call i).answer ≡ false
    sat = ap is_satisfiable (sym d.answers) ∙ h

    yes : is_satisfiable calls.satisfiable ≡ true
    yes = unfold is_satisfiable in refl

    by : VerdictCase calls.one_link_form one_link_laws i (verdict_call i) → (verdict_call i).lent ≡ replicate i.room 0
    by (by_refusal k place l e) = ap (λ (o : calls.Outcome). o.lent) e ∙ (unfold calls.blank in refl)
    by (by_lines ls w e n) = ap (λ (o : calls.Outcome). o.lent) e ∙ (unfold calls.blank in refl)
    by (by_model s w e n) = absurd (true-false (ap (λ (o : calls.Outcome). is_satisfiable o.answer) e ∙ yes) sat)

-- Each in its turn

module _ (order query text before : List ℕ) where
  abbrev i : formula.Input
  i = formula_input order query text before

  abbrev verdict_at : Conjunction → calls.Outcome
  verdict_at c = verdict_call (record { order = order; query = encode (restricted (decode query) c); room = length before })

  on_is : (c : Conjunction) → verdict_on i c ≡ verdict_at c
  on_is c = unfold verdict_on query_of in refl

  first_cons : (n : ℕ) (c : Conjunction) (cs : List Conjunction) →
      first_of i n (c ∷ cs) ≡ cond (is_satisfiable (verdict_at c).answer) (record { answer = formula.conjunction n; lent = (verdict_at c).lent }) (first_of i (suc n) cs)
  first_cons n c cs = unfold first_of in rw (on_is c) refl

  first_nil : (n : ℕ) → first_of i n [] ≡ record { answer = formula.refuted; lent = replicate (length before) 0 }
  first_nil n = unfold first_of formula.blank in refl

  module _ (f : Formula) (k : ℕ) (h : k < length (expand f)) where
    conjunction_next : drop k (expand f) ≡ get_or (expand f) k [] ∷ drop (k + 1) (expand f)
    conjunction_next = rw add-one (drop-cons (expand f) k [] h)

    at_turn : first_of i (k + 1) (drop k (expand f)) ≡ cond (is_satisfiable (verdict_at (get_or (expand f) k [])).answer)
        (record { answer = formula.conjunction (k + 1); lent = (verdict_at (get_or (expand f) k [])).lent }) (first_of i (suc (k + 1)) (drop (k + 1) (expand f)))
    at_turn = ap (first_of i (k + 1)) conjunction_next ∙ first_cons (k + 1) (get_or (expand f) k []) (drop (k + 1) (expand f))

    pub turn_passed : (r : Answer) (bytes : List ℕ) → Does (verdict_at (get_or (expand f) k [])) r bytes → is_satisfiable (meaning r) ≡ false →
        first_of i (k + 1) (drop k (expand f)) ≡ first_of i (k + 1 + 1) (drop (k + 1) (expand f))
    turn_passed r bytes d s = at_turn
        ∙ ap (λ (b : Bool). cond b (record { answer = formula.conjunction (k + 1); lent = (verdict_at (get_or (expand f) k [])).lent })
        (first_of i (suc (k + 1)) (drop (k + 1) (expand f)))) (ap is_satisfiable (sym d.answers) ∙ s)
        ∙ ap (λ (n : ℕ). first_of i n (drop (k + 1) (expand f))) (sym (add-one (k + 1)))

    pub turn_taken : (r : Answer) (bytes : List ℕ) → Does (verdict_at (get_or (expand f) k [])) r bytes → is_satisfiable (meaning r) ≡ true →
        first_of i 1 (expand f) ≡ first_of i (k + 1) (drop k (expand f)) → DoesFormula (first_of i 1 (expand f)) (answer.Conjunction (k + 1)) bytes
    turn_taken r bytes d s e =
        subst (λ (o : formula.Outcome). DoesFormula o (answer.Conjunction (k + 1)) bytes)
        (sym (e ∙ at_turn ∙ ap (λ (b : Bool). cond b (record { answer = formula.conjunction (k + 1); lent = (verdict_at (get_or (expand f) k [])).lent })
        (first_of i (suc (k + 1)) (drop (k + 1) (expand f)))) (ap is_satisfiable (sym d.answers) ∙ s)))
        (record { answers = refl; leaves = d.leaves })

  pub turns_over : (f : Formula) (k : ℕ) (bytes : List ℕ) → length (expand f) ≤ k → bytes ≡ replicate (length before) 0 →
      first_of i 1 (expand f) ≡ first_of i (k + 1) (drop k (expand f)) → DoesFormula (first_of i 1 (expand f)) answer.Refuted bytes
  turns_over f k bytes h b e =
      subst (λ (o : formula.Outcome). DoesFormula o answer.Refuted bytes)
      (sym (e ∙ ap (first_of i (k + 1)) (drop_of_length-le (expand f) h) ∙ first_nil (k + 1))) (record { answers = refl; leaves = b })

pub picks_at : {nodes : List ℕ} {root count k : ℕ} {f : Formula} → Formulas nodes root count f → k < count → Picks nodes root k f
picks_at {k = k} g h = record { tree = g.tree; marks_fit = g.marks_fit; few = subst (λ (n : ℕ). n ≤ 64) g.counted g.few; below = subst (λ (n : ℕ). k < n) g.counted h; placed = g.placed }

-- The literals that the query has

has_same : (layout : Layout) (query : List ℕ) → LaysOut layout query → (l : Letter) (n : ℕ) →
    has (layout.equal_count ∷ layout.reach_count ∷ layout.field_count ∷ 0 ∷ []) l n ≡ present (decode query) l n
has_same layout query laid E n = unfold has present letter_code in
    ap (λ (m : ℕ). leb 1 n and leb n m)
    (sym (ap length (equalities-listed layout query laid) ∙ listed-length (literal_in query layout.equal_at) layout.equal_count))
has_same layout query laid R n = unfold has present letter_code in
    ap (λ (m : ℕ). leb 1 n and leb n m)
    (sym (ap length (reachability-listed layout query laid) ∙ listed-length (literal_in query layout.reach_at) layout.reach_count))
has_same layout query laid D n = unfold has present letter_code in
    ap (λ (m : ℕ). leb 1 n and leb n m) (sym (ap length (fields-listed layout query laid) ∙ listed-length (literal_in query layout.field_at) layout.field_count))
has_same layout query laid B n = unfold has present letter_code in refl

pub has-present : (layout : Layout) (query : List ℕ) → LaysOut layout query → has (layout.equal_count ∷ layout.reach_count ∷ layout.field_count ∷ 0 ∷ []) ≡ present (decode query)
has-present layout query laid = fun_ext (λ l. fun_ext (λ n. has_same layout query laid l n))

pub counts_small : (layout : Layout) (query : List ℕ) → LaysOut layout query → (j : ℕ) → get_or (layout.equal_count ∷ layout.reach_count ∷ layout.field_count ∷ 0 ∷ []) j 0 ≤ 60
counts_small layout query laid zero = laid.equal_within
counts_small layout query laid (suc zero) = laid.reach_within
counts_small layout query laid (suc (suc zero)) = laid.field_within
counts_small layout query laid (suc (suc (suc zero))) = omega arith
counts_small layout query laid (suc (suc (suc (suc j)))) = omega arith

-- A text

module _ (order query text before bytes : List ℕ) where
  abbrev given : formula.Input
  given = formula_input order query text before

  abbrev found : Reading
  found = read_text (present (decode query)) 32 text

  blank_does : (k place : ℕ) → bytes ≡ replicate (length before) 0 → DoesFormula (formula.blank (length before) (formula.refused k place)) (answer.Refused k place) bytes
  blank_does k place b = record { answers = unfold formula.blank in refl; leaves = b ∙ (unfold formula.blank in refl) }

  pub text_long : 512 < length text → bytes ≡ replicate (length before) 0 → DoesFormula (text_outcome given) (answer.Refused 17 512) bytes
  text_long h b = subst (λ (o : formula.Outcome). DoesFormula o (answer.Refused 17 512) bytes) (sym outcome) (blank_does 17 512 b)
    where
      outcome : text_outcome given ≡ formula.blank (length before) (formula.refused 17 512)
      outcome = unfold text_outcome in rw (lt-ltb 512 (length text) h) refl

  module _ (h : length text ≤ 512) where
    read-outcome : text_outcome given ≡ after_reading given found
    read-outcome = unfold text_outcome in rw (le-ltb 512 (length text) h) refl

    pub text_refused : (k place : ℕ) → place ≤ length text → found ≡ reader.refused k (drop place text) → bytes ≡ replicate (length before) 0 →
        DoesFormula (text_outcome given) (answer.Refused k place) bytes
    text_refused k place l e b = subst (λ (o : formula.Outcome). DoesFormula o (answer.Refused k place) bytes) (sym (read-outcome ∙ ap (after_reading given) e ∙ outcome)) (blank_does k place b)
      where
        outcome : after_reading given (reader.refused k (drop place text)) ≡ formula.blank (length before) (formula.refused k place)
        outcome = unfold after_reading in
            ap (λ (p : ℕ). formula.blank (length before) (formula.refused k p))
            (let d : length (drop place text) ≡ length text - place = length-drop place text in omega arith)

    module _ (f : Formula) (rest : List ℕ) (e : found ≡ reader.done f rest) where
      decided-outcome : text_outcome given ≡ decided given f
      decided-outcome = read-outcome ∙ ap (after_reading given) e ∙ (unfold after_reading in refl)

      pub text_many : 64 < length (expand f) → bytes ≡ replicate (length before) 0 → DoesFormula (text_outcome given) (answer.Refused 19 0) bytes
      text_many l b = subst (λ (o : formula.Outcome). DoesFormula o (answer.Refused 19 0) bytes) (sym (decided-outcome ∙ outcome)) (blank_does 19 0 b)
        where
          outcome : decided given f ≡ formula.blank (length before) (formula.refused 19 0)
          outcome = unfold decided in rw (lt-ltb 64 (length (expand f)) l) refl

      pub text-decided : (r : FormulaAnswer) → length (expand f) ≤ 64 → DoesFormula (first_of given 1 (expand f)) r bytes → DoesFormula (text_outcome given) r bytes
      text-decided r l d = subst (λ (o : formula.Outcome). DoesFormula o r bytes) (sym (decided-outcome ∙ outcome)) d
        where
          outcome : decided given f ≡ first_of given 1 (expand f)
          outcome = unfold decided in rw (le-ltb 64 (length (expand f)) l) refl

  -- The whole call

  pub call_refused : (k place : ℕ) → refusal_of verdict_checks (record { order = order; query = query; room = length before }) ≡ some
      (refused k place) → bytes ≡ replicate (length before) 0 → DoesFormula (formula_call given) (answer.Refused k place) bytes
  call_refused k place e b = subst (λ (o : formula.Outcome). DoesFormula o (answer.Refused k place) bytes) (sym outcome) (blank_does k place b)
    where
      outcome : formula_call given ≡ formula.blank (length before) (formula.refused k place)
      outcome = unfold formula_call Option-elim in rw e (unfold as_refusal in refl)

  pub call_text : (r : FormulaAnswer) → refusal_of verdict_checks (record { order = order; query = query; room = length before }) ≡ none →
      DoesFormula (text_outcome given) r bytes → DoesFormula (formula_call given) r bytes
  call_text r e d = subst (λ (o : formula.Outcome). DoesFormula o r bytes) (sym outcome) d
    where
      outcome : formula_call given ≡ text_outcome given
      outcome = unfold formula_call Option-elim in rw e refl

  pub formula-order : is_order order ≡ false → bytes ≡ replicate (length before) 0 → DoesFormula (formula_call given) (answer.Refused 1 0) bytes
  formula-order o b = call_refused 1 0 (unfold calls.verdict_checks_of in order_refused (record { order = order; query = query; room = length before }) _ o) b

  pub formula-query : (e : Refusal) → is_order order ≡ true → CheckedAs (Err e) query → bytes ≡ replicate (length before) 0 →
      DoesFormula (formula_call given) (answer.Refused (number_of e.fault) e.place) bytes
  formula-query e o h b = call_refused (number_of e.fault) e.place (unfold calls.verdict_checks_of in
      query_refused (record { order = order; query = query; room = length before }) calls.query_checks _ (refused (number_of e.fault) e.place) o
      (h (record { order = order; query = query; room = length before }) refl)) b

  pub formula-room : (l : Layout) → is_order order ≡ true → CheckedAs (Ok l) query → length before < 53 →
      bytes ≡ replicate (length before) 0 → DoesFormula (formula_call given) (answer.Refused 9 0) bytes
  formula-room l o h r b = call_refused 9 0
      (room_refused (record { order = order; query = query; room = length before }) calls.one_link_form o
      (h.0 (record { order = order; query = query; room = length before }) refl) r) b

  pub formula-text : (l : Layout) (r : FormulaAnswer) → is_order order ≡ true → CheckedAs (Ok l) query → 53 ≤ length before →
      DoesFormula (text_outcome given) r bytes → DoesFormula (formula_call given) r bytes
  formula-text l r o h k d = call_text r
      (verdict_clear (record { order = order; query = query; room = length before }) calls.one_link_form o
      (h.0 (record { order = order; query = query; room = length before }) refl) k) d

-- The formula that is read, as the code holds it

has_bound : (counts : List ℕ) (l : Letter) (n : ℕ) → has counts l n ≡ true → n ≤ get_or counts (letter_code l) 0
unfolding has
has_bound counts l n h = leb-true n _ (and_right _ _ h)

all_fit : (counts : List ℕ) → ((j : ℕ) → get_or counts j 0 ≤ 60) → (f : Formula) → AllPresent (has counts) f → AllPresent fits f
unfolding AllPresent
all_fit counts h (literal l n) a = lt-ltb n 64 (let x : n ≤ get_or counts (letter_code l) 0 = has_bound counts l n a in let y : get_or counts (letter_code l) 0 ≤ 60 = h (letter_code l) in omega arith)
all_fit counts h (both f g) (a, b) = (all_fit counts h f a, all_fit counts h g b)
all_fit counts h (either f g) (a, b) = (all_fit counts h f a, all_fit counts h g b)

pub read-present : (counts text : List ℕ) (f : Formula) (rest : List ℕ) → read_text (has counts) 32 text ≡ reader.done f rest → AllPresent (has counts) f
read-present counts text f rest e = by (read (has counts) (calls disjunction (length text)) disjunction 32 text) (unfold read_text in
    e) (reads_as (has counts) 32 (calls disjunction (length text)) disjunction 0 32 (omega arith) text (omega arith))
  where
    by : (r : Reading) → and_then r ended ≡ reader.done f rest → As (has counts) 32 disjunction 0 text r → AllPresent (has counts) f
    by (reader.refused k s) x a = absurd (not_done (unfold and_then in x))
      where
        not_done : reader.refused k s ≡ reader.done f rest → ⊥
        not_done y = let z : ◌≡◌ {A = ℕ} 0 1 = cc in omega arith
    by (reader.done g []) x a = subst (AllPresent (has counts)) (formulas (unfold and_then ended in x)) a.there
      where
        formulas : reader.done g [] ≡ reader.done f rest → g ≡ f
        formulas y = cc
    by (reader.done g (b ∷ s)) x a = absurd (not_done (unfold and_then ended in x))
      where
        not_done : reader.refused 17 (b ∷ s) ≡ reader.done f rest → ⊥
        not_done y = let z : ◌≡◌ {A = ℕ} 0 1 = cc in omega arith

pub formula_stands : (counts text nodes : List ℕ) (root count : ℕ) (f : Formula) (rest : List ℕ) → ((j : ℕ) → get_or counts j 0 ≤ 60) →
    read_text (has counts) 32 text ≡ reader.done f rest → Tree nodes root f → root < 512 → count ≡ get_or nodes (4 * root + 3) 0 → count ≤ 64 → Formulas nodes root count f
formula_stands counts text nodes root count f rest h e t r c l = record
    { tree = t; marks_fit = all_fit counts h f (read-present counts text f rest e); counted = c ∙ few_is t c l; few = l; placed = r }
  where
    few_is : Tree nodes root f → count ≡ get_or nodes (4 * root + 3) 0 → count ≤ 64 → get_or nodes (4 * root + 3) 0 ≡ length (expand f)
    few_is t c l = ⊎_elim (λ (k : ltb 64 (length (expand f)) ≡ true). absurd (let x : get_or nodes (4 * root + 3) 0 ≡ 65 = tree_count t ∙ many (ltb-true _ _ k) in
        omega arith)) (λ k. tree_count t ∙ some_few (ltb-false _ _ k)) (bool_cases (ltb 64 (length (expand f))))
      where
        many : 64 < length (expand f) → conjunctions f ≡ 65
        many m = unfold conjunctions in cap_high (length (expand f)) m

        some_few : length (expand f) ≤ 64 → conjunctions f ≡ length (expand f)
        some_few m = unfold conjunctions in cap_low (length (expand f)) m

pub formula_many : (nodes : List ℕ) (root count : ℕ) (f : Formula) → Tree nodes root f → count ≡ get_or nodes (4 * root + 3) 0 → 64 < count → 64 < length (expand f)
formula_many nodes root count f t c l = ⊎_elim (λ (k : ltb 64 (length (expand f)) ≡ true). ltb-true _ _ k)
    (λ k. absurd (let x : get_or nodes (4 * root + 3) 0 ≡ length (expand f) = tree_count t ∙ few (ltb-false _ _ k) in
    let m : length (expand f) ≤ 64 = ltb-false _ _ k in
    omega arith)) (bool_cases (ltb 64 (length (expand f))))
  where
    few : length (expand f) ≤ 64 → conjunctions f ≡ length (expand f)
    few m = unfold conjunctions in cap_low (length (expand f)) m

-- the room alone counts of the lent bytes
pub text-room : (order query text cleared before bytes : List ℕ) (r : FormulaAnswer) → length cleared ≡ length before →
    DoesFormula (text_outcome (formula_input order query text cleared)) r bytes → DoesFormula (text_outcome (formula_input order query text before)) r bytes
text-room order query text cleared before bytes r e d = subst (λ (n : ℕ). DoesFormula (text_outcome (record { order = order; query = query; text = text; room = n })) r bytes) e d

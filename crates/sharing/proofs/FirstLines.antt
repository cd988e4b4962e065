-- A query's line and what heapverdict prints. Assumes nothing.
use Prim.Native.Nat.{ℕ, ◌+◌, ◌≤◌}
use native.Mathlib.Omega.{arith}
use mathlib.Core.Path.{◌≡◌, refl, sym, ap, ◌∙◌}
use mathlib.Core.Bool.{Bool, true, cond}
use mathlib.Core.List.{List, [], ◌∷◌, ◌++◌, append_assoc}
use lib.ListN.{length, take, drop, length-append}
use lib.Seq.{take_all, take_at, drop_at}
use lib.Dec.{ltb, leb}
use borrow.Author.Tests.{lt-ltb, leb-true, ltb-true, ne_eqb}
use Rattle.logic.specs.Search.{◌and◌, all, flat_map}
use Rattle.logic.specs.Calls.{Answer, Outcome, Input, one_link_form, refused, satisfiable, refuted, blank, verdict_of, verdict_call, derivation_call}
use Rattle.theory.proofs.Basics.Search.{and_left, and_right, and_intro}
use Rattle.theory.proofs.Calls.CallLaws.{verdict_clear, alike_clear}
use Rattle.theory.proofs.Calls.Refusals.{one_link_laws}
use Rattle.theory.proofs.Calls.VerdictCall.{verdict_at, verdict_of_lem}
use Rattle.theory.proofs.Calls.Demands.{demand1}
use Rattle.text.specs.Text.{ascii, decimal, is_digit}
use Rattle.text.proofs.Pinned.{decimal_digits}
use Rattle.wording.specs.Words.{refused_text, line_text}
use Rattle.printing.specs.HeapverdictText.{answer_text, first_line, derivation_text, verdict_text, unsat_text, text_of, text_by, heapverdict_text}
use Rattle.fnv.specs.Mark.{mark_of}
use Rattle.tally.specs.Counting.{tallied, fits}
use Rattle.tally.proofs.Counts.{raised_nothing}
use Rattle.sharing.specs.Output.{lines_of, answer_of, written_lines, query_line, hex_word}
use Rattle.sharing.specs.TurnClaims.{first_line_in, asked, LineClaims}

-- The words of an answer have no newline: their bytes are above it.
unfoldable above : ℕ → Bool
above c = ltb 10 c

all_append : (xs ys : List ℕ) → all above xs ≡ true → all above ys ≡ true → all above (xs ++ ys) ≡ true
unfolding all
all_append [] ys h e = e
all_append (x ∷ xs) ys h e = and_intro (and_left (above x) _ h) (all_append xs ys (and_right (above x) _ h) e)

digits_above : (xs : List ℕ) → all is_digit xs ≡ true → all above xs ≡ true
unfolding all above is_digit
digits_above [] h = refl
digits_above (x ∷ xs) h =
    let d : 48 ≤ x = leb-true 48 x (and_left (leb 48 x) _ (and_left (is_digit x) _ h)) in
    and_intro (lt-ltb 10 x (omega arith)) (digits_above xs (and_right (is_digit x) _ h))

decimal-above : (k : ℕ) → all above (decimal k) ≡ true
decimal-above k = digits_above (decimal k) (decimal_digits k)

answer-above : (a : Answer) → all above (answer_text a) ≡ true
unfolding answer_text refused_text all above ◌and◌
answer-above satisfiable = refl
answer-above refuted = refl
answer-above (refused k place) =
    let at : List ℕ = ascii " at " ++ decimal place in
    all_append (ascii "refused ") (decimal k ++ at) refl (all_append (decimal k) at (decimal-above k) (all_append (ascii " at ") (decimal place) refl (decimal-above place)))

line_before : (xs ys : List ℕ) → all above xs ≡ true → first_line_in (xs ++ (10 ∷ ys)) ≡ xs
unfolding first_line_in all above
line_before [] ys h = refl
line_before (x ∷ xs) ys h =
    let l = ltb-true 10 x (and_left (ltb 10 x) _ h) in
    ap (λ (b : Bool). cond b [] (x ∷ first_line_in (xs ++ (10 ∷ ys)))) (ne_eqb x 10 (λ e. omega arith))
    ∙ ap (λ (zs : List ℕ). x ∷ zs) (line_before xs ys (and_right (ltb 10 x) _ h))

-- what is printed begins with the answer's words
first_words : (a : Answer) (bytes derivation : List ℕ) → first_line_in (verdict_text a bytes derivation) ≡ answer_text a
unfolding verdict_text first_line
first_words satisfiable bytes derivation = ap first_line_in (append_assoc (answer_text satisfiable) (ascii "\n") _) ∙ line_before (answer_text satisfiable) _ (answer-above satisfiable)
first_words refuted bytes derivation = ap first_line_in (append_assoc (answer_text refuted) (ascii "\n") derivation) ∙ line_before (answer_text refuted) derivation (answer-above refuted)
first_words (refused k place) bytes derivation = line_before (answer_text (refused k place)) [] (answer-above (refused k place))

module _ (order query : List ℕ) where
  abbrev reported : Input
  reported = record { order = order; query = query; room = 53 }

  -- the bytes that are read are the order list and the query
  read_whole : length order ≡ 8 → length query ≤ 681 → heapverdict_text (order ++ query) ≡ text_of one_link_form order query
  unfolding text_by
  read_whole o h =
      let w : take 1024 (order ++ query) ≡ order ++ query = take_all 1024 (order ++ query) (omega (arith, length-append order query)) in
      ap (λ (l : List ℕ). text_of one_link_form (take 8 l) (drop 8 l)) w
      ∙ ap (λ (l : List ℕ). text_of one_link_form l (drop 8 (order ++ query))) (take_at order query 8 o)
      ∙ ap (text_of one_link_form order) (drop_at order query 8 o)

  answer-words : length order ≡ 8 → length query ≤ 681 → first_line_in (heapverdict_text (order ++ query)) ≡ answer_text (answer_of order query)
  unfolding answer_of text_of
  answer-words o h = ap first_line_in (read_whole o h) ∙ first_words (verdict_call reported).answer (verdict_call reported).lent (unsat_text one_link_form order query)

  -- where a derivation is written, the verdict is `unsat`
  module _ (d : (derivation_call (asked order query)).answer ≡ refuted) where
    verdict_refuted : (verdict_call reported).answer ≡ refuted
    unfolding verdict_of blank
    verdict_refuted =
        let (n, (ls, w, z)) = (demand1.lines_exactly (asked order query)).0 d in
        let clear = verdict_clear one_link_form one_link_laws reported (alike_clear one_link_form one_link_laws (asked order query) reported (refl, refl) n) (omega arith) in
        ap (λ (o : Outcome). o.answer) (verdict_of_lem one_link_form one_link_laws reported clear ∙ ap (verdict_at one_link_form one_link_laws reported) w)

    lines_shown : unsat_text one_link_form order query ≡ flat_map line_text (written_lines order query)
    unfolding unsat_text derivation_text written_lines lines_of
    lines_shown = ap (λ (a : Answer). derivation_text a (derivation_call (asked order query)).lent) d
        ∙ ap (λ (a : Answer). flat_map line_text (lines_of a (derivation_call (asked order query)).lent)) (sym d)

    lines_written : length order ≡ 8 → length query ≤ 681 → heapverdict_text (order ++ query) ≡ ascii "unsat\n" ++ flat_map line_text (written_lines order query)
    unfolding text_of verdict_text first_line answer_text
    lines_written o h =
        read_whole o h
        ∙ ap (λ (a : Answer). verdict_text a (verdict_call reported).lent (unsat_text one_link_form order query)) verdict_refuted
        ∙ ap (λ (text : List ℕ). ascii "unsat\n" ++ text) lines_shown

  none_written : (k place : ℕ) → (derivation_call (asked order query)).answer ≡ refused k place → written_lines order query ≡ []
  unfolding written_lines lines_of
  none_written k place d = ap (λ (a : Answer). lines_of a (derivation_call (asked order query)).lent) d

first_line_lem : (order query : List ℕ) → length order ≡ 8 → length query ≤ 681
    → query_line order query
    ≡ hex_word (mark_of query) ++ (ascii " " ++ (first_line_in (heapverdict_text (order ++ query)) ++ (ascii " " ++ (decimal (length (written_lines order query)) ++ ascii "\n"))))
unfolding query_line
first_line_lem order query o h =
    ap (λ (words : List ℕ). hex_word (mark_of query) ++ (ascii " " ++ (words ++ (ascii " " ++ (decimal (length (written_lines order query)) ++ ascii "\n"))))) (sym (answer-words order query o h))

same_either : (b : Bool) (xs : List ℕ) → cond b xs xs ≡ xs
same_either true xs = refl
same_either Bool.false xs = refl

none_tallied : (counts : List ℕ) → tallied counts [] ≡ counts
unfolding tallied
none_tallied counts = ap (λ (cs : List ℕ). cond (fits cs) cs counts) (raised_nothing counts) ∙ same_either (fits counts) counts

pub line_claims : LineClaims
line_claims =
    record {
      first_line_lem = first_line_lem;
      lines_written = λ order query o h d. lines_written order query d o h;
      none_written = none_written;
      none_tallied = none_tallied;
    }

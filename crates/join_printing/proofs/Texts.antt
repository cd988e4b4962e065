-- The texts as they are written, part by part. Assumes nothing.
use Prim.Native.Nat.{ℕ, ◌+◌, ◌-◌, ◌*◌, ◌≤◌, ◌<◌, min}
use native.Mathlib.Omega.{arith}
use mathlib.Core.Path.{◌≡◌, refl, sym, ap, ◌∙◌}
use mathlib.Core.Bool.{Bool, true, false, cond}
use mathlib.Core.List.{List, [], ◌∷◌, ◌++◌}
use mathlib.Core.Option.{Option, none, some, Option-elim}
use lib.ListN.{length, get_or, take, drop}
use lib.Dec.{eqb}
use borrow.Author.Tests.{lt-ltb, le-ltb}
use Rattle.text.specs.Text.{ascii, decimal}
use Rattle.text.proofs.Writing.{writes_taken}
use Rattle.checking.specs.CheckCall.{count_in}
use Rattle.hex_lines.specs.HexLines.{hex_line}
use Rattle.decimal_lines.specs.DecimalLines.{begins, numbers_from, newline_in, newlines}
use Rattle.decimal_lines.specs.Puts.{Puts}
use Rattle.check_printing.proofs.Answers.{numbers_length, query_read, rest-whole}
use Rattle.joining.specs.Call.{Outcome, join_call}
use Rattle.joining.specs.HandBack.{hand_back_call, part_of}
use Rattle.joining.proofs.Calls.{join_length}
use Rattle.joiner.specs.Promise.{meaning, Does, handed}
use Rattle.std.specs.Prelude.{Result, Ok, Err}
use Rattle.joiner.specs.declared.JoinRefusal.{JoinRefusal}
use Rattle.joiner.specs.declared.JoinRefusal.TheVariants as refusal
use Rattle.join_printing.specs.Refused.{refusal_words}
use Rattle.joiner.specs.declared.HandBack.{HandBack}
use Rattle.joiner.specs.declared.HandBack.TheVariants as back
use Rattle.join_printing.specs.JoinText.{query_in, behind_query, answer_text, joined_text, part_text, handed_text, line_in, told_text, joinqueries_text}

-- what the joining call answers and leaves
module _ (first second pairs : List ℕ) (room : ℕ) (bytes : List ℕ) (r : Result ℕ JoinRefusal) (does : Does (join_call first second pairs room) r bytes) (full : room ≡ 561) where
  joined_told : joined_text first second pairs ≡ answer_text (meaning r) bytes
  unfolding joined_text
  joined_told =
      ap (λ (k : ℕ). text (join_call first second pairs k)) (sym full)
      ∙ ap (λ (a : _). answer_text a (join_call first second pairs room).lent) (sym does.answers)
      ∙ ap (answer_text (meaning r)) (sym does.leaves)
    where
      text : Outcome → List ℕ
      text o = answer_text o.answer o.lent

  told_as : {a : Result ℕ JoinRefusal} → r ≡ a → answer_text (meaning a) bytes ≡ joined_text first second pairs
  told_as e = sym (joined_told ∙ ap (λ (a : Result ℕ JoinRefusal). answer_text (meaning a) bytes) e)

  -- what is written lies in the buffer
  pub written_within : (n : ℕ) → r ≡ Ok n → n ≤ 561
  written_within n e = (join_length first second pairs room n (sym does.answers ∙ ap meaning e)).0

  pub written_text : (n : ℕ) → r ≡ Ok n → hex_line (take n bytes) ≡ joined_text first second pairs
  unfolding answer_text
  written_text n e = told_as e

  pub refused_text_lem : (x : JoinRefusal) → r ≡ Err x → refusal_words x ≡ joined_text first second pairs
  unfolding answer_text
  refused_text_lem (refusal.First y) e = told_as e
  refused_text_lem (refusal.Second y) e = told_as e
  refused_text_lem (refusal.Neither y) e = told_as e

-- what is handed back
module _ (first second line : List ℕ) (r : Result HandBack JoinRefusal) (e : handed r ≡ hand_back_call first second line) where
  handed-as : {a : Result HandBack JoinRefusal} → r ≡ a → part_text (handed a) (part_of (handed a) first second) ≡ handed_text first second line
  unfolding handed_text
  handed-as {a} f =
      ap (λ (b : Result HandBack JoinRefusal). part_text (handed b) (part_of (handed b) first second)) (sym f) ∙ ap (λ (h : _). part_text h (part_of h first second)) e

  pub in_first : (at size end : ℕ) → r ≡ Ok (back.InFirst at size) → end ≡ at + size →
      ascii "first query at " ++ (decimal at ++ (ascii ": " ++ hex_line (take (end - at) (drop at first)))) ≡ handed_text first second line
  unfolding part_text part_of
  in_first at size end f g =
      let n : end - at ≡ size = omega arith in
      ap (λ (k : ℕ). ascii "first query at " ++ (decimal at ++ (ascii ": " ++ hex_line (take k (drop at first))))) n ∙ handed-as f

  pub in_second : (at size end : ℕ) → r ≡ Ok (back.InSecond at size) → end ≡ at + size →
      ascii "second query at " ++ (decimal at ++ (ascii ": " ++ hex_line (take (end - at) (drop at second)))) ≡ handed_text first second line
  unfolding part_text part_of
  in_second at size end f g =
      let n : end - at ≡ size = omega arith in
      ap (λ (k : ℕ). ascii "second query at " ++ (decimal at ++ (ascii ": " ++ hex_line (take k (drop at second))))) n ∙ handed-as f

  pub hand_refused : (x : JoinRefusal) → r ≡ Err x → refusal_words x ≡ handed_text first second line
  unfolding part_text part_of
  hand_refused (refusal.First y) f = handed-as f
  hand_refused (refusal.Second y) f = handed-as f
  hand_refused (refusal.Neither y) f = handed-as f

-- a line
newline_few : (c : ℕ) → newline_in c ≤ 1
unfolding newline_in
newline_few c = by (eqb c 10)
  where
    by : (b : Bool) → cond b 1 0 ≤ 1
    by true = omega arith
    by false = omega arith

newlines_few : (text : List ℕ) → newlines text ≤ length text
unfolding newlines
newlines_few [] = omega arith
newlines_few (c ∷ cs) = omega (arith, newlines_few cs, newline_few c)

module _ (text : List ℕ) where
  pub line_long : 64 < length text → [] ≡ line_in text
  unfolding line_in
  line_long h = rw (lt-ltb 64 (length text) h) refl

  line_shown : length text ≤ 64 → line_in text ≡ Option-elim (numbers_from 0 0 false text) [] (λ ns. ns)
  unfolding line_in
  line_shown h = rw (le-ltb 64 (length text) h) refl

  pub line_read : (a b : List ℕ) (r : ℕ) → length text ≤ 64 → length a ≡ 256 → Puts a 0 (numbers_from 0 0 false text) b r → (r ≤ 256) × (take r b ≡ line_in text)
  unfolding Option-elim
  line_read a b r h room p = go (numbers_from 0 0 false text) refl p
    where
      go : (o : Option (List ℕ)) → numbers_from 0 0 false text ≡ o → Puts a 0 o b r → (r ≤ 256) × (take r b ≡ line_in text)
      go none k z = (omega arith, ap (λ (n : ℕ). take n b) z ∙ sym (line_shown h ∙ ap (λ (o : Option (List ℕ)). Option-elim o [] (λ ns. ns)) k))
      go (some ns) k z =
          let n = numbers_length text ns 0 0 false (omega arith) k in
          let few : r ≤ 256 = omega (arith, n, newlines_few text, z.ends) in
          (few, writes_taken z (omega arith) ∙ sym (line_shown h ∙ ap (λ (o : Option (List ℕ)). Option-elim o [] (λ ns. ns)) k))

-- what is told
module _ (first second rest : List ℕ) where
  pub told_joined : {b : Bool} → b ≡ begins (ascii "9 ") rest → b ≡ false → joined_text first second rest ≡ told_text first second rest
  unfolding told_text
  told_joined e f = ap (λ (t : Bool). cond t (handed_text first second (line_in rest)) (joined_text first second rest)) (sym f ∙ e)

  pub told_handed : {b : Bool} {line : List ℕ} → b ≡ begins (ascii "9 ") rest → b ≡ true → line ≡ line_in rest → handed_text first second line ≡ told_text first second rest
  unfolding told_text
  told_handed e f g =
      ap (handed_text first second) g ∙ ap (λ (t : Bool). cond t (handed_text first second (line_in rest)) (joined_text first second rest)) (sym f ∙ e)

-- the parts among the bytes that are read
module _ {p q : ℕ} (bytes : List ℕ) (from to : ℕ) (a : p ≡ get_or bytes 0 0) (b : q ≡ get_or bytes 1 0) (f : from ≡ min (length bytes) 2) (t : to ≡ min (length bytes) (2 + (256 * p + q))) where
  sized : 256 * p + q ≡ count_in bytes
  unfolding count_in
  sized = omega arith

  query_there : take (to - from) (drop from bytes) ≡ query_in bytes
  unfolding query_in
  query_there = query_read bytes (256 * p + q) from to sized f t ∙ ap (λ (n : ℕ). take n (drop 2 bytes)) sized

  behind_there : take (length bytes - to) (drop to bytes) ≡ behind_query bytes
  unfolding behind_query
  behind_there = rest-whole bytes (256 * p + q) from to sized f t ∙ ap (λ (n : ℕ). drop (2 + n) bytes) sized

  pub second_read : (first : List ℕ) → told_text first (take (to - from) (drop from bytes)) (take (length bytes - to) (drop to bytes)) ≡ told_text first (query_in bytes) (behind_query bytes)
  second_read first = ap (λ (s : List ℕ). told_text first s (take (length bytes - to) (drop to bytes))) query_there ∙ ap (told_text first (query_in bytes)) behind_there

  pub input_read : told_text (take (to - from) (drop from bytes)) (query_in (take (length bytes - to) (drop to bytes))) (behind_query (take (length bytes - to) (drop to bytes))) ≡ joinqueries_text bytes
  unfolding joinqueries_text
  input_read =
      ap (λ (s : List ℕ). told_text s (query_in (take (length bytes - to) (drop to bytes))) (behind_query (take (length bytes - to) (drop to bytes)))) query_there
      ∙ ap (λ (r : List ℕ). told_text (query_in bytes) (query_in r) (behind_query r)) behind_there

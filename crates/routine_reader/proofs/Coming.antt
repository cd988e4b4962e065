-- The tokens that come behind a place.
use Prim.Native.Nat.{ℕ, suc, ◌+◌, ◌*◌, ◌-◌, ◌≤◌, ◌<◌}
use native.Mathlib.Omega.{arith}
use mathlib.Core.Path.{◌≡◌, refl, ap, ◌∙◌}
use mathlib.Core.Logic.{⊎_elim}
use mathlib.Core.Bool.{true, false, cond}
use mathlib.Core.List.{List, [], ◌∷◌}
use lib.ListN.{length, drop, length-drop}
use lib.Seq.{drop-drop}
use lib.Dec.{eqb, ltb, leb}
use borrow.Author.Tests.{lt-ltb, le-ltb, ltb-true, ltb-false, leb-true}
use Rattle.logic.specs.Search.{◌and◌, from, all}
use Rattle.theory.proofs.Basics.Search.{bool_cases, all_true, from_intro}
use Rattle.text.specs.Text.{is_digit}
use Rattle.routine_tokens.specs.declared.Token.{Token}
use Rattle.routine_tokens.specs.Tokens.{is_word_byte, word_length, separators, row_length, reserved_kind, digit_kind, word_kind, sign_table}
use Rattle.routine_tokens.specs.Tokens.{token_of, word_of, sign_of, token_at, token_behind, token_in, token_from, tokens_behind, tokens_in}

-- A token has a kind below 45; one that is not the end stands among the bytes, and one that is a word or a sign ends behind the place.
pub record Sound (t : Token) (at room : ℕ) : Type 0 where
  pub below : t.kind < 45
  pub behind : 2 ≤ t.kind → at < t.end
  pub inside : 1 ≤ t.kind → 0 < room

reserved_below : (row : ℕ) → reserved_kind row < 45
unfolding reserved_kind
reserved_below row =
    ⊎_elim (λ (h : ltb row 23 ≡ true). rw h (omega (arith, ltb-true row 23 h))) (λ h. rw h (omega arith)) (bool_cases (ltb row 23))

digit_below : (w : List ℕ) → digit_kind w < 45
unfolding digit_kind
digit_below [] = omega arith
digit_below (b ∷ []) =
    ⊎_elim
    (λ (h : eqb b 48 ≡ true). rw h (omega arith))
    (λ h. rw h (⊎_elim (λ (k : eqb b 49 ≡ true). rw k (omega arith)) (λ k. rw k (omega arith)) (bool_cases (eqb b 49))))
    (bool_cases (eqb b 48))
digit_below (b ∷ c ∷ w) = omega arith

word_below : (w : List ℕ) → word_kind w < 45
unfolding word_kind
word_below [] = omega arith
word_below (b ∷ w) =
    ⊎_elim (λ (h : is_digit b ≡ true). rw h (digit_below (b ∷ w))) (λ h. rw h (reserved_below _)) (bool_cases (is_digit b))

-- every sign has a byte
signs_hold : all (λ r. leb 1 (row_length (drop (10 * r) sign_table))) (from 16 0) ≡ true
unfolding all ◌and◌ from row_length
signs_hold = refl

sign_holds : (row : ℕ) → row < 16 → 1 ≤ row_length (drop (10 * row) sign_table)
sign_holds row h =
    leb-true _ _ (all_true (λ (r : ℕ). leb 1 (row_length (drop (10 * r) sign_table))) row signs_hold (from_intro 16 0 row (omega arith) (omega arith)))

sign_sound : (at row : ℕ) (b : ℕ) (bs : List ℕ) → Sound (sign_of at row sign_table) at (length (b ∷ bs))
unfolding sign_of token_of
sign_sound at row b bs =
    ⊎_elim
    (λ (h : ltb row 16 ≡ true). rw h (let l : row < 16 = ltb-true row 16 h in record {
      below = omega arith;
      behind = λ k. omega (arith, sign_holds row l);
      inside = λ k. omega arith;
    }))
    (λ h. rw h (record { below = omega arith; behind = λ k. absurd (omega arith); inside = λ k. omega arith }))
    (bool_cases (ltb row 16))

word_sound : (at size b : ℕ) (bs : List ℕ) → 0 < size → Sound (word_of at size (b ∷ bs)) at (length (b ∷ bs))
unfolding word_of token_of
word_sound at size b bs h = record { below = word_below _; behind = λ k. omega arith; inside = λ k. omega arith }

some_bytes : (b : ℕ) (bs : List ℕ) → is_word_byte b ≡ true → 0 < word_length (b ∷ bs)
unfolding word_length
some_bytes b bs h = rw h (omega arith)

token_sound : (at : ℕ) (bytes : List ℕ) → Sound (token_at at bytes) at (length bytes)
unfolding token_at
token_sound at [] = unfold token_of in record { below = omega arith; behind = λ k. absurd (omega arith); inside = λ k. absurd (omega arith) }
token_sound at (b ∷ bs) =
    ⊎_elim
    (λ (h : is_word_byte b ≡ true). rw h (word_sound at _ b bs (some_bytes b bs h)))
    (λ h. rw h (sign_sound at _ b bs))
    (bool_cases (is_word_byte b))

module _ (text : List ℕ) (at : ℕ) where
  pub from_sound : Sound (token_from text at) at (length text - at)
  unfolding token_from token_in token_behind
  from_sound =
      let n : ℕ = separators false (drop at text) in
      let s : Sound (token_at (at + n) (drop n (drop at text))) (at + n) (length (drop n (drop at text))) = token_sound (at + n) (drop n (drop at text)) in
      record {
        below = s.below;
        behind = λ k. omega (arith, s.behind k);
        inside = λ k. omega (arith, s.inside k, length-drop n (drop at text), length-drop at text);
      }

  -- the first of the tokens, and those behind it
  unfoldable pub rest_of : ℕ → List Token
  rest_of k = cond (ltb (token_from text at).kind 2) [] (tokens_in k (token_from text at).end (drop (token_from text at).end text))

  pub rest_last : (k : ℕ) → (token_from text at).kind < 2 → rest_of k ≡ []
  unfolding rest_of
  rest_last k h = rw (lt-ltb _ 2 h) refl

  pub rest_more : (k : ℕ) → 2 ≤ (token_from text at).kind → rest_of k ≡ tokens_in k (token_from text at).end (drop (token_from text at).end text)
  unfolding rest_of
  rest_more k h = rw (le-ltb _ 2 h) refl

  pub coming : (k : ℕ) → tokens_in (suc k) at (drop at text) ≡ token_from text at ∷ rest_of k
  unfolding tokens_in tokens_behind rest_of token_from
  coming k =
      let t : Token = token_in at (drop at text) in
      ⊎_elim
      (λ (h : ltb (token_in at (drop at text)).kind 2 ≡ true). rw h refl)
      (λ h. rw h (ap (λ (bytes : List ℕ). token_in at (drop at text) ∷ tokens_in k (token_in at (drop at text)).end bytes) (skip (ltb-false _ 2 h))))
      (bool_cases (ltb (token_in at (drop at text)).kind 2))
    where
      skip : 2 ≤ (token_in at (drop at text)).kind → drop ((token_in at (drop at text)).end - at) (drop at text) ≡ drop (token_in at (drop at text)).end text
      skip h = drop-drop _ at text ∙ ap (λ (n : ℕ). drop n text) (exact (token_in at (drop at text)) (unfold token_from in from_sound.behind h))
        where
          exact : (t : Token) → at < t.end → at + (t.end - at) ≡ t.end
          exact t l = omega arith

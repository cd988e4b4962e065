-- A text byte by byte: the first fault, by a machine that counts open parentheses. The readers find the same.
use Prim.Native.Nat.{ℕ, zero, suc}
use mathlib.Core.Path.{◌≡◌, refl, ap, ◌∙◌}
use mathlib.Core.Bool.{Bool, true, false, not, cond}
use mathlib.Core.List.{List, [], ◌∷◌}
use lib.Dec.{eqb, ltb}
use borrow.Author.Tests.{eqb-true}
use Rattle.logic.specs.Search.{◌and◌}
use Rattle.text.specs.Text.{is_digit}
use Rattle.formula.specs.Grammar.{Letter, is_place, shown}
use Rattle.formula.specs.Places.{digits_at, past_digits}
use Rattle.formula.specs.Reader.{Mark, mark, blank, opening, closing, ampersand, bar, other, letter, digit, past_blanks}
use Rattle.formula.proofs.Marks.{mark-blank}

-- an item is wanted; a letter was read; digits were read; an item has ended: each with the parentheses that are open
pub data State : Type 0 where
  wants named counted after : ℕ → State

pub data Result : Type 0 where
  clean : Result
  fault : ℕ → List ℕ → Result

pub data Move : Type 0 where
  to : State → Move
  stop : ℕ → Move

module _ (has : Letter → ℕ → Bool) (most : ℕ) where
  unfoldable pub closes : ℕ → Move
  closes zero = stop 17
  closes (suc d) = to (after d)

  unfoldable pub wants_by : ℕ → Mark → List ℕ → Move
  wants_by d blank bs = to (wants d)
  wants_by d opening bs = cond (ltb d most) (to (wants (suc d))) (stop 18)
  wants_by d (letter l) bs = cond (is_place (digits_at bs) and not (has l (shown 0 (digits_at bs)))) (stop 17) (to (named d))
  wants_by d closing bs = stop 17
  wants_by d ampersand bs = stop 17
  wants_by d bar bs = stop 17
  wants_by d other bs = stop 17
  wants_by d digit bs = stop 17

  unfoldable pub after_by : ℕ → Mark → Move
  after_by d blank = to (after d)
  after_by d ampersand = to (wants d)
  after_by d bar = to (wants d)
  after_by d closing = closes d
  after_by d opening = stop 17
  after_by d (letter l) = stop 17
  after_by d other = stop 17
  after_by d digit = stop 17

  unfoldable pub move : State → ℕ → List ℕ → Move
  move (wants d) b bs = wants_by d (mark b) bs
  move (named d) b bs = cond (is_digit b and not (eqb b 48)) (to (counted d)) (stop 17)
  move (counted d) b bs = cond (is_digit b) (to (counted d)) (after_by d (mark b))
  move (after d) b bs = after_by d (mark b)

  unfoldable pub end_of : State → Result
  end_of (wants d) = fault 17 []
  end_of (named d) = fault 17 []
  end_of (counted zero) = clean
  end_of (counted (suc d)) = fault 17 []
  end_of (after zero) = clean
  end_of (after (suc d)) = fault 17 []

  unfoldable pub follow : Move → List ℕ → (State → Result) → Result
  follow (to s) whole next = next s
  follow (stop k) whole next = fault k whole

  unfoldable pub scan : State → List ℕ → Result
  scan s [] = end_of s
  scan s (b ∷ bs) = follow (move s b bs) (b ∷ bs) (λ t. scan t bs)

  pub scan_to : (s t : State) (b : ℕ) (bs : List ℕ) → move s b bs ≡ to t → scan s (b ∷ bs) ≡ scan t bs
  unfolding scan follow
  scan_to s t b bs e = rw e refl

  pub scan-stop : (s : State) (k b : ℕ) (bs : List ℕ) → move s b bs ≡ stop k → scan s (b ∷ bs) ≡ fault k (b ∷ bs)
  unfolding scan follow
  scan-stop s k b bs e = rw e refl

  -- Moves by marks

  pub want_move : (d b : ℕ) (bs : List ℕ) {m : Mark} → mark b ≡ m → move (wants d) b bs ≡ wants_by d m bs
  unfolding move
  want_move d b bs e = ap (λ (m : Mark). wants_by d m bs) e

  pub after-move : (d b : ℕ) (bs : List ℕ) {m : Mark} → mark b ≡ m → move (after d) b bs ≡ after_by d m
  unfolding move
  after-move d b bs e = ap (λ (m : Mark). after_by d m) e

  -- Blanks and digits on the way

  pub want_blanks : (d : ℕ) (bs : List ℕ) → scan (wants d) bs ≡ scan (wants d) (past_blanks bs)
  unfolding past_blanks
  want_blanks d [] = refl
  want_blanks d (b ∷ bs) = go (eqb b 32) refl (want_blanks d bs)
    where
      go : (t : Bool) → eqb b 32 ≡ t → scan (wants d) bs ≡ scan (wants d) (past_blanks bs) → scan (wants d) (b ∷ bs) ≡ scan (wants d) (cond t (past_blanks bs) (b ∷ bs))
      go true e ih = scan_to (wants d) (wants d) b bs (unfold wants_by in want_move d b bs (mark-blank (eqb-true b 32 e))) ∙ ih
      go false e ih = refl

  pub after_blanks : (d : ℕ) (bs : List ℕ) → scan (after d) bs ≡ scan (after d) (past_blanks bs)
  unfolding past_blanks
  after_blanks d [] = refl
  after_blanks d (b ∷ bs) = go (eqb b 32) refl (after_blanks d bs)
    where
      go : (t : Bool) → eqb b 32 ≡ t → scan (after d) bs ≡ scan (after d) (past_blanks bs) → scan (after d) (b ∷ bs) ≡ scan (after d) (cond t (past_blanks bs) (b ∷ bs))
      go true e ih = scan_to (after d) (after d) b bs (unfold after_by in after-move d b bs (mark-blank (eqb-true b 32 e))) ∙ ih
      go false e ih = refl

  pub counted_digits : (d : ℕ) (bs : List ℕ) → scan (counted d) bs ≡ scan (after d) (past_digits bs)
  unfolding past_digits
  counted_digits zero [] = unfold scan end_of in refl
  counted_digits (suc d) [] = unfold scan end_of in refl
  counted_digits d (b ∷ bs) = go (is_digit b) refl (counted_digits d bs)
    where
      go : (t : Bool) → is_digit b ≡ t → scan (counted d) bs ≡ scan (after d) (past_digits bs) → scan (counted d) (b ∷ bs) ≡ scan (after d) (cond t (past_digits bs) (b ∷ bs))
      go true e ih = scan_to (counted d) (counted d) b bs (unfold move in rw e refl) ∙ ih
      go false e ih = unfold scan follow move in rw e refl

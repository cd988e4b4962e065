-- The numbers themselves, of some answers of each call: those that C programs are written against (include/lemitsaka.h).
use Rattle.std.specs.Prelude.{ℕ, ◌≡◌, List, [], ◌∷◌, map}
use Rattle.logic.specs.Calls as calls
use Rattle.drawing.specs.Call as drawing
use Rattle.ordering.specs.Calls as ordering
use Rattle.formula.specs.Call as formula
use Rattle.checking.specs.CheckCall as checking
use Rattle.encoding.specs.WritingCall as writing
use Rattle.joining.specs.Call as joining
use Rattle.joining.specs.HandBack as hand
use Rattle.codes.specs.Codes.{Digits, code}
use Rattle.answer_codes.specs.Numbers.{verdict_digits, order_digits, formula_digits, check_digits, dot_digits, writing_digits, join_digits, hand_digits}

-- the numbers of some answers
abbrev pub numbers : {A : Type 0} → (A → Digits) → List A → List ℕ
numbers digits answers = map (λ a. code (digits a)) answers

pub record Rows : Type 0 where
  pub verdict_row : numbers verdict_digits (calls.satisfiable ∷ calls.refuted ∷ calls.refused 1 0 ∷ calls.refused 3 17 ∷ []) ≡ 0 ∷ 1 ∷ 65536 ∷ 196625 ∷ []
  pub order_row : numbers order_digits (ordering.order ∷ ordering.ring ∷ ordering.refused 15 0 ∷ []) ≡ 0 ∷ 1 ∷ 983040 ∷ []
  pub formula_row : numbers formula_digits (formula.refuted ∷ formula.conjunction 1 ∷ formula.conjunction 64 ∷ formula.refused 17 512 ∷ []) ≡ 0 ∷ 1 ∷ 64 ∷ 1114624 ∷ []
  pub check_row : numbers check_digits (checking.accepted ∷ checking.wrong 1 ∷ checking.wrong 16001 ∷ checking.refused 20 0 ∷ []) ≡ 0 ∷ 1 ∷ 16001 ∷ 1310720 ∷ []
  pub dot_row : numbers dot_digits (drawing.written 508 ∷ drawing.refused 13 0 ∷ []) ≡ 508 ∷ 851968 ∷ []
  pub writing_row : numbers writing_digits (writing.written 637 ∷ writing.refused 27 0 ∷ []) ≡ 637 ∷ 1769472 ∷ []
  pub join_row : numbers join_digits (joining.written 561 ∷ joining.first_refused 2 5 ∷ joining.second_refused 2 5 ∷ joining.refused 24 0 ∷ []) ≡ 561 ∷ 131077 ∷ 4295098373 ∷ 1572864 ∷ []
  pub hand_row : numbers hand_digits (hand.in_first 4 3 ∷ hand.in_second 4 3 ∷ hand.first_refused 2 5 ∷ hand.second_refused 2 5 ∷ hand.refused 25 0 ∷ [])
      ≡ 262147 ∷ 4295229443 ∷ 1099511758853 ∷ 1103806726149 ∷ 1099513266176 ∷ []

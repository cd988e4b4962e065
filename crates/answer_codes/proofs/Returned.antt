-- The answers that a number gives back: those whose own values and places are below 65,536, and whose refusals are the call's. Assumes nothing.
use Prim.Native.Nat.{ℕ, ◌≤◌, ◌<◌}
use native.Mathlib.Omega.{arith}
use mathlib.Core.Path.{◌≡◌, refl}
use mathlib.Core.Logic.{◌⊎◌, inl, inr, ⊎_elim}
use borrow.Author.Tests.{ne_eqb}
use Rattle.logic.specs.Search.{◌or◌}
use Rattle.logic.specs.Calls as calls
use Rattle.drawing.specs.Call as drawing
use Rattle.ordering.specs.Calls as ordering
use Rattle.formula.specs.Call as formula
use Rattle.checking.specs.CheckCall as checking
use Rattle.encoding.specs.WritingCall as writing
use Rattle.joining.specs.Call as joining
use Rattle.joining.specs.HandBack as hand
use Rattle.codes.specs.Codes.{refusal, read_back}
use Rattle.codes.proofs.Numbers.{Returns}
use Rattle.answer_codes.specs.Numbers.{verdict_digits, verdict_read, order_digits, order_read, formula_digits, formula_read, check_digits, check_read}
use Rattle.answer_codes.specs.Numbers.{dot_digits, dot_read, writing_digits, writing_read, join_digits, join_read, hand_digits, hand_read}

-- a refusal's number and place, and a number of the call's own that is not 0
abbrev pub Small : ℕ → ℕ → Type 0
Small k place = (1 ≤ k) × (k < 65536) × (place < 65536)

abbrev pub Counted : ℕ → Type 0
Counted n = (1 ≤ n) × (n < 65536)

pub verdict_returns : (a : calls.Answer) → ((k place : ℕ) → a ≡ calls.refused k place → Small k place) → Returns verdict_digits verdict_read a
unfolding verdict_read read_back
verdict_returns calls.satisfiable h = record { fits = (omega arith, omega arith); read = refl }
verdict_returns calls.refuted h = record { fits = (omega arith, omega arith); read = refl }
verdict_returns (calls.refused k place) h =
    let s = h k place refl in
    record { fits = (s.1, s.2); read = rw (ne_eqb k 0 (λ e. omega arith)) }

pub order_returns : (a : ordering.Answer) → ((k place : ℕ) → a ≡ ordering.refused k place → Small k place) → Returns order_digits order_read a
unfolding order_read read_back
order_returns ordering.order h = record { fits = (omega arith, omega arith); read = refl }
order_returns ordering.ring h = record { fits = (omega arith, omega arith); read = refl }
order_returns (ordering.refused k place) h =
    let s = h k place refl in
    record { fits = (s.1, s.2); read = rw (ne_eqb k 0 (λ e. omega arith)) }

pub formula_returns : (a : formula.Answer) → ((n : ℕ) → a ≡ formula.conjunction n → Counted n) → ((k place : ℕ) → a ≡ formula.refused k place → Small k place) → Returns formula_digits formula_read a
unfolding formula_read read_back
formula_returns formula.refuted g h = record { fits = (omega arith, omega arith); read = refl }
formula_returns (formula.conjunction n) g h =
    let s = g n refl in
    record { fits = (omega arith, s.1); read = rw (ne_eqb n 0 (λ e. omega arith)) }
formula_returns (formula.refused k place) g h =
    let s = h k place refl in
    record { fits = (s.1, s.2); read = rw (ne_eqb k 0 (λ e. omega arith)) }

pub check_returns : (a : checking.Checked) → ((n : ℕ) → a ≡ checking.wrong n → Counted n) → ((k place : ℕ) → a ≡ checking.refused k place → Small k place) → Returns check_digits check_read a
unfolding check_read read_back
check_returns checking.accepted g h = record { fits = (omega arith, omega arith); read = refl }
check_returns (checking.wrong n) g h =
    let s = g n refl in
    record { fits = (omega arith, s.1); read = rw (ne_eqb n 0 (λ e. omega arith)) }
check_returns (checking.refused k place) g h =
    let s = h k place refl in
    record { fits = (s.1, s.2); read = rw (ne_eqb k 0 (λ e. omega arith)) }

pub dot_returns : (a : drawing.Answer) → ((n : ℕ) → a ≡ drawing.written n → n < 65536) → ((k place : ℕ) → a ≡ drawing.refused k place → Small k place) → Returns dot_digits dot_read a
unfolding dot_read read_back
dot_returns (drawing.written n) g h = record { fits = (omega arith, g n refl); read = refl }
dot_returns (drawing.refused k place) g h =
    let s = h k place refl in
    record { fits = (s.1, s.2); read = rw (ne_eqb k 0 (λ e. omega arith)) }

pub writing_returns : (a : writing.Answer) → ((n : ℕ) → a ≡ writing.written n → n < 65536) → ((k place : ℕ) → a ≡ writing.refused k place → Small k place) → Returns writing_digits writing_read a
unfolding writing_read read_back
writing_returns (writing.written n) g h = record { fits = (omega arith, g n refl); read = refl }
writing_returns (writing.refused k place) g h =
    let s = h k place refl in
    record { fits = (s.1, s.2); read = rw (ne_eqb k 0 (λ e. omega arith)) }

-- a refusal of one of two queries: not one that is about neither
pub record OfQuery (k place : ℕ) : Type 0 where
  pub small : Small k place
  pub joining : (k ≡ 23) ⊎ (k ≡ 24) → ⊥
  pub handing : k ≡ 25 → ⊥

-- what is asked of the answers of the joining call, and of the hand-back
pub record JoinSmall (a : joining.Answer) : Type 0 where
  pub lengths : (n : ℕ) → a ≡ joining.written n → n < 65536
  pub of_first_lem : (k place : ℕ) → a ≡ joining.first_refused k place → OfQuery k place
  pub of_second_lem : (k place : ℕ) → a ≡ joining.second_refused k place → OfQuery k place
  pub of_neither : (k place : ℕ) → a ≡ joining.refused k place → ((k ≡ 23) ⊎ (k ≡ 24)) × (place < 65536)

pub record HandSmall (a : hand.Handed) : Type 0 where
  pub parts_first : (at size : ℕ) → a ≡ hand.in_first at size → (at < 65536) × (size < 65536)
  pub parts_second : (at size : ℕ) → a ≡ hand.in_second at size → (at < 65536) × (size < 65536)
  pub of_first_lem : (k place : ℕ) → a ≡ hand.first_refused k place → OfQuery k place
  pub of_second_lem : (k place : ℕ) → a ≡ hand.second_refused k place → OfQuery k place
  pub of_neither : (k place : ℕ) → a ≡ hand.refused k place → (k ≡ 25) × (place < 65536)

neither_read : (k place : ℕ) → (k ≡ 23) ⊎ (k ≡ 24) → join_read (refusal k place) ≡ joining.refused k place
unfolding join_read read_back ◌or◌
neither_read k place = ⊎_elim (λ e. rw e) (λ e. rw e)

pub join_returns : (a : joining.Answer) → JoinSmall a → Returns join_digits join_read a
unfolding join_read read_back ◌or◌
join_returns (joining.written n) h = record { fits = (omega arith, h.lengths n refl); read = refl }
join_returns (joining.first_refused k place) h =
    let s = h.of_first_lem k place refl in
    record { fits = (s.small.1, s.small.2); read = rw (ne_eqb k 0 (λ e. omega arith), ne_eqb k 23 (λ e. s.joining (inl e)), ne_eqb k 24 (λ e. s.joining (inr e))) }
join_returns (joining.second_refused k place) h = let s = h.of_second_lem k place refl in record { fits = (s.small.1, s.small.2); read = refl }
join_returns (joining.refused k place) h =
    let s = h.of_neither k place refl in
    record { fits = (⊎_elim (λ e. omega arith) (λ e. omega arith) s.0, s.1); read = neither_read k place s.0 }

pub hand_returns : (a : hand.Handed) → HandSmall a → Returns hand_digits hand_read a
unfolding hand_read
hand_returns (hand.in_first at size) h = record { fits = h.parts_first at size refl; read = refl }
hand_returns (hand.in_second at size) h = record { fits = h.parts_second at size refl; read = refl }
hand_returns (hand.first_refused k place) h =
    let s = h.of_first_lem k place refl in
    record { fits = (s.small.1, s.small.2); read = rw (ne_eqb k 25 s.handing) }
hand_returns (hand.second_refused k place) h = let s = h.of_second_lem k place refl in record { fits = (s.small.1, s.small.2); read = refl }
hand_returns (hand.refused k place) h =
    let s = h.of_neither k place refl in
    let e = s.0 in
    record { fits = (omega arith, s.1); read = rw e }

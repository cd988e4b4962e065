-- The tests of numbers as equations, to and from what they test.
use Prim.Native.Nat.{ℕ, ◌≤◌, ◌<◌}
use mathlib.Core.Path.{◌≡◌, refl, sym, subst, ◌∙◌}
use mathlib.Core.Logic.{◌⊎◌, ⊎_elim, inl, inr}
use mathlib.Core.Bool.{Bool, true, false, not, cond, true≢false, false≢true}
use lib.Dec.{T, eqb, eqb→eq, eqb_refl, ltb, ltb→lt, lt→ltb, leb, leb→le, le→leb, nleb→lt}
use Rattle.theory.proofs.Basics.Search.{bool_cases, true-false, not_of, not_intro}

T_of : (b : Bool) → b ≡ true → T b
T_of true h = tt
T_of false h = absurd (false≢true h)

of_T : (b : Bool) → T b → b ≡ true
of_T true t = refl
of_T false t = absurd t

pub eqb-true : (m n : ℕ) → eqb m n ≡ true → m ≡ n
eqb-true m n h = eqb→eq m n (T_of (eqb m n) h)

pub eqb_self : (n : ℕ) → eqb n n ≡ true
eqb_self n = of_T (eqb n n) (eqb_refl n)

pub eqb_intro : {m n : ℕ} → m ≡ n → eqb m n ≡ true
eqb_intro {m} {n} e = subst (λ (x : ℕ). eqb m x ≡ true) e (eqb_self m)

pub eqb-false : (m n : ℕ) → (m ≡ n → ⊥) → eqb m n ≡ false
eqb-false m n d = not_of (λ h. d (eqb-true m n h))

pub ltb-true : (m n : ℕ) → ltb m n ≡ true → m < n
ltb-true m n h = ltb→lt m n (T_of (ltb m n) h)

pub ltb_intro : {m n : ℕ} → m < n → ltb m n ≡ true
ltb_intro {m} {n} h = of_T (ltb m n) (lt→ltb m n h)

pub leb-true : (m n : ℕ) → leb m n ≡ true → m ≤ n
leb-true m n h = leb→le m n (T_of (leb m n) h)

pub leb_intro : {m n : ℕ} → m ≤ n → leb m n ≡ true
leb_intro {m} {n} h = of_T (leb m n) (le→leb m n h)

-- two numbers are equal or not, and the test says which
pub eq_cases : (m n : ℕ) → (m ≡ n) ⊎ ((m ≡ n → ⊥) × (eqb m n ≡ false))
eq_cases m n = ⊎_elim (λ h. inl (eqb-true m n h)) (λ h. inr (λ e. true-false (eqb_intro e) h, h)) (bool_cases (eqb m n))

pub eqb_turned : (m n : ℕ) → eqb m n ≡ eqb n m
eqb_turned m n = ⊎_elim (λ e. rw e) (λ d. d.1 ∙ sym (eqb-false n m (λ e. d.0 (sym e)))) (eq_cases m n)

pub le_cases : (m n : ℕ) → (m ≤ n) ⊎ (n < m)
le_cases m n = ⊎_elim (λ h. inl (leb-true m n h)) (λ h. inr (nleb→lt m n (T_of (not (leb m n)) (not_intro h)))) (bool_cases (leb m n))

-- a choice by a test whose answer is known
pub cond-true : {A : Type 0} {b : Bool} (x y : A) → b ≡ true → cond b x y ≡ x
cond-true {b = true} x y h = refl
cond-true {b = false} x y h = absurd (false≢true h)

pub cond-false : {A : Type 0} {b : Bool} (x y : A) → b ≡ false → cond b x y ≡ y
cond-false {b = true} x y h = absurd (true≢false h)
cond-false {b = false} x y h = refl

-- What the checks of five sections say of the walk from the front and of the single bytes; and refusals 5 to 8, number by number.
use Prim.Native.Nat.{ℕ, zero, suc, ◌+◌, ◌≤◌, ◌<◌}
use native.Mathlib.Omega.{arith}
use mathlib.Core.Path.{◌≡◌, refl, sym, ap, ap₂, ◌∙◌, subst}
use mathlib.Core.Logic.{◌⊎◌, ⊎_elim, inl, inr}
use mathlib.Core.List.{List, []}
use mathlib.Core.Option.{Option, none, some, Option-elim}
use Rattle.logic.specs.Search.{from, first_of, or_else}
use Rattle.logic.specs.Query.{Form, sections, Layout, faulty, parts, first_byte, layout_by, layout_of, fault_in, layout_fault, byte_fault}
use Rattle.logic.specs.Calls.{Input, Answer, refused, layout_check, byte_check, form_checks, query_checks, refusal_of}
use Rattle.theory.proofs.Basics.Search.{none-some}
use Rattle.theory.proofs.Query.AcceptedBytes.{sections-excesses}
use Rattle.theory.proofs.Calls.Refusals.{refused_one}
use Rattle.query_checks.proofs.Checks.{layout_refused}

some_one : {A : Type 0} {a b : A} → some a ≡ some b → a ≡ b
some_one e = cc

pub nat_cases : (i j : ℕ) → i ≤ j → (i ≡ j) ⊎ (i < j)
nat_cases zero zero h = inl refl
nat_cases zero (suc j) h = inr (omega arith)
nat_cases (suc i) zero h = absurd (omega arith)
nat_cases (suc i) (suc j) h = ⊎_elim (λ e. inl (ap suc e)) (λ l. inr (omega arith)) (nat_cases i j (omega arith))

-- the refusal of a number, where its place is known
unfoldable pub answer_at : (ℕ → Option ℕ) → ℕ → Option Answer
answer_at f k = Option-elim (f k) none (λ place. some (refused k place))

-- the first number that meets its refusal
pub record First (f : ℕ → Option ℕ) (i end k place : ℕ) : Type 0 where
  pub from_on : i ≤ k
  pub below : k < end
  pub none_before : (j : ℕ) → i ≤ j → j < k → f j ≡ none
  pub here : f k ≡ some place

module _ (f : ℕ → Option ℕ) where
  met : (k place : ℕ) → f k ≡ some place → answer_at f k ≡ some (refused k place)
  unfolding answer_at Option-elim
  met k place e = rw e

  unmet : (k : ℕ) → f k ≡ none → answer_at f k ≡ none
  unfolding answer_at Option-elim
  unmet k e = rw e

  pub first_told : (m i k place : ℕ) → first_of (answer_at f) (from m i) ≡ some (refused k place) → First f i (i + m) k place
  unfolding first_of from or_else
  first_told zero i k place h = absurd (none-some h)
  first_told (suc m) i k place h = go (f i) refl (λ e. first_told m (suc i) k place e)
    where
      go : (o : Option ℕ) → f i ≡ o → (first_of (answer_at f) (from m (suc i)) ≡ some (refused k place) → First f (suc i) (suc i + m) k place) → First f i (i + suc m) k place
      go none e ih =
          let r = ih (sym (ap (λ (o : Option Answer). or_else o (first_of (answer_at f) (from m (suc i)))) (unmet i e)) ∙ h) in
          record {
            from_on = omega (arith, r.from_on);
            below = omega (arith, r.below);
            none_before = λ j a b. ⊎_elim (λ q. subst (λ (x : ℕ). f x ≡ none) q e) (λ l. r.none_before j l b) (nat_cases i j a);
            here = r.here;
          }
      go (some p) e ih =
          let s = refused_one (some_one (sym (ap (λ (o : Option Answer). or_else o (first_of (answer_at f) (from m (suc i)))) (met i p e)) ∙ h)) in
          subst (λ (x : ℕ). First f i (i + suc m) x place) s.0
          (record { from_on = omega arith; below = omega arith; none_before = λ j a b. absurd (omega arith); here = e ∙ ap some s.1 })

  pub none_told : (m i : ℕ) → first_of (answer_at f) (from m i) ≡ none → (j : ℕ) → i ≤ j → j < i + m → f j ≡ none
  unfolding first_of from or_else
  none_told zero i h j a b = absurd (omega arith)
  none_told (suc m) i h j a b = go (f i) refl (λ e l. none_told m (suc i) e j l (omega arith))
    where
      go : (o : Option ℕ) → f i ≡ o → (first_of (answer_at f) (from m (suc i)) ≡ none → suc i ≤ j → f j ≡ none) → f j ≡ none
      go none e ih = ⊎_elim (λ q. subst (λ (x : ℕ). f x ≡ none) q e) (λ l. ih (sym (ap (λ (o : Option Answer). or_else o (first_of (answer_at f) (from m (suc i)))) (unmet i e)) ∙ h) l) (nat_cases i j a)
      go (some p) e ih = absurd (none-some (sym (sym (ap (λ (o : Option Answer). or_else o (first_of (answer_at f) (from m (suc i)))) (met i p e)) ∙ h)))

  pub first_is : (m i k place : ℕ) → First f i (i + m) k place → first_of (answer_at f) (from m i) ≡ some (refused k place)
  unfolding first_of from or_else
  first_is zero i k place r = absurd (omega (arith, r.from_on, r.below))
  first_is (suc m) i k place r =
      ⊎_elim
      (λ q. ap (λ (o : Option Answer). or_else o (first_of (answer_at f) (from m (suc i)))) (ap (answer_at f) q ∙ met k place r.here))
      (λ l. ap (λ (o : Option Answer). or_else o (first_of (answer_at f) (from m (suc i)))) (unmet i (r.none_before i (omega arith) l))
      ∙ first_is m (suc i) k place (record { from_on = l; below = omega (arith, r.below); none_before = λ j a b. r.none_before j (omega arith) b; here = r.here }))
      (nat_cases i k r.from_on)

  pub none_is : (m i : ℕ) → ((j : ℕ) → i ≤ j → j < i + m → f j ≡ none) → first_of (answer_at f) (from m i) ≡ none
  unfolding first_of from or_else
  none_is zero i h = refl
  none_is (suc m) i h =
      ap (λ (o : Option Answer). or_else o (first_of (answer_at f) (from m (suc i)))) (unmet i (h i (omega arith) (omega arith)))
      ∙ none_is m (suc i) (λ j a b. h j (omega arith) (omega arith))

-- The checks of a form where its sections are laid out

abbrev pub faults : Form → List ℕ → ℕ → Option ℕ
faults form bytes k = byte_fault form k bytes

pub form-bytes : (form : Form) (bytes : List ℕ) (ps : List (List ℕ)) → layout_by form bytes ≡ parts ps → (i : Input) → i.query ≡ bytes →
    refusal_of (form_checks form) i ≡ first_of (answer_at (faults form bytes)) (from 4 5)
unfolding refusal_of form_checks layout_check byte_check layout_fault fault_in first_of or_else Option-elim answer_at from
form-bytes form bytes ps e i q = rw (q, e)

-- Five sections

abbrev ask : List ℕ → Input
ask bytes = record { order = []; query = bytes; room = 0 }

five_bytes : (bytes : List ℕ) (ps : List (List ℕ)) → layout_of bytes ≡ parts ps → refusal_of query_checks (ask bytes) ≡ first_of (answer_at (faults sections bytes)) (from 4 5)
unfolding query_checks layout_of
five_bytes bytes ps e = form-bytes sections bytes ps e (ask bytes) refl

five_layout : (bytes : List ℕ) (k place : ℕ) → layout_of bytes ≡ faulty k place → refusal_of query_checks (ask bytes) ≡ some (refused k place)
unfolding query_checks layout_of
five_layout bytes k place e = layout_refused sections bytes k place (sections-excesses (first_byte bytes)) e (ask bytes) refl

-- refused by the walk from the front, or for a byte of sections that are laid out
pub told_refused : (bytes : List ℕ) (k place : ℕ) → ((i : Input) → i.query ≡ bytes → refusal_of query_checks i ≡ some (refused k place)) →
    (layout_of bytes ≡ faulty k place) ⊎ ((ps : List (List ℕ)) × (layout_of bytes ≡ parts ps) × First (faults sections bytes) 5 9 k place)
told_refused bytes k place h = go (layout_of bytes) refl
  where
    go : (l : Layout) → layout_of bytes ≡ l → (layout_of bytes ≡ faulty k place) ⊎ ((ps : List (List ℕ)) × (layout_of bytes ≡ parts ps) × First (faults sections bytes) 5 9 k place)
    go (faulty j p) e =
        let s = refused_one (some_one (sym (five_layout bytes j p e) ∙ h (ask bytes) refl)) in
        inl (e ∙ ap₂ faulty s.0 s.1)
    go (parts ps) e = inr (ps, e, first_told (faults sections bytes) 4 5 k place (sym (five_bytes bytes ps e) ∙ h (ask bytes) refl))

pub told_accepted : (bytes : List ℕ) → ((i : Input) → i.query ≡ bytes → refusal_of query_checks i ≡ none) → (ps : List (List ℕ))
    × (layout_of bytes ≡ parts ps) × ((j : ℕ) → 5 ≤ j → j < 9 → byte_fault sections j bytes ≡ none)
told_accepted bytes h = go (layout_of bytes) refl
  where
    go : (l : Layout) → layout_of bytes ≡ l → (ps : List (List ℕ)) × (layout_of bytes ≡ parts ps) × ((j : ℕ) → 5 ≤ j → j < 9 → byte_fault sections j bytes ≡ none)
    go (faulty j p) e = absurd (none-some (sym (h (ask bytes) refl) ∙ five_layout bytes j p e))
    go (parts ps) e = (ps, e, none_told (faults sections bytes) 4 5 (sym (five_bytes bytes ps e) ∙ h (ask bytes) refl))

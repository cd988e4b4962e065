-- Literals say what their trees say, and denied the contrary.
use Prim.Native.Nat.{ℕ}
use mathlib.Core.Path.{◌≡◌, refl, sym, ap, ◌∙◌}
use mathlib.Core.Logic.{◌⊎◌, ◌↔◌, ⊎_elim, inl, inr}
use mathlib.Core.Bool.{Bool, true, false, not, false≢true}
use mathlib.Core.List.{List, [], ◌∷◌, Memᴰ}
use lib.Dec.{eqb}
use Rattle.logic.specs.Search.{◌and◌, ◌or◌}
use Rattle.logic.specs.Heap.{Node, IsHeap}
use Rattle.theory.proofs.Basics.Search.{and_left, and_right, and_intro, or_cases, or_left, or_right, true-false, not-true, not_intro, not_of}
use Rattle.theory.proofs.Basics.Compare.{eqb-true, eqb_intro}
use Rattle.routine_logic.specs.State.{State}
use Rattle.routine_logic.specs.Formulas.{same_truth}
use Rattle.routine_theory.proofs.Means.{reaches_means}
use Rattle.cut_theory.specs.Trees.{Tree, yes_tree, no_tree, flagged, same, differ, far, leads, both, either, Holds}
use Rattle.literal_theory.specs.Forms.{Form, junction, literals, conjunction, meets_form}

not-and : (a b : Bool) → not (a and b) ≡ not a or not b
unfolding ◌and◌ ◌or◌
not-and true b = refl
not-and false b = refl

not-or : (a b : Bool) → not (a or b) ≡ not a and not b
unfolding ◌and◌ ◌or◌
not-or true b = refl
not-or false b = refl

pub not-not : (a : Bool) → not (not a) ≡ a
not-not true = refl
not-not false = refl

-- the other truth
pub other_truth : (c v : Bool) → same_truth (not c) v ≡ not (same_truth c v)
unfolding same_truth
other_truth true v = refl
other_truth false v = sym (not-not v)

pub truth_not : (b v : Bool) → same_truth (not b) v ≡ same_truth b (not v)
unfolding same_truth
truth_not true v = refl
truth_not false v = sym (not-not v)

pub same_truth_lem : (b v : Bool) → (same_truth b v ≡ true) ↔ (v ≡ b)
unfolding same_truth
same_truth_lem true v = (λ h. h, λ h. h)
same_truth_lem false v = (not-true, not_intro)

module _ {A : Type 0} (g start : State) (nodes : List ℕ) (node : A → ℕ) where
  abbrev says : Form A → Bool
  says = meets_form g start nodes node

  -- denied
  pub literals_denied : (i j : ℕ) (t : Tree A) → says (literals false i j t) ≡ not (says (literals true i j t))
  unfolding literals meets_form junction same_truth
  literals_denied i j yes_tree = refl
  literals_denied i j no_tree = refl
  literals_denied i j (flagged c a) = other_truth c (g.field j (node a))
  literals_denied i j (same x y) = refl
  literals_denied i j (differ x y) = sym (not-not (eqb (node x) (node y)))
  literals_denied i j (far x y) = refl
  literals_denied i j (leads x y) = refl
  literals_denied i j (both f h) =
      ap (◌or says (literals false i j h)) (literals_denied i j f)
      ∙ ap (not (says (literals true i j f)) or◌) (literals_denied i j h)
      ∙ sym (not-and (says (literals true i j f)) (says (literals true i j h)))
  literals_denied i j (either f h) =
      ap (◌and says (literals false i j h)) (literals_denied i j f)
      ∙ ap (not (says (literals true i j f)) and◌) (literals_denied i j h)
      ∙ sym (not-or (says (literals true i j f)) (says (literals true i j h)))

  -- a conjunction of some
  pub conjunction_met : (fs : List (Form A)) → says (conjunction fs) ≡ true → (f : Form A) → Memᴰ f fs → says f ≡ true
  unfolding conjunction meets_form
  conjunction_met [] h x m = elim m [ ]
  conjunction_met (f ∷ fs) h x (Memᴰ.head e) = ap says e ∙ and_left _ _ h
  conjunction_met (f ∷ fs) h x (Memᴰ.tail m) = conjunction_met fs (and_right (says f) _ h) x m

  pub conjunction_intro : (fs : List (Form A)) → ((f : Form A) → Memᴰ f fs → says f ≡ true) → says (conjunction fs) ≡ true
  unfolding conjunction meets_form
  conjunction_intro [] h = refl
  conjunction_intro (f ∷ fs) h = and_intro (h f (Memᴰ.head refl)) (conjunction_intro fs (λ x m. h x (Memᴰ.tail m)))

  module _ (is : IsHeap g) (are-nodes : (a : A) → Node g (node a)) where
    one_node' : (x y : A) → (eqb (node x) (node y) ≡ true) ↔ (node x ≡ node y)
    one_node' x y = (eqb-true (node x) (node y), eqb_intro)

    pub literals_plain : (i j : ℕ) (t : Tree A) → (says (literals true i j t) ≡ true) ↔ Holds node (g.link i) (g.field j) t
    unfolding literals meets_form junction same_truth Holds
    literals_plain i j yes_tree = (λ h. tt, λ h. refl)
    literals_plain i j no_tree = (λ h. absurd (false≢true h), λ h. absurd h)
    literals_plain i j (flagged c a) = same_truth_lem c (g.field j (node a))
    literals_plain i j (same x y) = one_node' x y
    literals_plain i j (differ x y) =
        (λ h e. true-false ((one_node' x y).1 e) (not-true h), λ h. not_intro (not_of (λ e. h ((one_node' x y).0 e))))
    literals_plain i j (far x y) = reaches_means g is i (node x) (are-nodes x) (node y)
    literals_plain i j (leads x y) = (eqb-true (g.link i (node x)) (node y), eqb_intro)
    literals_plain i j (both f h) =
        let a = literals_plain i j f in
        let b = literals_plain i j h in
        (λ k. (a.0 (and_left _ _ k), b.0 (and_right (says (literals true i j f)) _ k)), λ k. and_intro (a.1 k.0) (b.1 k.1))
    literals_plain i j (either f h) =
        let a = literals_plain i j f in
        let b = literals_plain i j h in (
          λ k. ⊎_elim (λ x. inl (a.0 x)) (λ x. inr (b.0 x)) (or_cases (says (literals true i j f)) (says (literals true i j h)) k),
          ⊎_elim (λ x. or_left (says (literals true i j h)) (a.1 x)) (λ x. or_right (says (literals true i j f)) (b.1 x)),
        )

    literals-alike : (i j : ℕ) (t : Tree A) (test : Bool) → (Holds node (g.link i) (g.field j) t ↔ (test ≡ true)) → says (literals true i j t) ≡ test
    literals-alike i j t test h = alike (says (literals true i j t)) test (λ e. h.0 ((literals_plain i j t).0 e)) (λ e. (literals_plain i j t).1 (h.1 e))
      where
        alike : (x y : Bool) → (x ≡ true → y ≡ true) → (y ≡ true → x ≡ true) → x ≡ y
        alike true y h k = sym (h refl)
        alike false true h k = k refl
        alike false false h k = refl

    -- a tree that says what a test says: plain or denied, so do its literals
    pub literals-test : (b : Bool) (i j : ℕ) (t : Tree A) (test : Bool) → (Holds node (g.link i) (g.field j) t ↔ (test ≡ true)) →
        says (literals b i j t) ≡ same_truth b test
    unfolding same_truth
    literals-test true i j t test h = literals-alike i j t test h
    literals-test false i j t test h = literals_denied i j t ∙ ap not (literals-alike i j t test h)

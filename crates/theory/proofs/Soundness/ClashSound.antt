-- Facts that are true of a heap that meets the query have no clash.
use Prim.Native.Nat.{ℕ, zero, suc, ◌≤◌}
use mathlib.Core.Path.{◌≡◌, refl, sym, ap, ap₂, ◌∙◌, subst₂}
use mathlib.Core.Logic.{⊎_elim}
use mathlib.Core.Bool.{Bool, true, not, false≢true}
use mathlib.Core.List.{List, [], ◌∷◌, Memᴰ}
use lib.Dec.{eqb}
use Rattle.logic.specs.Search.{◌and◌, at, holds_of}
use Rattle.logic.specs.Query.{Literal, Query}
use Rattle.logic.specs.Heap.{Heap, Reaches, Signed, Each, Meets, value}
use Rattle.logic.specs.Facts.{Facts, Line, line, negated_at, plain_at, is_clash}
use Rattle.theory.proofs.Basics.Search.{not-true, and_left, and_right, or_cases}
use Rattle.theory.proofs.Basics.Compare.{eqb-true}
use Rattle.theory.proofs.Query.Tied.{Accepted}
use Rattle.theory.proofs.Soundness.Value.{signed_true, signed_false}
use Rattle.theory.proofs.Soundness.Truth.{Holds}

-- what stands at a place is one of the list
pub at_mem : {A : Type 0} (xs : List A) (i : ℕ) (p : A → Bool) → holds_of (at xs i) p ≡ true → (x : A) × Memᴰ x xs × (p x ≡ true)
unfolding at holds_of
at_mem xs zero p h = absurd (false≢true h)
at_mem [] (suc i) p h = absurd (false≢true h)
at_mem (x ∷ xs) (suc zero) p h = (x, Memᴰ.head refl, h)
at_mem (x ∷ xs) (suc (suc i)) p h = let r = at_mem xs (suc i) p h in (r.0, Memᴰ.tail r.1, r.2)

-- The literals of a section, each of which means M where it is plain
module _ (ls : List Literal) (M : Literal → Type 0) (meant : Each (λ l. Signed l.plain (M l)) ls) where
  plain_meant : (i : ℕ) (p : Literal → Bool) → plain_at ls i p ≡ true → (l : Literal) × Memᴰ l ls × (p l ≡ true) × M l
  unfolding plain_at
  plain_meant i p h =
      let (l, m, e) = at_mem ls i (λ l. l.plain and p l) h in
      (l, m, and_right _ _ e, signed_true l.plain (and_left _ _ e) (meant l m))

  -- a negated one that the test shows to be so is a contradiction
  negated_not : (i : ℕ) (p : Literal → Bool) → ((l : Literal) → Memᴰ l ls → p l ≡ true → M l) → negated_at ls i p ≡ true → ⊥
  unfolding negated_at
  negated_not i p shows h =
      let (l, m, e) = at_mem ls i (λ l. not l.plain and p l) h in
      signed_false l.plain (not-true (and_left _ _ e)) (meant l m) (shows l m (and_right _ _ e))

module _ (q : Query) (ok : Accepted q) (h : Heap) (meets : Meets h q) (s : Facts) (holds : Holds h.link (value h q.entries) s) where
  abbrev val : ℕ → ℕ
  val = value h q.entries

  -- terms replaced by one term have one value
  rep_equal : (a b : ℕ) → 1 ≤ a → 1 ≤ b → eqb (s.rep a) (s.rep b) ≡ true → val a ≡ val b
  rep_equal a b l m e = sym (holds.rep_true a l).stands ∙ ap val (eqb-true (s.rep a) (s.rep b) e) ∙ (holds.rep_true b m).stands

  -- what the test of each section shows of a literal
  equality_shown : (l : Literal) → Memᴰ l q.equalities → eqb (s.rep l.left) (s.rep l.right) ≡ true → val l.left ≡ val l.right
  equality_shown l m e = let r = ok.equal_terms l m in rep_equal l.left l.right r.0.0 r.1.0 e

  reach_shown : (l : Literal) → Memᴰ l q.reachability → (s.graph l.link).reach (s.rep l.left) (s.rep l.right) ≡ true → Reaches (h.link l.link) (val l.left) (val l.right)
  reach_shown l m e =
      let r = ok.reach_terms l m in
      subst₂ (Reaches (h.link l.link)) (holds.rep_true l.left r.0.0).stands (holds.rep_true l.right r.1.0).stands
      ((holds.graph_true l.link).reach_true (s.rep l.left) (s.rep l.right) e).stands

  field_shown : (j : ℕ) (l : Literal) → Memᴰ l q.fields →
      plain_at q.fields j (λ m. eqb l.left m.left and eqb (s.rep l.right) (s.rep m.right)) ≡ true → h.field l.left (val l.right) ≡ true
  field_shown j l m e =
      let p = plain_meant q.fields (λ k. h.field k.left (val k.right) ≡ true) meets.fields j _ e in
      let k = p.0 in
      ap₂ h.field (eqb-true l.left k.left (and_left _ _ p.2)) (rep_equal l.right k.right (ok.field_term l m).0 (ok.field_term k p.1).0 (and_right _ _ p.2))
      ∙ p.3

  pub clash_sound : (l : Line) → is_clash q s l ≡ true → ⊥
  unfolding is_clash
  clash_sound (line nine section i j) e =
      ⊎_elim
      (λ e'. ⊎_elim
      (λ p. negated_not q.equalities _ meets.equalities i _ equality_shown (and_right _ _ p))
      (λ p. negated_not q.reachability _ meets.reachability i _ reach_shown (and_right _ _ p))
      (or_cases _ _ e'))
      (λ p. negated_not q.fields _ meets.fields i _ (field_shown j) (and_right _ _ p))
      (or_cases _ _ (and_right _ _ e))

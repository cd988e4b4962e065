-- In a heap of at most five nodes, the tests say what the literals mean.
use Prim.Native.Nat.{ℕ, ◌≤◌}
use native.Mathlib.Omega.{arith}
use mathlib.Core.Path.{◌≡◌, refl, sym, ap, ap₂, ◌∙◌, subst}
use mathlib.Core.Logic.{◌↔◌, ◌⊎◌, ⊎_elim, inl, inr}
use mathlib.Core.Bool.{Bool, true, false, not, ◌&&◌, ◌||◌, false≢true}
use mathlib.Core.List.{List, Memᴰ}
use lib.Dec.{eqb, leb}
use Rattle.logic.specs.Search.{from, any}
use Rattle.logic.specs.Query.{Literal, Entries, names_nil}
use Rattle.logic.specs.Heap.{Heap, IsHeap, Signed, MeansEqual, MeansReach, NilNode, value}
use Rattle.theory.proofs.Basics.Search.{bool_cases, true-false, any-true, any_intro, any_false, from_intro}
use Rattle.theory.proofs.Basics.Compare.{eqb-true, eqb_intro, eqb_self, eq_cases, le_cases}
use Rattle.theory.proofs.Soundness.Value.{value_node, signed_true, signed_false}
use Rattle.between.specs.Meaning.{BetweenLiteral, MeansBetween}
use Rattle.between_search.specs.Tests.{steps, agrees, due_pair, due_triple, pair_breaks, triple_breaks, nil_breaks, says_field, has_field, opposed, field_breaks}
use Rattle.between_search.proofs.StepCounts.{Stays, stays, equal_steps, reach_steps, between_steps}
use Rattle.between_search.proofs.Due.{both, first_of_lem, second_of, and-false, either_left, either_right, not_both, any_none, signed_agrees, pair_due_somewhere, triple_due_somewhere}

-- not (not b)
pub not-not : {b : Bool} → not b ≡ false → b ≡ true
not-not {b = true} h = refl
not-not {b = false} h = absurd (false≢true (sym h))

module _ (h : Heap) (is : IsHeap h) (few : h.size ≤ 5) (entries : Entries) where
  abbrev val : ℕ → ℕ
  val = value h entries

  here : (t : ℕ) → Stays (h.link 1) h.size (val t)
  here t = stays (h.link 1) h.size (is.link_node 1) (val t) (value_node h entries is t)

  pair-met : (P : Type 0) (n most : ℕ) (l : Literal) → (1 ≤ l.left) × (l.left ≤ n) → (1 ≤ l.right) × (l.right ≤ n) →
      P ↔ (leb (steps (h.link 1) (val l.left) (val l.right)) most ≡ true) →
      Signed l.plain P ↔ ((t : ℕ) → 1 ≤ t → t ≤ n → pair_breaks (h.link 1) val most t l ≡ false)
  unfolding pair_breaks
  pair-met P n most l ra rb e =
      let s = signed_agrees l.plain (leb (steps (h.link 1) (val l.left) (val l.right)) most) e in (
        λ p t a b. and-false (due_pair l.left l.right t) (ap not (s.0 p)),
        λ r. let d = pair_due_somewhere l.left l.right n ra rb in s.1 (not-not (not_both (r d.0 d.1 d.2) d.3)),
      )

  pub equal_met : (n : ℕ) (l : Literal) → (1 ≤ l.left) × (l.left ≤ n) → (1 ≤ l.right) × (l.right ≤ n) →
      MeansEqual h entries l ↔ ((t : ℕ) → 1 ≤ t → t ≤ n → pair_breaks (h.link 1) val 0 t l ≡ false)
  equal_met n l ra rb = pair-met _ n 0 l ra rb (equal_steps (h.link 1) h.size few (val l.left) (here l.left) (val l.right))

  pub reach_met : (n : ℕ) (l : Literal) → l.link ≡ 1 → (1 ≤ l.left) × (l.left ≤ n) → (1 ≤ l.right) × (l.right ≤ n) →
      MeansReach h entries l ↔ ((t : ℕ) → 1 ≤ t → t ≤ n → pair_breaks (h.link 1) val 5 t l ≡ false)
  unfolding pair_breaks
  reach_met n l one ra rb = rw one (pair-met _ n 5 l ra rb (reach_steps (h.link 1) h.size few (val l.left) (here l.left) (val l.right)))

  pub between_met : (n : ℕ) (l : BetweenLiteral) → (1 ≤ l.from) × (l.from ≤ n) → (1 ≤ l.middle) × (l.middle ≤ n) → (1 ≤ l.to) × (l.to ≤ n) →
      MeansBetween h entries l ↔ ((t : ℕ) → 1 ≤ t → t ≤ n → triple_breaks (h.link 1) val t l ≡ false)
  unfolding triple_breaks
  between_met n l rx ry rz =
      let y : ℕ = steps (h.link 1) (val l.from) (val l.middle) in
      let z : ℕ = steps (h.link 1) (val l.from) (val l.to) in
      let s = signed_agrees l.plain (leb y z && leb z 5) (between_steps (h.link 1) h.size few (val l.from) (here l.from) (val l.middle) (val l.to)) in (
        λ p t a b. and-false (due_triple l.from l.middle l.to t) (ap not (s.0 p)),
        λ r. let d = triple_due_somewhere l.from l.middle l.to n rx ry rz in s.1 (not-not (not_both (r d.0 d.1 d.2) d.3)),
      )

  -- nil
  pub nil_holds : NilNode h entries → (t : ℕ) → nil_breaks entries (h.link 1) val t ≡ false
  unfolding nil_breaks
  nil_holds nil t = go (names_nil entries t) refl
    where
      go : (b : Bool) → names_nil entries t ≡ b → b && (not (eqb (h.link 1 (val t)) (val t)) || any (λ u. names_nil entries u && not (eqb (val u) (val t))) (from t 1)) ≡ false
      go false e = refl
      go true e =
          rw (eqb_intro (nil.own_link 1 t e))
          (any_none _ (from t 1) (λ u m. other u (names_nil entries u) refl))
        where
          other : (u : ℕ) (b : Bool) → names_nil entries u ≡ b → b && not (eqb (val u) (val t)) ≡ false
          other u false k = refl
          other u true k = rw (eqb_intro (nil.one_node' u t k e))

  -- where every other link leads from each node to itself
  pub nil_rule : (n : ℕ) → ((i v : ℕ) → (i ≡ 1 → ⊥) → h.link i v ≡ v) → ((t : ℕ) → names_nil entries t ≡ true → (1 ≤ t) × (t ≤ n)) →
      ((t : ℕ) → 1 ≤ t → t ≤ n → nil_breaks entries (h.link 1) val t ≡ false) → NilNode h entries
  unfolding nil_breaks
  nil_rule n loops range r =
      record {
        one_node' = λ t u a b. ⊎_elim (λ l. node_of t u a b l) (λ l. sym (node_of u t b a (omega arith))) (le_cases t u);
        own_link = λ k t a. let i = range t a in ⊎_elim (λ e. rw e (own t (not_both (r t i.0 i.1) a))) (λ d. loops k (val t) d.0) (eq_cases k 1);
      }
    where
      own : (t : ℕ) → not (eqb (h.link 1 (val t)) (val t)) || any (λ u. names_nil entries u && not (eqb (val u) (val t))) (from t 1) ≡ false → h.link 1 (val t) ≡ val t
      own t e = eqb-true _ _ (go (eqb (h.link 1 (val t)) (val t)) e)
        where
          go : (b : Bool) → not b || any (λ u. names_nil entries u && not (eqb (val u) (val t))) (from t 1) ≡ false → b ≡ true
          go true k = refl
          go false k = absurd (false≢true (sym k))

      rest : (t : ℕ) → not (eqb (h.link 1 (val t)) (val t)) || any (λ u. names_nil entries u && not (eqb (val u) (val t))) (from t 1) ≡ false →
          any (λ u. names_nil entries u && not (eqb (val u) (val t))) (from t 1) ≡ false
      rest t e = go (not (eqb (h.link 1 (val t)) (val t))) e
        where
          go : (b : Bool) → b || any (λ u. names_nil entries u && not (eqb (val u) (val t))) (from t 1) ≡ false → any (λ u. names_nil entries u && not (eqb (val u) (val t))) (from t 1) ≡ false
          go true k = absurd (false≢true (sym k))
          go false k = k

      node_of : (t u : ℕ) → names_nil entries t ≡ true → names_nil entries u ≡ true → t ≤ u → val t ≡ val u
      node_of t u a b l =
          let i = range u b in
          let j = range t a in
          eqb-true _ _ (not-not (not_both (any_false _ t (rest u (not_both (r u i.0 i.1) b)) (from_intro u 1 t j.0 (omega arith))) a))

-- Data literals

says_is : (sign : Bool) (j t : ℕ) (l : Literal) → says_field sign j t l ≡ true → (agrees sign l.plain ≡ true) × (l.left ≡ j) × (l.right ≡ t)
unfolding says_field
says_is sign j t l h =
    let a = first_of_lem (agrees sign l.plain && eqb l.left j) (eqb l.right t) h in (
      first_of_lem (agrees sign l.plain) (eqb l.left j) a,
      eqb-true _ _ (second_of (agrees sign l.plain) (eqb l.left j) a),
      eqb-true _ _ (second_of (agrees sign l.plain && eqb l.left j) (eqb l.right t) h),
    )

agrees-is : (sign b : Bool) → agrees sign b ≡ true → b ≡ sign
unfolding agrees
agrees-is true true h = refl
agrees-is true false h = h
agrees-is false true h = absurd (false≢true h)
agrees-is false false h = refl

agrees_self : (b : Bool) → agrees b b ≡ true
unfolding agrees
agrees_self true = refl
agrees_self false = refl

module _ (fields : List Literal) (number : (l : Literal) → Memᴰ l fields → (1 ≤ l.left) × (l.left ≤ 8)) (node : ℕ → ℕ) where
  -- a heap's fields keep opposed terms apart
  pub fields_hold : (field : ℕ → ℕ → Bool) → ((l : Literal) → Memᴰ l fields → Signed l.plain (field l.left (node l.right) ≡ true)) → (t : ℕ) → field_breaks fields node t ≡ false
  unfolding field_breaks opposed has_field
  fields_hold field met t =
      any_none _ (from t 1) (λ u m. go u (bool_cases (eqb (node u) (node t))))
    where
      none : (a b : ℕ) → node a ≡ node b → opposed fields a b ≡ false
      none a b e =
          any_none _ (from 8 1) (λ j m. apart j (bool_cases (has_field fields true j a)) (bool_cases (has_field fields false j b)))
        where
          apart : (j : ℕ) → (has_field fields true j a ≡ true) ⊎ (has_field fields true j a ≡ false) →
              (has_field fields false j b ≡ true) ⊎ (has_field fields false j b ≡ false) → has_field fields true j a && has_field fields false j b ≡ false
          apart j (inr p) n = rw p
          apart j (inl p) (inr n) = and-false (has_field fields true j a) n
          apart j (inl p) (inl n) =
              let x = any-true (says_field true j a) fields p in
              let y = any-true (says_field false j b) fields n in
              let sx = says_is true j a x.0 x.2 in
              let sy = says_is false j b y.0 y.2 in
              let plain = signed_true x.0.plain (agrees-is true x.0.plain sx.0) (met x.0 x.1) in
              let negated = signed_false y.0.plain (agrees-is false y.0.plain sy.0) (met y.0 y.1) in
              absurd (negated (ap₂ (λ (i v : ℕ). field i v) (sy.1 ∙ sym sx.1) (ap node sy.2 ∙ sym e ∙ ap node (sym sx.2)) ∙ plain))

      go : (u : ℕ) → (eqb (node u) (node t) ≡ true) ⊎ (eqb (node u) (node t) ≡ false) → eqb (node u) (node t) && (opposed fields u t || opposed fields t u) ≡ false
      go u (inr d) = rw d
      go u (inl e) = let p = eqb-true _ _ e in and-false (eqb (node u) (node t)) (rw (none u t p, none t u (sym p)))

  -- where opposed terms are apart, a field is set at a node exactly by plain literals, and all literals are met
  pub fields-met : (n : ℕ) → ((l : Literal) → Memᴰ l fields → (1 ≤ l.right) × (l.right ≤ n)) →
      ((t : ℕ) → 1 ≤ t → t ≤ n → field_breaks fields node t ≡ false) → (l : Literal) → Memᴰ l fields →
      Signed l.plain (any (λ k. k.plain && eqb k.left l.left && eqb (node k.right) (node l.right)) fields ≡ true)
  unfolding field_breaks opposed has_field says_field
  fields-met n range r l m = go l.plain refl
    where
      says : (sign : Bool) (k : Literal) → Memᴰ k fields → k.plain ≡ sign → (j : ℕ) → k.left ≡ j → any (says_field sign j k.right) fields ≡ true
      says sign k i e j f = any_intro (says_field sign j k.right) k i (both (both (subst (λ (b : Bool). agrees sign b ≡ true) (sym e) (agrees_self sign)) (eqb_intro f)) (eqb_self k.right))

      opposite : (k : Literal) → Memᴰ k fields → k.plain ≡ true → k.left ≡ l.left → l.plain ≡ false → opposed fields k.right l.right ≡ true
      opposite k i e f g =
          let j = number l m in
          any_intro (λ x. has_field fields true x k.right && has_field fields false x l.right) l.left (from_intro 8 1 l.left j.0 (omega (arith, j.1)))
          (both (says true k i e l.left f) (says false l m g l.left refl))

      clash : (k : Literal) → Memᴰ k fields → k.plain ≡ true → k.left ≡ l.left → node k.right ≡ node l.right → l.plain ≡ false → ⊥
      clash k i e f p g =
          let a = range k i in
          let b = range l m in
          let o = opposite k i e f g in
          ⊎_elim
          (λ c. true-false (both (eqb_intro p) (either_left _ o)) (any_false _ k.right (r l.right b.0 b.1) (from_intro l.right 1 k.right a.0 (omega arith))))
          (λ c. true-false (both (eqb_intro (sym p)) (either_right (opposed fields l.right k.right) o))
          (any_false _ l.right (r k.right a.0 a.1) (from_intro k.right 1 l.right b.0 (omega arith))))
          (le_cases k.right l.right)

      go : (b : Bool) → l.plain ≡ b → Signed b (any (λ k. k.plain && eqb k.left l.left && eqb (node k.right) (node l.right)) fields ≡ true)
      go true e = any_intro _ l m (both (both e (eqb_self l.left)) (eqb_self (node l.right)))
      go false e = λ h.
          let x = any-true _ fields h in
          let a = first_of_lem (x.0.plain && eqb x.0.left l.left) (eqb (node x.0.right) (node l.right)) x.2 in
          clash x.0 x.1 (first_of_lem x.0.plain (eqb x.0.left l.left) a)
          (eqb-true _ _ (second_of x.0.plain (eqb x.0.left l.left) a))
          (eqb-true _ _ (second_of (x.0.plain && eqb x.0.left l.left) (eqb (node x.0.right) (node l.right)) x.2)) e

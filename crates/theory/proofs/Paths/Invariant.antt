-- The invariant of every path: facts in range, single links, and the query held. The start has it, and each branch of a rule keeps it.
use Prim.Native.Nat.{ℕ}
use mathlib.Core.Path.{◌≡◌, sym, subst}
use mathlib.Core.Logic.{⊎_elim}
use mathlib.Core.Bool.{Bool, true}
use mathlib.Core.List.Memᴰ
use mathlib.Core.List.{[], ◌∷◌, Memᴰ}
use lib.Dec.{eqb}
use Rattle.logic.specs.Search.{◌and◌}
use Rattle.logic.specs.Query.{Query, term_count}
use Rattle.logic.specs.Facts.{Facts, live, start}
use Rattle.logic.specs.Rules.{Rule, REFLEX, TRANS1, TRANS2, FUNC, CYCLE, SCC, TOTAL, SHARE, Triple, triple, Move, move}
use Rattle.logic.specs.Rules.{Fact, equal, returns, round, conditions, alternatives, has_link, applies, add, branches}
use Rattle.theory.proofs.Basics.Search.{and_left, and_right, map-mem}
use Rattle.theory.proofs.Paths.Ranged.{InRange, Ranged, live_range}
use Rattle.theory.proofs.Paths.Kept.{Sane, LiveFact, add_kept}
use Rattle.theory.proofs.Paths.Applies.{has_link_range, applies_linked, applies_met}
use Rattle.theory.proofs.Paths.Round.{round_all}
use Rattle.theory.proofs.Query.Tied.{Accepted, Tied}
use Rattle.theory.proofs.Paths.Start.{start_sane, start_tied, tied_kept}

pub record Invariant (q : Query) (s : Facts) : Type 0 where
  pub sane : Sane (term_count q) s
  pub tied : Tied q s

pub start_invariant : (q : Query) → Accepted q → Invariant q (start q)
start_invariant q acc = record { sane = start_sane q acc; tied = start_tied q acc }

-- what holds of one or two elements holds of a member
one_of : {A : Type 0} (P : A → Type 0) {a x : A} → P a → Memᴰ x (a ∷ []) → P x
one_of P p m = ⊎_elim (λ e. subst P (sym e) p) (λ k. absurd (Memᴰ.not-nil k)) (Memᴰ.cases_cons m)

two_of : {A : Type 0} (P : A → Type 0) {a b x : A} → P a → P b → Memᴰ x (a ∷ b ∷ []) → P x
two_of P p p' m = ⊎_elim (λ e. subst P (sym e) p) (λ k. one_of P p' k) (Memᴰ.cases_cons m)

-- what a rule concludes is about live terms
module _ (n : ℕ) (s : Facts) (r : Ranged n s) where
  abbrev Links : ℕ → ℕ → ℕ → Bool
  Links i = (s.graph i).link

  abbrev Reach : ℕ → ℕ → ℕ → Bool
  Reach i = (s.graph i).reach

  at_link : (i : ℕ) → InRange s.links i → (k : Rule) (t : Triple) → conditions n (live n s) s.graph (move i k t) ≡ true → (c : Fact) →
      Memᴰ c (alternatives n s.graph (move i k t)) → LiveFact n s c
  unfolding conditions alternatives LiveFact
  at_link i w REFLEX (triple x y z) h c =
      let l = and_left (live n s x) (eqb y 0) (and_left (live n s x and eqb y 0) (eqb z 0) h) in
      one_of (LiveFact n s) (l, l, w)
  at_link i w TRANS1 (triple x y z) h c =
      let l = r.link_live i x y (and_left (Links i x y) (eqb z 0) h) in
      one_of (LiveFact n s) (l.0, l.1, w)
  at_link i w TRANS2 (triple x y z) h c =
      one_of (LiveFact n s) ((r.reach_live i x y (and_left (Reach i x y) (Reach i y z) h)).0, (r.reach_live i y z (and_right (Reach i x y) (Reach i y z) h)).1, w)
  at_link i w FUNC (triple x y z) h c =
      let l = r.link_live i x y (and_left (Links i x y) (Reach i x z) h) in
      let k = r.reach_live i x z (and_right (Links i x y) (Reach i x z) h) in
      two_of (LiveFact n s) (l.0, k.1) (l.1, k.1, w)
  at_link i w CYCLE (triple x y k) h c = λ m.
      let v = r.reach_live i x y (and_right (returns n (s.graph i) x k x) (Reach i x y) h) in
      let u = map-mem (equal y) c (round n (s.graph i) k x) m in
      subst (LiveFact n s) (sym u.2) (
        v.1,
        round_all n (s.graph i) x (live_range n s x v.0).0 (λ a b l. (live_range n s a (r.link_live i a b l).0).0) (λ t. live n s t ≡ true) (λ a b l. (r.link_live i a b l).1) k x
            (and_left (returns n (s.graph i) x k x) (Reach i x y) h) v.0 u.0 u.1,
      )
  at_link i w SCC (triple x y z) h c =
      let p = and_left (Reach i x y and Reach i y x) (Reach i x z) h in
      let l = r.reach_live i x y (and_left (Reach i x y) (Reach i y x) p) in
      let k = r.reach_live i x z (and_right (Reach i x y and Reach i y x) (Reach i x z) h) in
      two_of (LiveFact n s) l (k.1, k.0, w)
  at_link i w TOTAL (triple x y z) h c =
      let l = r.reach_live i x y (and_left (Reach i x y) (Reach i x z) h) in
      let k = r.reach_live i x z (and_right (Reach i x y) (Reach i x z) h) in
      two_of (LiveFact n s) (l.1, k.1, w) (k.1, l.1, w)
  at_link i w SHARE (triple x y z) h c =
      one_of (LiveFact n s)
      (r.reach_live i x y (and_right (Links i x z and Links i y z) (Reach i x y) (and_left (Links i x z and Links i y z and Reach i x y) (Reach i y x) h)))

  pub alternatives-live : (m : Move) → has_link s.links m ≡ true → conditions n (live n s) s.graph m ≡ true → (c : Fact) → Memᴰ c (alternatives n s.graph m) → LiveFact n s c
  alternatives-live (move i k t) w h c = at_link i (has_link_range s.links i k t w) k t h c

-- each branch keeps the invariant
pub branch_invariant : (q : Query) (s : Facts) (m : Move) → Invariant q s → applies (term_count q) s m ≡ true → (s' : Facts) → Memᴰ s' (branches (term_count q) s m) → Invariant q s'
unfolding branches
branch_invariant q s m i h s' k =
    let c = map-mem (add (term_count q) s) s' (alternatives (term_count q) s.graph m) k in
    let l = alternatives-live (term_count q) s i.sane.ranged m (applies_linked (term_count q) s m h) (applies_met (term_count q) s m h) c.0 c.1 in
    let a = add_kept (term_count q) s c.0 l i.sane in
    subst (Invariant q) (sym c.2) (record { sane = a.sane; tied = tied_kept q s _ i.tied a })

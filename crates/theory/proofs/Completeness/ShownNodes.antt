-- The nodes of the heap shown: the terms not replaced, or one node of no term; and the link shown leads from node to node.
use Prim.Native.Nat.{ℕ, zero, suc, ◌≤◌}
use native.Mathlib.Omega.{arith}
use mathlib.Core.Path.{◌≡◌, refl}
use mathlib.Core.Bool.{true}
use mathlib.Core.List.Memᴰ
use mathlib.Core.List.{List, [], ◌∷◌, Memᴰ}
use lib.ListN.{length}
use lib.Dec.{eqb, ltb}
use borrow.Author.Tests.{ltb-true}
use Rattle.logic.specs.Search.{◌and◌, from, select, first_of, find}
use Rattle.logic.specs.Facts.{Facts, terms, live, live_terms}
use Rattle.logic.specs.Rules.{next}
use Rattle.logic.specs.Shown.{link_each, shown_link, or_zero, nodes}
use Rattle.theory.proofs.Basics.Search.{and_left, and_right, select_intro, from_intro}
use Rattle.theory.proofs.Basics.Count.{length_from, select-length}
use Rattle.theory.proofs.Completeness.Completed.{Completed}

or_zero-length : (ts : List ℕ) → length ts ≤ 16 → (1 ≤ length (or_zero ts)) × (length (or_zero ts) ≤ 16)
unfolding or_zero
or_zero-length [] h = (omega arith, omega arith)
or_zero-length (t ∷ ts) h = (omega arith, h)

-- where there is a term, the nodes are terms alone
or_zero-mem : {ts : List ℕ} (v : ℕ) → Memᴰ v ts → or_zero ts ≡ ts
unfolding or_zero
or_zero-mem {ts = []} v m = absurd (Memᴰ.not-nil m)
or_zero-mem {ts = t ∷ ts} v m = refl

module _ (n : ℕ) (s : Facts) where
  pub live-mem : (t : ℕ) → live n s t ≡ true → Memᴰ t (live_terms n s)
  unfolding live_terms live terms
  live-mem t e =
      let inside = and_left (ltb 0 t and ltb t (suc n)) (eqb (s.rep t) t) e in
      let above = ltb-true 0 t (and_left (ltb 0 t) (ltb t (suc n)) inside) in
      let below = ltb-true t (suc n) (and_right (ltb 0 t) (ltb t (suc n)) inside) in
      select_intro (live n s) t (from_intro n 1 t above (omega arith)) e

  pub nodes-length : n ≤ 16 → (1 ≤ length (nodes n s)) × (length (nodes n s) ≤ 16)
  unfolding nodes live_terms terms
  nodes-length h = or_zero-length (live_terms n s) (omega (arith, select-length (live n s) (from n 1), length_from n 1))

  pub live_node : (t : ℕ) → live n s t ≡ true → Memᴰ t (nodes n s)
  unfolding nodes
  live_node t e = let m = live-mem t e in rw (or_zero-mem t m) m

-- with no terms, the one node has no link fact, and so is linked to 0, itself
no_terms : (s : Facts) (i v : ℕ) → Memᴰ (shown_link 0 s i v) (nodes 0 s)
unfolding shown_link link_each nodes or_zero live_terms terms from select next find first_of
no_terms s i v = Memᴰ.head refl

pub shown_link_node : (n : ℕ) (s : Facts) (i : ℕ) → ((t : ℕ) → 1 ≤ t → t ≤ n → live n s (s.rep t) ≡ true) → Completed n (live_terms n s) (s.graph i) →
    (v : ℕ) → Memᴰ v (nodes n s) → Memᴰ (shown_link n s i v) (nodes n s)
unfolding nodes shown_link
shown_link_node zero s i tied comp v m = no_terms s i v
shown_link_node (suc n) s i tied comp v m =
    let e = or_zero-mem (s.rep 1) (live-mem (suc n) s (s.rep 1) (tied 1 (omega arith) (omega arith))) in
    rw e (comp.completed_in v (rw e at m))

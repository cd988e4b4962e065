-- A heap of a path is one of every path whose facts it holds.
use Prim.Native.Nat.{ℕ}
use native.Mathlib.Omega.{arith}
use mathlib.Core.Path.{sym, ap, ◌∙◌, subst₂}
use Rattle.logic.specs.Query.{Query, term_count}
use Rattle.logic.specs.Heap.{Reaches, value}
use Rattle.logic.specs.Facts.{Facts}
use Rattle.logic.specs.Decision.{HasHeap}
use Rattle.theory.proofs.Query.Tied.{Accepted}
use Rattle.theory.proofs.Paths.Ranged.{Ranged, live_range}
use Rattle.theory.proofs.Calls.Decision.{Known}
use Rattle.covering.specs.Covers.{Covers}

pub covered_heap : (q : Query) → Accepted q → (w s : Facts) → Known q s → Covers w s → HasHeap q w → HasHeap q s
covered_heap q ok w s k c (h, m) = (
  h,
  record {
    meets = m.meets;
    rep_value = λ t l le.
        let g = live_range n s (s.rep t) (r.rep_live t (l, le)) in
        sym (m.rep_value (s.rep t) g.0 g.1) ∙ ap Val (c.same_reps t (omega (arith, ok.term_count_lem))) ∙ m.rep_value t l le;
    link_true = λ i a b e.
        let (p, p') = r.link_live i a b e in
        let g = live_range n s a p in
        let g' = live_range n s b p' in
        ap (h.link i) (sym (m.rep_value a g.0 g.1)) ∙ m.link_true i (w.rep a) (w.rep b) (c.links_held i a b e) ∙ m.rep_value b g'.0 g'.1;
    reach_true = λ i a b e.
        let (p, p') = r.reach_live i a b e in
        let g = live_range n s a p in
        let g' = live_range n s b p' in
        subst₂ (Reaches (h.link i)) (m.rep_value a g.0 g.1) (m.rep_value b g'.0 g'.1) (m.reach_true i (w.rep a) (w.rep b) (c.reach_held i a b e));
  },
)
  where
    n : ℕ
    n = term_count q

    r : Ranged (term_count q) s
    r = k.invariant.sane.ranged

    Val : ℕ → ℕ
    Val = value h q.entries

-- How our walk ends, from what is settled of its start.
use Prim.Native.Nat.{ℕ, ◌+◌, ◌*◌}
use native.Mathlib.Omega.{arith}
use mathlib.Core.Path.{◌≡◌, refl, sym, ap, ◌∙◌, subst}
use mathlib.Core.Bool.{true, false, true≢false, false≢true}
use mathlib.Core.List.{List}
use Rattle.logic.specs.Query.{Query, term_count, is_order}
use Rattle.logic.specs.Heap.{Satisfiable}
use Rattle.logic.specs.Facts.{Facts, Joined, Line, join_lines}
use Rattle.logic.specs.Walk.{Ending, refutation, saturation, after, walk_branch, walk, order_of, Verdict, our_walk, our_verdict}
use Rattle.logic.specs.Steps.{at_first}
use Rattle.logic.specs.Decision.{Reachable, HasHeap, NoHeap}
use Rattle.theory.proofs.Query.Tied.{Accepted}
use Rattle.theory.proofs.Calls.Decision.{start_heap}
use Rattle.theory.proofs.Calls.Verdicts.{our_right}
use Rattle.start.specs.Started.{started}
use Rattle.kinds.specs.Kinds.{is_refuted}
use Rattle.plain_steps.specs.Walks.{WalksTo}
use Rattle.kinds.specs.declared.Kind.{Kind}
use Rattle.kinds.specs.declared.Kind.TheVariants as kind
use Rattle.plain_steps.proofs.Cases.{refuted_is}
use Rattle.prover.proofs.Outcomes.{our_walk_lem}

-- the walk begins at a path that it can reach
pub start_reached : (q : Query) (j : Joined) → j ≡ started q → Reachable q j.facts
unfolding started
start_reached q j e = subst (Reachable q) (sym (ap (λ (i : Joined). i.facts) e)) (0, at_first)

-- a refuted walk has lines
pub refuted_lines : (e : Ending) → our_verdict e ≡ Verdict.refuted → (ls : List Line) × (e ≡ refutation ls)
unfolding our_verdict
refuted_lines (refutation ls) h = (ls, refl)
refuted_lines (saturation s) h = let z : ◌≡◌ {A = ℕ} 0 1 = cc in absurd (omega arith)

module _ (q : Query) (ok : Accepted q) (order : List ℕ) (o : is_order order ≡ true) (links n k : ℕ) (j : Joined) (same_links : links ≡ q.links)
    (same_terms : n ≡ term_count q) (counted : k ≡ links * (n * n) + n) (begun : j ≡ started q) (r : Kind) (s : Facts)
    (told : WalksTo q order k j.facts false r s) where
  whole : walk_branch (walk q (order_of order) k) j ≡ our_walk order q
  whole = our_walk_lem q links n k j same_links same_terms counted begun order

  open_kind : (c : Kind) → r ≡ c → is_refuted c ≡ false → c ≡ kind.Open
  open_kind kind.Refuted e f = absurd (true≢false f)
  open_kind kind.Open e f = refl
  open_kind kind.Unknown e f = absurd (false≢true (told.gives_up e))

  -- no heap of the start is none of the query
  no_heap : NoHeap q j.facts → Satisfiable q → ⊥
  unfolding started
  no_heap free (h, meets) = free (subst (λ (i : Joined). HasHeap q i.facts) (sym begun) (start_heap q ok h meets))

  pub settles_refuted : is_refuted r ≡ true → our_verdict (our_walk order q) ≡ Verdict.refuted
  settles_refuted f = (our_right q ok order o).refuted_exactly.1 (no_heap (told.refuted (refuted_is r f)))

  pub settles_open : is_refuted r ≡ false → our_walk order q ≡ saturation s
  unfolding walk_branch after
  settles_open f = sym whole ∙ ap (after (join_lines j.pairs)) (told.ends (open_kind r refl f))

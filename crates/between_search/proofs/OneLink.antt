-- A query of six sections knows one link: f of a term follows it, and reachability literals are about it.
use Prim.Native.Nat.{ℕ, ◌≤◌}
use native.Mathlib.Omega.{arith}
use mathlib.Core.Path.{◌≡◌, ap, ◌∙◌}
use mathlib.Core.List.{Memᴰ}
use Rattle.logic.specs.Query.{Literal, argument_of, link_of, term_count}
use Rattle.logic.specs.Heap.{Heap, value}
use Rattle.theory.proofs.Query.Entries.{argument_range}
use Rattle.theory.proofs.Soundness.Value.{accepted_below, value-link}
use Rattle.between.specs.Meaning.{BetweenQuery}
use Rattle.between.proofs.SmallModel.{AcceptedBetween}

-- what the search needs to know of a query
pub record AcceptedSix (q : BetweenQuery) : Type 0 where
  pub accepted : AcceptedBetween q
  pub one_link_lem : q.base.links ≡ 1

module _ (q : BetweenQuery) (ok : AcceptedSix q) where
  pub reach_one : (l : Literal) → Memᴰ l q.base.reachability → l.link ≡ 1
  reach_one l m = let r = ok.accepted.base.reach_linked l m in omega (arith, r, ok.one_link_lem)

  link-one : (t : ℕ) → 1 ≤ argument_of q.base.entries t → link_of q.base.entries t ≡ 1
  unfolding term_count
  link-one t l = let r = ok.accepted.base.entry_linked t (argument_range q.base.entries t l) l in omega (arith, r, ok.one_link_lem)

  pub value_one : (h : Heap) (t : ℕ) → 1 ≤ argument_of q.base.entries t → value h q.base.entries t ≡ h.link 1 (value h q.base.entries (argument_of q.base.entries t))
  value_one h t l =
      value-link h q.base.entries (accepted_below q.base ok.accepted.base) t l
      ∙ ap (λ (k : ℕ). h.link k (value h q.base.entries (argument_of q.base.entries t))) (link-one t l)

-- Heaps with booleans and the old meaning of a query (01, "The logic").
use Rattle.std.specs.Prelude.{ℕ, ◌≡◌, Bool, true}
use Rattle.logic.specs.Query.{Literal}
use Rattle.logic.specs.Heap.{Heap, Signed, Each, Meets}
use Rattle.rewriting.specs.OldQuery.{OldQuery}

-- "A heap is a finite set of at least one node, .., and 8 booleans outside the nodes."
pub record OldHeap : Type 0 where
  pub heap : Heap
  pub boolean : ℕ → Bool

-- "Literals, plain or negated: ..; boolean."
abbrev pub MeansBoolean : OldHeap → Literal → Type 0
MeansBoolean h l = Signed l.plain (h.boolean l.left ≡ true)

-- the heap meets every literal of the old query
pub record MeetsOld (h : OldHeap) (o : OldQuery) : Type 0 where
  pub meets_base : Meets h.heap o.base
  pub booleans : Each (MeansBoolean h) o.booleans

-- "some finite heap .. meets every literal" (00, demand 2), "under the old meaning" (02, R-13)
abbrev pub SatisfiableOld : OldQuery → Type 0
SatisfiableOld o = (h : OldHeap) × MeetsOld h o

-- What it is to decide a path: whether some finite heap meets the query and the facts of the path. How it is found out is free: `Follows`,
-- `Closes` and `Struck` are in no paper, and serve the contracts of the strategies.
use Rattle.std.specs.Prelude.{ℕ, ◌≤◌, ◌<◌, ◌≡◌, ◌↔◌, Bool, true, List, get_or}
use Rattle.logic.specs.Query.{Query, is_order, term_count}
use Rattle.logic.specs.Heap.{Heap, Reaches, Meets, value}
use Rattle.logic.specs.Facts.{Facts, live, start}
use Rattle.logic.specs.Rules.{Move, branches}
use Rattle.logic.specs.Walk.{order_of, walk, Verdict, our_verdict}
use Rattle.logic.specs.Steps.{Steps, AtMost}
use Rattle.logic.specs.Calls.{CallForm, accepts_by}

-- the heap meets the query, a term has the value of what it was replaced by, and the facts of the path are true
pub record MeetsPath (h : Heap) (q : Query) (s : Facts) : Type 0 where
  pub meets : Meets h q
  pub rep_value : (t : ℕ) → 1 ≤ t → t ≤ term_count q → value h q.entries (s.rep t) ≡ value h q.entries t
  pub link_true : (i a b : ℕ) → (s.graph i).link a b ≡ true → h.link i (value h q.entries a) ≡ value h q.entries b
  pub reach_true : (i a b : ℕ) → (s.graph i).reach a b ≡ true → Reaches (h.link i) (value h q.entries a) (value h q.entries b)

-- some finite heap does; none of any size does
abbrev pub HasHeap : Query → Facts → Type 0
HasHeap q s = (h : Heap) × MeetsPath h q s

abbrev pub NoHeap : Query → Facts → Type 0
NoHeap q s = HasHeap q s → ⊥

-- a path that a walk can reach, whichever applicable rule is picked each time
abbrev pub Reachable : Query → Facts → Type 0
Reachable q s = (k : ℕ) × Steps (term_count q) (start q) k s

-- The facts "a reaches b" that REFLEX, TRANS1 and TRANS2 give, one after the other.
pub data Follows (alive : ℕ → Bool) (link reach : ℕ → ℕ → Bool) : ℕ → ℕ → Type 0 where
  is_held : {a b : ℕ} → reach a b ≡ true → Follows alive link reach a b
  itself : {a : ℕ} → alive a ≡ true → Follows alive link reach a a
  by_link : {a b : ℕ} → link a b ≡ true → Follows alive link reach a b
  onward : {a b c : ℕ} → Follows alive link reach a b → Follows alive link reach b c → Follows alive link reach a c

-- a path with more such facts, and no other change
pub record Closes (n : ℕ) (s s' : Facts) : Type 0 where
  pub same_rep : s'.rep ≡ s.rep
  pub same_links : s'.links ≡ s.links
  pub same_link : (i : ℕ) → (s'.graph i).link ≡ (s.graph i).link
  pub reach_kept : (i a b : ℕ) → (s.graph i).reach a b ≡ true → (s'.graph i).reach a b ≡ true
  pub reach_linked : (i a b : ℕ) → (s'.graph i).reach a b ≡ true → (1 ≤ i) × (i ≤ s.links)
  pub reach_follows : (i a b : ℕ) → (s'.graph i).reach a b ≡ true → Follows (live n s) (s.graph i).link (s.graph i).reach a b

-- the branches of a rule before the i-th (from 0) have no heap
abbrev pub Struck : Query → Facts → Move → ℕ → Type 0
Struck q s m i = (j : ℕ) → j < i → NoHeap q (get_or (branches (term_count q) s m) j s)

-- The third demand's claim, of every path that a walk can reach: our walk of it, under whatever order list, is satisfiable exactly when some
-- finite heap meets the query and the facts of the path, and refuted exactly when none of any size does.
pub record PathsDecided (f : CallForm) : Type 0 where
  pub satisfiable_exactly : (query order : List ℕ) (s : Facts) (k : ℕ) → accepts_by f query ≡ true → is_order order ≡ true → Reachable (f.decode query) s → AtMost (term_count (f.decode query)) s k → (our_verdict (walk (f.decode query) (order_of order) k s) ≡ Verdict.satisfiable) ↔ HasHeap (f.decode query) s
  pub refuted_exactly : (query order : List ℕ) (s : Facts) (k : ℕ) → accepts_by f query ≡ true → is_order order ≡ true → Reachable (f.decode query) s → AtMost (term_count (f.decode query)) s k → (our_verdict (walk (f.decode query) (order_of order) k s) ≡ Verdict.refuted) ↔ NoHeap (f.decode query) s

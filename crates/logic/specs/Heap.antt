-- Heaps and what the literals mean (01, "The logic"; 000, Sect. 5).
use Rattle.std.specs.Prelude.{ℕ, zero, suc, ◌≤◌, ◌≡◌, Bool, true, false, cond, eqb}
use mathlib.Core.List.{List, Memᴰ}
use Rattle.logic.specs.Query.{Literal, Entries, Query, names_nil, argument_of, link_of}

-- "A heap is a finite set of at least one node, with one link f from every node to a node, a yes or no in each of 8 data fields at
-- every node"; the booleans outside the nodes are retired (02, R-13), and the links are numbered (02, R-11): a query says nothing of links
-- that it does not name. The nodes are the numbers 1 to `size`. As in 000, a heap also says which node each variable names; a variable goes
-- by its term number.
pub record Heap : Type 0 where
  pub size : ℕ
  pub link : ℕ → ℕ → ℕ
  pub field : ℕ → ℕ → Bool
  pub variable : ℕ → ℕ

abbrev pub Node : Heap → ℕ → Type 0
Node h v = (1 ≤ v) × (v ≤ h.size)

pub record IsHeap (h : Heap) : Type 0 where
  pub nonempty : 1 ≤ h.size
  pub link_node : (i v : ℕ) → Node h v → Node h (h.link i v)
  pub variable_node : (t : ℕ) → Node h (h.variable t)

-- "A term is a variable or f of an earlier term", or nil, which the heap names as it does a variable. The value of term t, whose argument
-- and theirs are followed at most k times.
unfoldable pub value_within : Heap → Entries → ℕ → ℕ → ℕ
value_within h entries zero t = h.variable t
value_within h entries (suc k) t =
    cond (eqb (argument_of entries t) 0) (h.variable t) (h.link (link_of entries t) (value_within h entries k (argument_of entries t)))

-- arguments are below their term's number, so t times is enough
unfoldable pub value : Heap → Entries → ℕ → ℕ
value h entries t = value_within h entries t t

-- f applied k times
unfoldable pub iterate : (ℕ → ℕ) → ℕ → ℕ → ℕ
iterate f zero v = v
iterate f (suc k) v = iterate f k (f v)

-- "a reaches b (zero or more links)"
unfoldable pub Reaches : (ℕ → ℕ) → ℕ → ℕ → Type 0
Reaches f v w = (k : ℕ) × (iterate f k v ≡ w)

-- "Literals, plain or negated"
abbrev pub Signed : Bool → Type 0 → Type 0
Signed true P = P
Signed false P = P → ⊥

-- what a literal of each section means in a heap
module _ (h : Heap) (entries : Entries) where
  abbrev pub MeansEqual : Literal → Type 0
  MeansEqual l = Signed l.plain (value h entries l.left ≡ value h entries l.right)

  abbrev pub MeansReach : Literal → Type 0
  MeansReach l = Signed l.plain (Reaches (h.link l.link) (value h entries l.left) (value h entries l.right))

  abbrev pub MeansField : Literal → Type 0
  MeansField l = Signed l.plain (h.field l.left (value h entries l.right) ≡ true)

abbrev pub Each : (Literal → Type 0) → List Literal → Type 0
Each P ls = (l : Literal) → Memᴰ l ls → P l

-- "all nil terms are one node and its link goes to itself" (02, R-3), whichever link it is
pub record NilNode (h : Heap) (entries : Entries) : Type 0 where
  pub one_node' : (t u : ℕ) → names_nil entries t ≡ true → names_nil entries u ≡ true → value h entries t ≡ value h entries u
  pub own_link : (i t : ℕ) → names_nil entries t ≡ true → h.link i (value h entries t) ≡ value h entries t

-- the heap meets every literal of the query; "heaps for a query that names nil obey this" rule of nil
pub record Meets (h : Heap) (q : Query) : Type 0 where
  pub is_heap : IsHeap h
  pub nil_node : NilNode h q.entries
  pub equalities : Each (MeansEqual h q.entries) q.equalities
  pub reachability : Each (MeansReach h q.entries) q.reachability
  pub fields : Each (MeansField h q.entries) q.fields

-- "some finite heap .. meets every literal" (demand 2)
abbrev pub Satisfiable : Query → Type 0
Satisfiable q = (h : Heap) × Meets h q

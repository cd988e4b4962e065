-- What is said of a link after some assignments, as an and/or of literals about the cut link (03, "A way"), over names of any kind: `node` of a name is the
-- node that it stands for.
use Rattle.std.specs.Prelude.{ℕ, zero, suc, ◌⊎◌, ◌≡◌, Bool, true, false, cond, List, [], ◌∷◌, eqb, ltb}
use Rattle.logic.specs.Search.{from}
use Rattle.logic.specs.Heap.{Reaches}
use Rattle.routine_logic.specs.State.{changed}
use Rattle.routine_logic.specs.Formulas.{same_truth}
use Rattle.cut_theory.specs.Jumps.{without}

-- literals: two names are one node, or not; by the cut link one reaches the other, and leads to the other; a name's flag is 1 or 0 at first
pub data Tree (A : Type 0) : Type 0 where
  yes_tree no_tree : Tree A
  flagged : Bool → A → Tree A
  same differ far leads : A → A → Tree A
  both either : Tree A → Tree A → Tree A

-- all of some, one of some
unfoldable pub every : {A : Type 0} → (ℕ → Tree A) → List ℕ → Tree A
every f [] = yes_tree
every f (i ∷ is) = both (f i) (every f is)

unfoldable pub some_tree : {A : Type 0} → (ℕ → Tree A) → List ℕ → Tree A
some_tree f [] = no_tree
some_tree f (i ∷ is) = either (f i) (some_tree f is)

-- The cuts by name: those of the assignments first; what each assignment gives; and what the link led to from each cut at first.
pub record Cuts (A : Type 0) : Type 0 where
  pub number : ℕ
  pub cut : ℕ → A
  pub value : ℕ → A
  pub old : ℕ → A

-- cut i counts after the first j assignments: no later one of them is to its node; of those not assigned yet, no earlier cut is its node
unfoldable pub active_tree : {A : Type 0} → Cuts A → ℕ → ℕ → Tree A
active_tree c j i =
    cond (ltb i j)
    (every (λ m. cond (ltb i m) (differ (c.cut m) (c.cut i)) yes_tree) (from j 0))
    (every (λ m. differ (c.cut m) (c.cut i)) (from i 0))

unfoldable pub target_name : {A : Type 0} → Cuts A → ℕ → ℕ → A
target_name c j i = cond (ltb i j) (c.value i) (c.old i)

-- "by h from a to b, or by h from a to some xi .. from there by a jump .. each xi at most once"; where a name is given to be avoided, no jump is made from
-- its node
unfoldable pub avoiding : {A : Type 0} → List A → A → Tree A
avoiding [] x = yes_tree
avoiding (z ∷ zs) x = both (differ x z) (avoiding zs x)

unfoldable pub reach_tree : {A : Type 0} → Cuts A → ℕ → List A → ℕ → List ℕ → A → A → Tree A
reach_tree c j zs zero left a b = far a b
reach_tree c j zs (suc m) left a b =
    either (far a b)
    (some_tree (λ i. both (far a (c.cut i)) (both (active_tree c j i) (both (avoiding zs (c.cut i)) (reach_tree c j zs m (without i left) (target_name c j i) b)))) left)

-- a reaches b after j assignments; b is between a and z; the link leads from a to r
unfoldable pub reaches_tree : {A : Type 0} → Cuts A → ℕ → A → A → Tree A
reaches_tree c j a b = reach_tree c j [] c.number (from c.number 0) a b

unfoldable pub between_tree : {A : Type 0} → Cuts A → ℕ → A → A → A → Tree A
between_tree c j a b z = both (reach_tree c j (z ∷ []) c.number (from c.number 0) a b) (reaches_tree c j a z)

unfoldable pub read_tree : {A : Type 0} → Cuts A → ℕ → A → A → Tree A
read_tree c j a r =
    either
    (some_tree (λ i. both (same (c.cut i) a) (both (active_tree c j i) (same (target_name c j i) r))) (from c.number 0))
    (both (every (λ i. differ (c.cut i) a) (from c.number 0)) (leads a r))

-- An assignment to a flag: a name, and what it is given.
pub record Mark (A : Type 0) : Type 0 where
  pub name : A
  pub value : Bool

-- the flag of a name is b after some assignments to it, the last one first
unfoldable pub flag_tree : {A : Type 0} → List (Mark A) → Bool → A → Tree A
flag_tree [] b a = flagged b a
flag_tree (m ∷ ms) b a = either (both (same a m.name) (cond (same_truth m.value b) yes_tree no_tree)) (both (differ a m.name) (flag_tree ms b a))

-- a tree holds where names stand for nodes, h is the cut link, and a flag is this at first
module _ {A : Type 0} (node : A → ℕ) (h : ℕ → ℕ) (first : ℕ → Bool) where
  -- the flag after the assignments
  unfoldable pub flag_after : List (Mark A) → ℕ → Bool
  flag_after [] = first
  flag_after (m ∷ ms) = changed (flag_after ms) (node m.name) m.value

  unfoldable pub Holds : Tree A → Type 0
  Holds (flagged b a) = first (node a) ≡ b
  Holds yes_tree = Unit
  Holds no_tree = ⊥
  Holds (same a b) = node a ≡ node b
  Holds (differ a b) = node a ≡ node b → ⊥
  Holds (far a b) = Reaches h (node a) (node b)
  Holds (leads a b) = h (node a) ≡ node b
  Holds (both f g) = Holds f × Holds g
  Holds (either f g) = Holds f ⊎ Holds g

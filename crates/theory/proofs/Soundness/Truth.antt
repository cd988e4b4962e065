-- What it is for the facts of a path to be true of functions, one a link, and of values for the terms. 0 is no term: a true fact speaks of terms.
use Prim.Native.Nat.{ℕ, ◌≤◌}
use mathlib.Core.Path.{◌≡◌, refl, sym, subst₂}
use mathlib.Core.Bool.{true}
use mathlib.Core.List.{List, Memᴰ}
use Rattle.logic.specs.Heap.{Reaches}
use Rattle.logic.specs.Facts.{Graph, Facts}
use Rattle.logic.specs.Rules.{Fact, equal, reaches}

-- a and b are terms, and R stands between their values
pub record Between (val : ℕ → ℕ) (R : ℕ → ℕ → Type 0) (a b : ℕ) : Type 0 where
  pub left_term : 1 ≤ a
  pub right_term : 1 ≤ b
  pub stands : R (val a) (val b)

pub between : {val : ℕ → ℕ} {R : ℕ → ℕ → Type 0} {a b : ℕ} → 1 ≤ a → 1 ≤ b → R (val a) (val b) → Between val R a b
between l m r = record { left_term = l; right_term = m; stands = r }

-- a and b are terms of one value
abbrev pub Same : (ℕ → ℕ) → ℕ → ℕ → Type 0
Same val = Between val ◌≡◌

pub same_refl : (val : ℕ → ℕ) (a : ℕ) → 1 ≤ a → Same val a a
same_refl val a l = between l l refl

-- what stands between terms stands between others of the same values
pub between_same : {val : ℕ → ℕ} {R : ℕ → ℕ → Type 0} {a b x y : ℕ} → Same val a x → Same val b y → Between val R x y → Between val R a b
between_same {R} p q r = between p.left_term q.left_term (subst₂ R (sym p.stands) (sym q.stands) r.stands)

module _ (f val : ℕ → ℕ) where
  abbrev pub Linked : ℕ → ℕ → Type 0
  Linked = Between val (λ v w. f v ≡ w)

  abbrev pub Reached : ℕ → ℕ → Type 0
  Reached = Between val (Reaches f)

  -- the facts about a link are true of f and the values
  pub record TrueGraph (g : Graph) : Type 0 where
    pub link_true : (a b : ℕ) → g.link a b ≡ true → Linked a b
    pub reach_true : (a b : ℕ) → g.reach a b ≡ true → Reached a b

module _ (f : ℕ → ℕ → ℕ) (val : ℕ → ℕ) where
  abbrev pub True : Fact → Type 0
  True (equal a b) = Same val a b
  True (reaches i a b) = Reached (f i) val a b

  -- one of the facts is true
  abbrev pub SomeTrue : List Fact → Type 0
  SomeTrue cs = (c : Fact) × Memᴰ c cs × True c

  -- the facts are true of f and the values, and a term has the value of what it was replaced by
  pub record Holds (s : Facts) : Type 0 where
    pub rep_true : (t : ℕ) → 1 ≤ t → Same val (s.rep t) t
    pub graph_true : (i : ℕ) → TrueGraph (f i) val (s.graph i)

  -- what stands between terms stands between those that they were replaced by
  pub rep-between : {R : ℕ → ℕ → Type 0} {a b : ℕ} (s : Facts) → Holds s → Between val R a b → Between val R (s.rep a) (s.rep b)
  rep-between {a} {b} s h r = between_same (h.rep_true a r.left_term) (h.rep_true b r.right_term) r

-- Names of a path: what they read is read after some of the path's assignments, and what is given was asked for on it.
use Prim.Native.Nat.{ℕ, zero, suc, ◌-◌, ◌+◌, ◌<◌}
use mathlib.Core.Path.{refl}
use mathlib.Core.Bool.{Bool, true, false, not, cond}
use mathlib.Core.List.Memᴰ
use mathlib.Core.List.{List, [], ◌∷◌, ◌++◌, Memᴰ}
use lib.Dec.{eqb, ltb}
use lib.ListN.{get_or}
use Rattle.routine_logic.specs.Syntax.{Base, null, variable, bound, Term, Formula, always, never, equal, unequal, reaches, between, flag, negation, both, either, implies, same, forall}
use Rattle.cut_theory.specs.Trees.{Mark}
use Rattle.path_theory.specs.Points.{Name, nil, initial, given, read, Stores, none, store, Marks, unmarked, mark, Point}
use Rattle.path_theory.specs.Assignments.{count, assigned_at, value_at, Begins, whole, longer}
use Rattle.literal_theory.specs.Labels.{Label, named, chosen, after, read_label, base_label, along_label, term_label, names_in, stores_in, labels_in, Plan, cut_label, cut_names, marks_of}
use Rattle.literal_theory.specs.Translation.{Places, left, right, Cut, betweens}
use Rattle.literal_theory.proofs.Names.{Each, each_cons, each_append, OwnCut}

module _ (P : Plan) where
  unfoldable mutual
    pub OnPath : Name → Type 0
    OnPath nil = Unit
    OnPath (initial x) = Unit
    OnPath (given k) = k < P.havocs
    OnPath (read i w a) = Begins w (P.stores i) × OwnStores w × OnPath a

    pub OwnStores : Stores → Type 0
    OwnStores none = Unit
    OwnStores (store w a b) = OwnStores w × OnPath a × OnPath b

  unfoldable pub OwnLabel : Label → Type 0
  OwnLabel (named a) = OnPath a
  OwnLabel (chosen k d) = Unit
  OwnLabel (after i w l) = Begins w (P.stores i) × OwnStores w × OwnLabel l

  unfoldable pub OwnMarks : Marks → Type 0
  OwnMarks unmarked = Unit
  OwnMarks (mark m a b) = OwnMarks m × OnPath a

  -- a point of the path
  pub record OwnPoint (p : Point) : Type 0 where
    pub begins : (i : ℕ) → Begins (p.stores i) (P.stores i)
    pub stores : (i : ℕ) → OwnStores (p.stores i)
    pub env : (x : ℕ) → OnPath (p.env x)
    pub marks : (j : ℕ) → OwnMarks (p.marks j)

  -- the cuts are of the path
  pub record OwnPlan : Type 0 where
    pub stores : (i : ℕ) → OwnStores (P.stores i)
    pub further : (i : ℕ) → Each OwnLabel (P.further i)

  pub read-own : (i : ℕ) (w : Stores) (l : Label) → Begins w (P.stores i) → OwnStores w → OwnLabel l → OwnLabel (read_label i w l)
  unfolding read_label OwnLabel OnPath
  read-own i w (named a) h k o = (h, k, o)
  read-own i w (chosen n d) h k o = (h, k, o)
  read-own i w (after j v l) h k o = (h, k, o)

  -- what a label is made of
  mutual
    unfolding names_in stores_in OnPath OwnStores OwnLabel

    name_parts : (a : Name) → OnPath a → Each OwnLabel (names_in a)
    name_parts nil h = each_cons OwnLabel (named nil) [] h (λ x m. absurd (Memᴰ.not-nil m))
    name_parts (initial x) h = each_cons OwnLabel (named (initial x)) [] h (λ x m. absurd (Memᴰ.not-nil m))
    name_parts (given k) h = each_cons OwnLabel (named (given k)) [] h (λ x m. absurd (Memᴰ.not-nil m))
    name_parts (read i w a) h =
        each_cons OwnLabel (named (read i w a)) _ h (each_append OwnLabel (stores_in w) (names_in a) (store_parts w h.1) (name_parts a h.2))

    store_parts : (w : Stores) → OwnStores w → Each OwnLabel (stores_in w)
    store_parts none h = λ x m. absurd (Memᴰ.not-nil m)
    store_parts (store w a b) h =
        each_append OwnLabel (stores_in w) (names_in a ++ names_in b) (store_parts w h.0)
        (each_append OwnLabel (names_in a) (names_in b) (name_parts a h.1) (name_parts b h.2))

  pub label_parts : (l : Label) → OwnLabel l → Each OwnLabel (labels_in l)
  unfolding labels_in OwnLabel
  label_parts (named a) h = name_parts a h
  label_parts (chosen k d) h = each_cons OwnLabel (chosen k d) [] h (λ x m. absurd (Memᴰ.not-nil m))
  label_parts (after i w l) h =
      each_cons OwnLabel (after i w l) _ h (each_append OwnLabel (stores_in w) (labels_in l) (store_parts w h.1) (label_parts l h.2))

  -- assignments by number
  assigned_own : (w : Stores) (k : ℕ) → OwnStores w → OnPath (assigned_at w k)
  unfolding assigned_at OwnStores OnPath
  assigned_own none k h = tt
  assigned_own (store w a b) k h = go (eqb k (count w)) (assigned_own w k h.0)
    where
      go : (c : Bool) → OnPath (assigned_at w k) → OnPath (cond c a (assigned_at w k))
      go true o = h.1
      go false o = o

  value-own : (w : Stores) (k : ℕ) → OwnStores w → OnPath (value_at w k)
  unfolding value_at OwnStores OnPath
  value-own none k h = tt
  value-own (store w a b) k h = go (eqb k (count w)) (value-own w k h.0)
    where
      go : (c : Bool) → OnPath (value_at w k) → OnPath (cond c b (value_at w k))
      go true o = h.2
      go false o = o

  nil-own : OwnLabel (named nil)
  unfolding OwnLabel OnPath
  nil-own = tt

  get_d_own : (ls : List Label) (k : ℕ) → Each OwnLabel ls → OwnLabel (get_or ls k (named nil))
  get_d_own [] k h = nil-own
  get_d_own (l ∷ ls) zero h = h l (Memᴰ.head refl)
  get_d_own (l ∷ ls) (suc k) h = get_d_own ls k (λ x m. h x (Memᴰ.tail m))

  pub begins-none : (w : Stores) → Begins none w
  begins-none none = whole
  begins-none (store w a b) = longer (begins-none w)

  pub cuts_own : OwnPlan → (i : ℕ) → OwnCut OwnLabel (cut_names P i)
  unfolding cut_names OwnLabel OwnStores
  cuts_own plan i k l = (cut_own, value-own (P.stores i) k (plan.stores i), read-own i none (cut_label P i k) (begins-none (P.stores i)) tt cut_own)
    where
      cut_own : OwnLabel (cut_label P i k)
      cut_own = unfold cut_label in go (ltb k (count (P.stores i)))
        where
          go : (c : Bool) → OwnLabel (cond c (named (assigned_at (P.stores i) k)) (get_or (P.further i) (k - count (P.stores i)) (named nil)))
          go true = assigned_own (P.stores i) k (plan.stores i)
          go false = get_d_own (P.further i) (k - count (P.stores i)) (plan.further i)

  -- terms at a point, and what is marked there
  module _ (p : Point) (own : OwnPoint p) where
    base-own : (e : List Label) (b : Base) → Each OwnLabel e → OwnLabel (base_label p e b)
    unfolding base_label OwnLabel
    base-own e null h = nil-own
    base-own e (variable x) h = own.env x
    base-own e (bound i) h = get_d_own e i h

    along-own : (is : List ℕ) (l : Label) → OwnLabel l → OwnLabel (along_label p is l)
    unfolding along_label
    along-own [] l h = h
    along-own (i ∷ is) l h = along-own is (read_label i (p.stores i) l) (read-own i (p.stores i) l (own.begins i) (own.stores i) h)

    pub term_own : (t : Term) (e : List Label) → Each OwnLabel e → OwnLabel (term_label p e t)
    unfolding term_label
    term_own t e h = along-own t.links _ (base-own e t.base h)

    mark-own : (m : Marks) → OwnMarks m → (n : Mark Label) → Memᴰ n (marks_of m) → OwnLabel n.name
    unfolding marks_of OwnMarks OwnLabel
    mark-own unmarked h n mem = absurd (Memᴰ.not-nil mem)
    mark-own (mark m a b) h n mem = each_cons (λ (x : Mark Label). OwnLabel x.name) (record { name = named a; value = b }) (marks_of m) h.1 (mark-own m h.0) n mem

    pub marks-own : (j : ℕ) (n : Mark Label) → Memᴰ n (marks_of (p.marks j)) → OwnLabel n.name
    marks-own j n mem = mark-own (p.marks j) (own.marks j) n mem

    -- the cuts that betweens ask for
    pub betweens-own : (b : Bool) (name : Places) (e : List Label) (f : Formula) → ((d : List Bool) → OwnLabel (name d)) → Each OwnLabel e →
        Each (λ (c : Cut). OwnLabel c.label) (betweens b p name e f)
    unfolding betweens
    betweens-own b name e (between i t u v) n h = each_cons (λ (c : Cut). OwnLabel c.label) _ [] (term_own v e h) (λ x m. absurd (Memᴰ.not-nil m))
    betweens-own b name e (negation f) n h = betweens-own (not b) name e f n h
    betweens-own b name e (both f g) n h =
        each_append (λ (c : Cut). OwnLabel c.label) (betweens b p (left name) e f) _ (betweens-own b (left name) e f (λ d. n (false ∷ d)) h) (betweens-own b (right name) e g (λ d. n (true ∷ d)) h)
    betweens-own b name e (either f g) n h =
        each_append (λ (c : Cut). OwnLabel c.label) (betweens b p (left name) e f) _ (betweens-own b (left name) e f (λ d. n (false ∷ d)) h) (betweens-own b (right name) e g (λ d. n (true ∷ d)) h)
    betweens-own b name e (implies f g) n h =
        each_append (λ (c : Cut). OwnLabel c.label) (betweens (not b) p (left name) e f) _
        (betweens-own (not b) (left name) e f (λ d. n (false ∷ d)) h) (betweens-own b (right name) e g (λ d. n (true ∷ d)) h)
    betweens-own b name e (same f g) n h =
        each_append (λ (c : Cut). OwnLabel c.label) (betweens true p (left name) e f ++ betweens b p (right name) e g) _
        (each_append (λ (c : Cut). OwnLabel c.label) (betweens true p (left name) e f) _
        (betweens-own true (left name) e f (λ d. n (false ∷ d)) h) (betweens-own b (right name) e g (λ d. n (true ∷ d)) h))
        (each_append (λ (c : Cut). OwnLabel c.label) (betweens false p (left name) e f) _
        (betweens-own false (left name) e f (λ d. n (false ∷ d)) h) (betweens-own (not b) (right name) e g (λ d. n (true ∷ d)) h))
    betweens-own true name e (forall f) n h = λ x m. absurd (Memᴰ.not-nil m)
    betweens-own false name e (forall f) n h = betweens-own false (left name) (name [] ∷ e) f (λ d. n (false ∷ d)) (each_cons OwnLabel (name []) e (n []) h)
    betweens-own b name e always n h = λ x m. absurd (Memᴰ.not-nil m)
    betweens-own b name e never n h = λ x m. absurd (Memᴰ.not-nil m)
    betweens-own b name e (equal t u) n h = λ x m. absurd (Memᴰ.not-nil m)
    betweens-own b name e (unequal t u) n h = λ x m. absurd (Memᴰ.not-nil m)
    betweens-own b name e (reaches i t u) n h = λ x m. absurd (Memᴰ.not-nil m)
    betweens-own b name e (flag j t) n h = λ x m. absurd (Memᴰ.not-nil m)

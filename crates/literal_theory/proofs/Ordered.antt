-- On a path the assignments only grow, and every name on it was read after some of them.
use Prim.Native.Nat.{ℕ, ◌≤◌, ◌<◌}
use native.Mathlib.Omega.{arith}
use mathlib.Core.Path.{◌≡◌, refl, sym, subst}
use mathlib.Core.Bool.{Bool, true, false, cond}
use mathlib.Core.List.{List, [], ◌∷◌, Memᴰ}
use lib.Dec.{eqb}
use Rattle.theory.proofs.Basics.Compare.{eqb-true}
use Rattle.theory.proofs.Basics.Search.{map-mem}
use Rattle.routine_logic.specs.Syntax.{Base, null, variable, bound, Term, Formula, Clause, Routine}
use Rattle.routine_logic.specs.State.{changed}
use Rattle.path_theory.specs.Points.{Name, nil, initial, given, read, Stores, none, store, Marks, unmarked, mark, Point, at_start, base_name, along, name_of, named, linked, marked, havocked}
use Rattle.path_theory.specs.Assignments.{Begins, whole, longer}
use Rattle.path_theory.specs.Paths.{Fact, says, gives, Trail, further, saying, Case, SegmentPaths, segment_paths, start_trail}
use Rattle.literal_theory.specs.Labels.{Plan}
use Rattle.literal_theory.proofs.Names.{Each, each_cons}
use Rattle.literal_theory.proofs.Invariants.{Invariant, cases_keep, routine_any}
use Rattle.literal_theory.proofs.OnPath.{OnPath, OwnStores, OwnMarks, OwnPoint}

-- One plan has all that another has
pub record Longer (P Q : Plan) : Type 0 where
  pub stores : (i : ℕ) (w : Stores) → Begins w (P.stores i) → Begins w (Q.stores i)
  pub havocs : P.havocs ≤ Q.havocs

module _ (P Q : Plan) (more : Longer P Q) where
  mutual
    unfolding OnPath OwnStores

    pub name_longer : (a : Name) → OnPath P a → OnPath Q a
    name_longer nil h = tt
    name_longer (initial x) h = tt
    name_longer (given k) h = let l = more.havocs in omega (arith, h, l)
    name_longer (read i w a) h = (more.stores i w h.0, stores-longer w h.1, name_longer a h.2)

    pub stores-longer : (w : Stores) → OwnStores P w → OwnStores Q w
    stores-longer none h = tt
    stores-longer (store w a b) h = (stores-longer w h.0, name_longer a h.1, name_longer b h.2)

  marks-longer : (m : Marks) → OwnMarks P m → OwnMarks Q m
  unfolding OwnMarks
  marks-longer unmarked h = tt
  marks-longer (mark m a b) h = (marks-longer m h.0, name_longer a h.1)

  pub point-longer : (p : Point) → OwnPoint P p → OwnPoint Q p
  point-longer p own =
      record {
        begins = λ i. more.stores i (p.stores i) (own.begins i);
        stores = λ i. stores-longer (p.stores i) (own.stores i);
        env = λ x. name_longer (p.env x) (own.env x);
        marks = λ j. marks-longer (p.marks j) (own.marks j);
      }

-- the plan of a point, without further cuts
abbrev pub plan_at : Point → Plan
plan_at p = record { stores = p.stores; further = λ i. []; havocs = p.havocs }

unfoldable pub OwnFact : Plan → Fact → Type 0
OwnFact P (says b p f) = OwnPoint P p
OwnFact P (gives n) = n < P.havocs

pub fact_longer : (P Q : Plan) → Longer P Q → (f : Fact) → OwnFact P f → OwnFact Q f
unfolding OwnFact
fact_longer P Q more (says b p f) h = point-longer P Q more p h
fact_longer P Q more (gives n) h = let l = more.havocs in omega (arith, h, l)

pub record Ordered (t : Trail) : Type 0 where
  pub point : OwnPoint (plan_at t.point) t.point
  pub facts : Each (OwnFact (plan_at t.point)) t.facts

-- a value that is changed
pub changed_each : {A : Type 0} (Q : ℕ → A → Type 0) (f : ℕ → A) (x : ℕ) (a : A) → Q x a → ((y : ℕ) → Q y (f y)) → (y : ℕ) → Q y (changed f x a y)
unfolding changed
changed_each Q f x a h k y = go (eqb y x) refl
  where
    go : (b : Bool) → eqb y x ≡ b → Q y (cond b a (f y))
    go true e = subst (λ (z : ℕ). Q z a) (sym (eqb-true y x e)) h
    go false e = k y

-- names of terms
module _ (p : Point) (own : OwnPoint (plan_at p) p) where
  base-own : (b : Base) → OnPath (plan_at p) (base_name p b)
  unfolding base_name OnPath
  base-own null = tt
  base-own (variable x) = own.env x
  base-own (bound i) = tt

  along-own : (is : List ℕ) (a : Name) → OnPath (plan_at p) a → OnPath (plan_at p) (along p is a)
  unfolding along OnPath
  along-own [] a h = h
  along-own (i ∷ is) a h = along-own is (read i (p.stores i) a) (own.begins i, own.stores i, h)

  pub name_own : (u : Term) → OnPath (plan_at p) (name_of p u)
  unfolding name_of
  name_own u = along-own u.links (base_name p u.base) (base-own u.base)

-- Points behind statements

facts-longer : (P Q : Plan) → Longer P Q → (fs : List Fact) → Each (OwnFact P) fs → Each (OwnFact Q) fs
facts-longer P Q more fs h f m = fact_longer P Q more f (h f m)

saying_ordered : (t : Trail) (b : Bool) (f : Formula) → Ordered t → Ordered (saying t b f)
unfolding OwnFact
saying_ordered t b f o = record { point = o.point; facts = each_cons (OwnFact (plan_at t.point)) (says b t.point f) t.facts o.point o.facts }

named_ordered : (t : Trail) (x : ℕ) (a : Name) → Ordered t → OnPath (plan_at t.point) a → Ordered (further t (named t.point x a))
unfolding named
named_ordered t x a o h =
    record {
      point =
          record {
            begins = o.point.begins;
            stores = o.point.stores;
            env = changed_each (λ y b. OnPath (plan_at t.point) b) t.point.env x a h o.point.env;
            marks = o.point.marks;
          };
      facts = o.facts;
    }

marked_ordered : (t : Trail) (j : ℕ) (a : Name) (b : Bool) → Ordered t → OnPath (plan_at t.point) a → Ordered (further t (marked t.point j a b))
unfolding marked OwnMarks
marked_ordered t j a b o h =
    record {
      point =
          record {
            begins = o.point.begins;
            stores = o.point.stores;
            env = o.point.env;
            marks = changed_each (λ k m. OwnMarks (plan_at t.point) m) t.point.marks j (mark (t.point.marks j) a b) (o.point.marks j, h) o.point.marks;
          };
      facts = o.facts;
    }

-- one more assignment
stored : (p : Point) (i : ℕ) (a b : Name) → Longer (plan_at p) (plan_at (linked p i a b))
unfolding linked
stored p i a b =
    record {
      stores = λ j w h. changed_each (λ k v. Begins w (p.stores k) → Begins w v) p.stores i (store (p.stores i) a b) (λ q. longer q) (λ k q. q) j h;
      havocs = omega arith;
    }

linked_ordered : (t : Trail) (i : ℕ) (a b : Name) → Ordered t → OnPath (plan_at t.point) a → OnPath (plan_at t.point) b → Ordered (further t (linked t.point i a b))
linked_ordered t i a b o h k =
    let p : Point = t.point in
    let P : Plan = plan_at p in
    let Q : Plan = plan_at (linked p i a b) in
    let more = stored p i a b in
    let old = point-longer P Q more p o.point in
    record { point = linked-own p i a b old (name_longer P Q more a h) (name_longer P Q more b k); facts = facts-longer P Q more t.facts o.facts }
  where
    linked-own : (p : Point) (i : ℕ) (a b : Name) → OwnPoint (plan_at (linked p i a b)) p → OnPath (plan_at (linked p i a b)) a → OnPath (plan_at (linked p i a b)) b →
        OwnPoint (plan_at (linked p i a b)) (linked p i a b)
    linked-own p i a b old h k =
        record {
          begins = λ j. whole;
          stores = unfold linked OwnStores in changed_each (λ j w. OwnStores (plan_at (linked p i a b)) w) p.stores i (store (p.stores i) a b) (old.stores i, h, k) old.stores;
          env = unfold linked in old.env;
          marks = unfold linked in old.marks;
        }

-- one more havoc
havocked_ordered : (t : Trail) (x : ℕ) → Ordered t → Ordered (record { point = havocked t.point x; facts = gives t.point.havocs ∷ t.facts })
unfolding havocked OwnFact OnPath
havocked_ordered t x o =
    let p : Point = t.point in
    let P : Plan = plan_at p in
    let Q : Plan = plan_at (havocked p x) in
    let more : Longer P Q = record { stores = λ i w h. h; havocs = omega arith } in
    let old = point-longer P Q more p o.point in
    record {
      point =
          record {
            begins = old.begins;
            stores = old.stores;
            env = changed_each (λ y b. OnPath Q b) p.env x (given p.havocs) (omega arith) old.env;
            marks = old.marks;
          };
      facts = each_cons (OwnFact Q) (gives p.havocs) t.facts (omega arith) (facts-longer P Q more t.facts o.facts);
    }

-- every case that a path of a routine comes to is in order

start_own : OwnPoint (plan_at at_start) at_start
unfolding at_start OwnStores OwnMarks OnPath
start_own = record { begins = λ i. whole; stores = λ i. tt; env = λ x. tt; marks = λ j. tt }

start_ordered : (cs : List Clause) → Ordered (start_trail cs)
unfolding start_trail OwnFact
start_ordered cs =
    record { point = start_own; facts = λ f m. let r = map-mem (λ (c : Clause). says true at_start c.formula) f cs m in subst (OwnFact (plan_at at_start)) (sym r.2) start_own }

ordered_kept : Invariant Ordered (λ f. Unit) (λ i. Unit)
ordered_kept =
    record {
      at_start_lem = λ cs q. start_ordered cs;
      not_null_lem = λ u. tt;
      says = λ t b f q o. saying_ordered t b f o;
      names = λ t x u o. named_ordered t x (name_of t.point u) o (name_own t.point o.point u);
      links = λ t i u v q o.
          linked_ordered t i (name_of t.point u) (name_of t.point v) o (name_own t.point o.point u) (name_own t.point o.point v);
      marks = λ t j u b o. marked_ordered t j (name_of t.point u) b o (name_own t.point o.point u);
      havocs = λ t x o. havocked_ordered t x o;
    }

pub cases_ordered : (r : Routine) (h : SegmentPaths) → Memᴰ h (segment_paths r) → (x : Case) → Memᴰ x (h.follow (start_trail h.assumes)) → Ordered x.trail
cases_ordered r = cases_keep Ordered (λ f. Unit) (λ i. Unit) ordered_kept r (routine_any r)

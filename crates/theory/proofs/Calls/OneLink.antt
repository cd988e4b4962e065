-- What the general definitions come to where there is one link: the form of 01.
use Prim.Native.Nat.{ℕ, ◌+◌, ◌-◌, ◌*◌, ◌/◌}
use native.Mathlib.Omega.{arith}
use native.Mathlib.Nat.{div-one}
use mathlib.Core.Path.{◌≡◌, refl, ap, ◌∙◌, fun_ext}
use mathlib.Core.Bool.{Bool, true, false}
use mathlib.Core.List.{List, [], ◌∷◌, map}
use mathlib.Core.Option.{Option, none, some, Option-elim}
use lib.ListN.{length, get_or}
use lib.Dec.{eqb, leb}
use Rattle.logic.specs.Search.{◌and◌, ◌or◌, from, all, any, keep, or_else, first_of, find}
use Rattle.logic.specs.Query.{Query, term_count}
use Rattle.logic.specs.Facts.{Graph, link_numbers, terms}
use Rattle.logic.specs.Rules.{Rule, REFLEX, TRANS1, TRANS2, FUNC, CYCLE, SCC, TOTAL, SHARE, rule_number, rules, rule_of}
use Rattle.logic.specs.Rules.{Triple, triple, move, equal, round, conditions, alternatives, held, move_number, move_of}
use Rattle.logic.specs.Walk.{limit}
use Rattle.logic.specs.Shown.{is_node, size_in, well_formed}
use Rattle.theory.proofs.Basics.Compare.{eqb_self}

-- Searches

-- a search along one element
pub first_of-one : {A B : Type 0} (f : A → Option B) (x : A) → first_of f (x ∷ []) ≡ f x
unfolding first_of or_else
first_of-one {B} f x = go (f x)
  where
    go : (o : Option B) → or_else o none ≡ o
    go none = refl
    go (some b) = refl

-- the first answer that is kept by a test is that of the element found by it
pub first_of-keep : {A B : Type 0} (p : A → Bool) (f : A → B) (xs : List A) → first_of (λ x. keep (p x) (f x)) xs ≡ Option-elim (find p xs) none (λ x. some (f x))
unfolding first_of find keep or_else Option-elim
first_of-keep p f [] = refl
first_of-keep {A} {B} p f (x ∷ xs) = go (p x) (first_of-keep p f xs)
  where
    go : (b : Bool) → first_of (λ y. keep (p y) (f y)) xs ≡ Option-elim (find p xs) none (λ y. some (f y)) →
        or_else (keep b (f x)) (first_of (λ y. keep (p y) (f y)) xs) ≡ Option-elim (or_else (keep b x) (first_of (λ y. keep (p y) y) xs)) none (λ y. some (f y))
    go true ih = refl
    go false ih = ih

-- Rules

pub move_of-one : (b : ℕ) (t : Triple) → move_of 1 b t ≡ Option-elim (rule_of b) none (λ r. some (move 1 r t))
unfolding move_of link_numbers from move_number rule_of
move_of-one b t =
    let same : (r : Rule) → move_number 1 r ≡ rule_number r = λ r. omega arith in
    first_of-one (λ i. first_of (λ r. keep (eqb (move_number i r) b) (move i r t)) rules) 1
    ∙ ap (λ (f : Rule → ℕ). first_of (λ r. keep (eqb (f r) b) (move 1 r t)) rules) (fun_ext same)
    ∙ first_of-keep (λ r. eqb (rule_number r) b) (λ r. move 1 r t) rules

pub limit-one : (q : Query) → q.links ≡ 1 → limit q ≡ term_count q * term_count q + term_count q
unfolding limit
limit-one q one = rw one (omega arith)

-- Reports

pub well_formed-one : (bytes : List ℕ) → well_formed 1
    bytes ≡ (is_node 16 (size_in bytes) and leb (get_or bytes (size_in bytes + 1) 0) 16 and leb
    (size_in bytes + get_or bytes (size_in bytes + 1) 0 + size_in bytes + 5) (length bytes) and eqb
    (get_or bytes (size_in bytes + get_or bytes (size_in bytes + 1) 0 + 2) 0) (size_in bytes) and eqb
    (get_or bytes (size_in bytes + get_or bytes (size_in bytes + 1) 0 + size_in bytes + 3) 0) 1 and all (λ i. is_node (size_in bytes) (get_or bytes i 0))
    (from (size_in bytes) 1) and all (λ i. is_node (size_in bytes) (get_or bytes i 0)) (from (get_or bytes (size_in bytes + 1) 0) (size_in bytes + 2)) and all
    (λ i. eqb (get_or bytes i 0) 0) (from (length bytes - (size_in bytes + get_or bytes (size_in bytes + 1) 0 + size_in bytes + 5))
    (size_in bytes + get_or bytes (size_in bytes + 1) 0 + size_in bytes + 5)))
unfolding well_formed ◌and◌
well_formed-one bytes =
    let m : ℕ = size_in bytes in
    let d : m / 1 ≡ m = div-one m in
    let e : 1 * m ≡ m = omega arith in
    rw (d, e, eqb_self m) refl

-- A rule reads the facts of its own link alone

module _ (n : ℕ) (alive : ℕ → Bool) (g : ℕ → Graph) (i : ℕ) where
  pub conditions_local : (r : Rule) (t : Triple) → conditions n alive g (move i r t) ≡ conditions n alive (λ j. g i) (move i r t)
  unfolding conditions
  conditions_local REFLEX (triple x y z) = refl
  conditions_local TRANS1 (triple x y z) = refl
  conditions_local TRANS2 (triple x y z) = refl
  conditions_local FUNC (triple x y z) = refl
  conditions_local CYCLE (triple x y z) = refl
  conditions_local SCC (triple x y z) = refl
  conditions_local TOTAL (triple x y z) = refl
  conditions_local SHARE (triple x y z) = refl

  -- equal terms are held by any facts
  equal_held : (y : ℕ) (us : List ℕ) → any (held g) (map (equal y) us) ≡ any (held (λ j. g i)) (map (equal y) us)
  unfolding any held
  equal_held y [] = refl
  equal_held y (u ∷ us) = ap (λ (b : Bool). eqb y u or b) (equal_held y us)

  pub held_local : (r : Rule) (t : Triple) → any (held g) (alternatives n g (move i r t)) ≡ any (held (λ j. g i)) (alternatives n (λ j. g i) (move i r t))
  unfolding alternatives any held
  held_local REFLEX (triple x y z) = refl
  held_local TRANS1 (triple x y z) = refl
  held_local TRANS2 (triple x y z) = refl
  held_local FUNC (triple x y z) = refl
  held_local CYCLE (triple x y z) = equal_held y (round n (g i) z x)
  held_local SCC (triple x y z) = refl
  held_local TOTAL (triple x y z) = refl
  held_local SHARE (triple x y z) = refl

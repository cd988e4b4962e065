-- The test of a rule: its halves, and the parts of a path that it reads.
use Prim.Native.Nat.{ℕ}
use mathlib.Core.Path.{◌≡◌, refl, ap₂}
use mathlib.Core.Bool.{Bool, true, false, not, true≢false, false≢true}
use mathlib.Core.List.{List}
use lib.Dec.{eqb}
use Rattle.logic.specs.Search.{◌and◌, ◌or◌, any}
use Rattle.logic.specs.Facts.{Graph, Facts, live}
use Rattle.logic.specs.Rules.{Rule, REFLEX, TRANS1, TRANS2, FUNC, CYCLE, SCC, TOTAL, SHARE, Triple, triple, move, conditions, alternatives, held, applies}
use Rattle.theory.proofs.Paths.Ranged.{InRange}
use Rattle.theory.proofs.Paths.Applies.{has_link_intro}
use Rattle.theory.proofs.Calls.OneLink.{conditions_local, held_local}
use Rattle.facts.specs.Path.{graph_of}
use Rattle.rows.specs.Square.{square}
use Rattle.rules.specs.Tests.{pair_test, third_test, is_not_cycle}
use Rattle.rules.specs.Allowed.{allowed}

-- a rule that is not one of the others is CYCLE
pub is_cycle : (r : Rule) → is_not_cycle r ≡ false → r ≡ CYCLE
unfolding is_not_cycle
is_cycle REFLEX h = absurd (true≢false h)
is_cycle TRANS1 h = absurd (true≢false h)
is_cycle TRANS2 h = absurd (true≢false h)
is_cycle FUNC h = absurd (true≢false h)
is_cycle CYCLE h = refl
is_cycle SCC h = absurd (true≢false h)
is_cycle TOTAL h = absurd (true≢false h)
is_cycle SHARE h = absurd (true≢false h)

-- a rule's test is in two halves
module _ (n : ℕ) (alive : ℕ → Bool) (g : Graph) (x y z : ℕ) where
  pub halves : (r : Rule) → is_not_cycle r ≡ true → allowed n alive g (move 1 r (triple x y z)) ≡ (pair_test alive g x y r and third_test g x y z r)
  unfolding allowed conditions alternatives held any pair_test third_test is_not_cycle ◌and◌ ◌or◌
  halves REFLEX h = table (alive x) (eqb y 0) (eqb z 0) (g.reach x x)
    where
      table : (a b c d : Bool) → (a and b and c) and not (d or false) ≡ (a and not d and b and c)
      table true true true true = refl
      table true true true false = refl
      table true true false true = refl
      table true true false false = refl
      table true false c true = refl
      table true false c false = refl
      table false b c d = refl
  halves TRANS1 h = table (g.link x y) (eqb z 0) (g.reach x y)
    where
      table : (a b c : Bool) → (a and b) and not (c or false) ≡ (a and not c and b)
      table true true true = refl
      table true true false = refl
      table true false true = refl
      table true false false = refl
      table false b c = refl
  halves TRANS2 h = table (g.reach x y) (g.reach y z) (g.reach x z)
    where
      table : (a b c : Bool) → (a and b) and not (c or false) ≡ (a and (b and not c))
      table true true true = refl
      table true true false = refl
      table true false c = refl
      table false b c = refl
  halves FUNC h = table (g.link x y) (g.reach x z) (eqb x z) (g.reach y z)
    where
      table : (a b c d : Bool) → (a and b) and not (c or (d or false)) ≡ (a and (b and not c and not d))
      table true true true d = refl
      table true true false true = refl
      table true true false false = refl
      table true false c d = refl
      table false b c d = refl
  halves CYCLE h = absurd (false≢true h)
  halves SCC h = table (g.reach x y) (g.reach y x) (g.reach x z) (eqb x y) (g.reach z x)
    where
      table : (a b c d e : Bool) → (a and b and c) and not (d or (e or false)) ≡ (a and b and not d and (c and not e))
      table true true true true e = refl
      table true true true false true = refl
      table true true true false false = refl
      table true true false true e = refl
      table true true false false e = refl
      table true false c d e = refl
      table false b c d e = refl
  halves TOTAL h = table (g.reach x y) (g.reach x z) (g.reach y z) (g.reach z y)
    where
      table : (a b c d : Bool) → (a and b) and not (c or (d or false)) ≡ (a and (b and not c and not d))
      table true true true d = refl
      table true true false true = refl
      table true true false false = refl
      table true false c d = refl
      table false b c d = refl
  halves SHARE h = table (g.link x z) (g.link y z) (g.reach x y) (g.reach y x) (eqb x y)
    where
      table : (a b c d e : Bool) → (a and b and c and d) and not (e or false) ≡ (c and d and not e and (a and b))
      table true true true true true = refl
      table true true true true false = refl
      table true true true false e = refl
      table true true false d e = refl
      table true false true true true = refl
      table true false true true false = refl
      table true false true false e = refl
      table true false false d e = refl
      table false b true true true = refl
      table false b true true false = refl
      table false b true false e = refl
      table false b false d e = refl

-- the test of a rule is the same by whichever link
pub allowed-any : (i n : ℕ) (alive : ℕ → Bool) (g : Graph) (r : Rule) (t : Triple) → allowed n alive g (move i r t) ≡ allowed n alive g (move 1 r t)
unfolding allowed conditions alternatives held any
allowed-any i n alive g REFLEX (triple x y z) = refl
allowed-any i n alive g TRANS1 (triple x y z) = refl
allowed-any i n alive g TRANS2 (triple x y z) = refl
allowed-any i n alive g FUNC (triple x y z) = refl
allowed-any i n alive g CYCLE (triple x y z) = refl
allowed-any i n alive g SCC (triple x y z) = refl
allowed-any i n alive g TOTAL (triple x y z) = refl
allowed-any i n alive g SHARE (triple x y z) = refl

-- by a link of the path, a rule applies where its test allows it
pub applies-allowed : (n : ℕ) (s : Facts) (i : ℕ) → InRange s.links i → (r : Rule) (t : Triple) → applies n s (move i r t) ≡ allowed n (live n s) (s.graph i) (move i r t)
unfolding applies allowed ◌and◌
applies-allowed n s i h r t =
    rw (has_link_intro s.links i r t h) (ap₂ (λ (b c : Bool). b and not c) (conditions_local n (live n s) s.graph i r t) (held_local n (live n s) s.graph i r t))

-- rows that hold the facts of a link
pub rows_are : (link reach : List ℕ) (g : Graph) → square link ≡ g.link → square reach ≡ g.reach → graph_of link reach ≡ g
unfolding graph_of
rows_are link reach g l h = ap₂ (λ (f e : ℕ → ℕ → Bool). record { link = f; reach = e }) l h

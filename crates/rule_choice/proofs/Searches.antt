-- A search over the numbers of a row, one after the other.
use Prim.Native.Nat.{ℕ, zero, suc, ◌+◌, ◌^◌, ◌≤◌, ◌<◌}
use native.Mathlib.Omega.{arith}
use mathlib.Core.Path.{◌≡◌, refl, sym, ap, ◌∙◌, subst}
use mathlib.Core.Logic.{⊎_elim}
use mathlib.Core.Bool.{Bool, true, false, not, ◌&&◌, ◌||◌}
use mathlib.Core.List.{List, ◌∷◌, Memᴰ}
use mathlib.Core.Option.{Option, none, some, Option-elim}
use lib.ListN.{get_or}
use lib.Bits.{bit_and}
use lib.Dec.{ltb}
use borrow.Author.Tests.{lt-ltb, ltb-true}
use Rattle.logic.specs.Search.{from, first_of, find, or_else, select}
use Rattle.logic.specs.Facts.{Graph}
use Rattle.logic.specs.Rules.{Rule, TRANS2, Triple, rule_of}
use Rattle.theory.proofs.Basics.Search.{none-some, and_left, and_right, and-false_cases, true-false, find-some, select-mem, select_intro}
use Rattle.rows.specs.Bits.{bit}
use Rattle.rows.specs.Square.{Turned}
use Rattle.facts.specs.Path.{graph_of}
use Rattle.rows.proofs.Bits.{bit-and}
use Rattle.rows.proofs.Finds.{find-no-bit, first_masked, select_rest}
use Rattle.rows.proofs.Successors.{select-none}
use Rattle.rules.specs.Tests.{pair_test, is_not_cycle, two_way, looks_back}
use Rattle.rules.proofs.Rows.{far_bit}
use Rattle.rule_choice.specs.Smallest.{in_third, in_second}
use Rattle.rule_choice.proofs.Nested.{third_none}

module _ (n : ℕ) (few : n ≤ 16) (alive : ℕ → Bool) (g : Graph) (r : Rule) (l : is_not_cycle r ≡ true) (x : ℕ) where
  -- what is left: its numbers pass the first half, and the search of them is the whole
  abbrev pub Left : ℕ → Type 0
  Left w = ((y : ℕ) → Memᴰ y (select (bit w) (from 32 0)) → (y ≤ n) × (pair_test alive g x y r ≡ true)) × (in_second n alive g r x ≡ first_of (in_third n alive g r x) (select (bit w) (from 32 0)))

  pub left_all : (w m : ℕ) → ((y : ℕ) → y ≤ 16 → bit w y ≡ pair_test alive g x y r) → ((i : ℕ) → bit m i ≡ ltb i (n + 1)) → Left (bit_and w m)
  unfolding in_second
  left_all w m e f = (λ y i. inside y (select-mem (bit (bit_and w m)) y (from 32 0) i).1, first_masked (in_third n alive g r x) n (bit_and w m) few (λ y s. (inside y s).0) others)
    where
      inside : (y : ℕ) → bit (bit_and w m) y ≡ true → (y ≤ n) × (pair_test alive g x y r ≡ true)
      inside y s =
          let b = sym (bit-and w m y) ∙ s in
          let q = ltb-true y (n + 1) (sym (f y) ∙ and_right (bit w y) (bit m y) b) in
          (omega arith, sym (e y (omega arith)) ∙ and_left (bit w y) (bit m y) b)

      others : (y : ℕ) → y ≤ n → bit (bit_and w m) y ≡ false → in_third n alive g r x y ≡ none
      others y q s =
          ⊎_elim
          (λ b. third_none n alive g r l x y (sym (e y (omega arith)) ∙ b))
          (λ b. absurd (true-false (f y ∙ lt-ltb y (n + 1) (omega arith)) b))
          (and-false_cases (bit w y) (bit m y) (sym (bit-and w m y) ∙ s))

  pub left_none : (w : ℕ) → find (bit w) (from 32 0) ≡ none → Left w → in_second n alive g r x ≡ none
  unfolding first_of
  left_none w e m = m.1 ∙ ap (first_of (in_third n alive g r x)) (select-none (bit w) 32 0 e)

  pub left_pair : (w a : ℕ) → find (bit w) (from 32 0) ≡ some a → Left w → (a ≤ n) × (pair_test alive g x a r ≡ true)
  left_pair w a e m = let f = find-some (bit w) (from 32 0) a e in m.0 a (select_intro (bit w) a f.0 f.1)

  module _ (w v a : ℕ) (e : select (bit w) (from 32 0) ≡ a ∷ select (bit v) (from 32 0)) (m : Left w) where
    pub left-next : in_third n alive g r x a ≡ none → Left v
    unfolding first_of or_else
    left-next f = (λ y i. m.0 y (subst (λ (l : List ℕ). Memᴰ y l) (sym e) (Memᴰ.tail i)), m.1 ∙ ap (first_of (in_third n alive g r x)) e ∙ rw f)

  pub left_here : (w a : ℕ) → 0 < w → w < 2 ^ 32 → find (bit w) (from 32 0) ≡ some a → Left w → (t : Triple) → in_third n alive g r x a ≡ some t → in_second n alive g r x ≡ some t
  unfolding first_of or_else
  left_here w a p h e m t f = m.1 ∙ ap (first_of (in_third n alive g r x)) (select_rest w a p h e) ∙ rw f

-- a rule's number says whether it reads reachability both ways
pub looks_as : (k : ℕ) (o : Option Rule) → rule_of k ≡ o → looks_back k ≡ Option-elim o false two_way
unfolding looks_back
looks_as k o e = ap (λ (p : Option Rule). Option-elim p false two_way) e

pub looks_some : (k : ℕ) (r : Rule) → rule_of k ≡ some r → looks_back k ≡ two_way r
unfolding Option-elim
looks_some k r e = looks_as k (some r) e

pub looks-none : (k : ℕ) → rule_of k ≡ none → looks_back k ≡ false
unfolding Option-elim
looks-none k e = looks_as k none e

-- once it was turned round it stays so
pub turned_kept : (reach before back : List ℕ) (t w : Bool) → (t ≡ true → Turned before reach) → ((w && not t) ≡ true → Turned back reach) →
    ((w && not t) ≡ false → back ≡ before) → (t || w) ≡ true → Turned back reach
turned_kept reach before back true true old new same e = subst (λ (b : List ℕ). Turned b reach) (sym (same refl)) (old refl)
turned_kept reach before back true false old new same e = subst (λ (b : List ℕ). Turned b reach) (sym (same refl)) (old refl)
turned_kept reach before back false true old new same e = new refl
turned_kept reach before back false false old new same e = absurd (true-false e refl)

or_right : (t w : Bool) → w ≡ true → (t || w) ≡ true
or_right true w e = refl
or_right false w e = e

pub turned_now : (reach before back : List ℕ) (t w : Bool) → (t ≡ true → Turned before reach) → ((w && not t) ≡ true → Turned back reach) →
    ((w && not t) ≡ false → back ≡ before) → w ≡ true → Turned back reach
turned_now reach before back t w old new same e = turned_kept reach before back t w old new same (or_right t w e)

-- TRANS2, which has its own search
pub onward_not_cycle : is_not_cycle TRANS2 ≡ true
unfolding is_not_cycle
onward_not_cycle = refl

pub pair_onward : (link reach : List ℕ) (alive : ℕ → Bool) (x : ℕ) → x ≤ 16 → (y : ℕ) → y ≤ 16 → bit (get_or reach x 0) y ≡ pair_test alive (graph_of link reach) x y TRANS2
unfolding pair_test
pair_onward link reach alive x h y k = far_bit link reach x y h k

-- a row with a number is not 0
pub row_positive : (w a : ℕ) → find (bit w) (from 32 0) ≡ some a → 0 < w
row_positive zero a e = absurd (none-some (sym find-no-bit ∙ e))
row_positive (suc w) a e = omega arith

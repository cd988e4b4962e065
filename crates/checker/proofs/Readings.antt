-- What a line is at a path, by the code's tests.
use Prim.Native.Nat.{ℕ, ◌+◌, ◌*◌, ◌≤◌, ◌<◌}
use native.Mathlib.Omega.{arith}
use mathlib.Core.Path.{◌≡◌, refl, sym, ap, ◌∙◌}
use mathlib.Core.Bool.{Bool, true, false, cond}
use mathlib.Core.List.{List}
use mathlib.Core.Option.{Option, none, some}
use lib.ListN.{get_or}
use borrow.Author.Tests.{ne_eqb}
use Rattle.logic.specs.Search.{◌and◌, is_some, keep, or_else, first_of, find}
use Rattle.logic.specs.Query.{Query, term_count}
use Rattle.logic.specs.Facts.{Facts, Line, line, is_clash, clash}
use Rattle.logic.specs.Rules.{Rule, rules, rule_number, rule_of, Triple, triple, Move, move, applies, move_of}
use Rattle.logic.specs.Walk.{is_clashed}
use Rattle.facts.specs.Path.{HasLink}
use Rattle.checking.specs.Fitting.{move_in}
use Rattle.checking.proofs.Moves.{move_of_unruled, in_linked}
use Rattle.derivation_lines.specs.Lines.{Shaped, line_at}
use Rattle.derivation_lines.proofs.Lines.{line_there, line_past}
use Rattle.checker.specs.Reading.{Read, ending, ruling, unfit, read_rule, read_line, read_at}

-- a clash line names no rule, by whichever link
clash_unruled : (links x y z : ℕ) → move_in links (line 9 x y z) ≡ none
unfolding move_in rule_of rules rule_number find first_of or_else keep
clash_unruled links x y z = move_of_unruled links 9 (triple x y z) refl

-- the move that the code names, and that it is by a link of the path
pub named_in : (s : Facts) (k x y z : ℕ) (o : Option Move) → o ≡ move_of s.links k (triple x y z) → o ≡ move_in s.links (line k x y z)
unfolding move_in
named_in s k x y z o h = h

pub named_linked : (s : Facts) (l : Line) (i : ℕ) (r : Rule) (t : Triple) → some (move i r t) ≡ move_in s.links l → HasLink s i
named_linked s l i r t h = let w = in_linked s.links i l r t (sym h) in (omega (arith, w.0), w.1)

module _ (q : Query) (s : Facts) (bytes : List ℕ) (count i : ℕ) (shape : Shaped bytes count) where
  abbrev Reads : Read → Type 0
  Reads r = r ≡ read_at q s (line_at bytes i)

  pub read_past : count ≤ i → Reads unfit
  unfolding read_at
  read_past h = sym (rw (line_past bytes count i shape h) refl)

  module _ (there : i < count) (k x y z : ℕ) (ek : k ≡ get_or bytes (4 * i + 2) 0) (ex : x ≡ get_or bytes (4 * i + 2 + 1) 0) (ey : y ≡ get_or bytes (4 * i + 2 + 2) 0) (ez : z ≡ get_or bytes (4 * i + 2 + 3) 0) where
    line_is : line_at bytes i ≡ some (line k x y z)
    line_is = line_there bytes count i shape there ∙ sym (rw (ek, ex, ey, ez) refl)

    read_is : (r : Read) → r ≡ read_line q s (line k x y z) → Reads r
    unfolding read_at
    read_is r e = e ∙ sym (rw line_is refl)

    -- a clash line
    pub read_clash : (v : Bool) → k ≡ 9 → v ≡ is_clash q s (line 9 x y z) → v ≡ true → Reads ending
    unfolding read_line
    read_clash v e f t = read_is ending (sym (rw (e, sym f ∙ t) refl))

    pub read_false : (v : Bool) → k ≡ 9 → v ≡ is_clash q s (line 9 x y z) → v ≡ false → Reads unfit
    unfolding read_line read_rule
    read_false v e f t = read_is unfit (sym (rw (e, sym f ∙ t, clash_unruled s.links x y z) (either (is_clashed q s))))
      where
        either : (b : Bool) → cond b unfit unfit ≡ unfit
        either true = refl
        either false = refl

    -- another line
    module _ (other : k ≡ 9 → ⊥) (o : Option Line) (stands : o ≡ clash q s) where
      no_clash : is_clash q s (line k x y z) ≡ false
      unfolding is_clash ◌and◌
      no_clash = rw (ne_eqb k 9 other) refl

      pub read_clashed : (l : Line) → o ≡ some l → Reads unfit
      unfolding read_line is_clashed is_some
      read_clashed l e = read_is unfit (sym (rw (no_clash, sym stands ∙ e) refl))

      read_free : (r : Read) → o ≡ none → r ≡ read_rule q s (move_in s.links (line k x y z)) → Reads r
      unfolding read_line is_clashed is_some
      read_free r e f = read_is r (f ∙ sym (rw (no_clash, sym stands ∙ e) refl))

      pub read_unruled : o ≡ none → none ≡ move_in s.links (line k x y z) → Reads unfit
      unfolding read_rule
      read_unruled e f = read_free unfit e (sym (rw (sym f) refl))

      module _ (m : Move) (n : ℕ) (v : Bool) (e : o ≡ none) (f : some m ≡ move_in s.links (line k x y z)) (terms_are : n ≡ term_count q) (g : v ≡ applies n s m) where
        pub read_rule_lem : v ≡ true → Reads (ruling m)
        unfolding read_rule
        read_rule_lem t = read_free (ruling m) e (sym (rw (sym f, sym terms_are, sym g ∙ t) refl))

        pub read_idle : v ≡ false → Reads unfit
        unfolding read_rule
        read_idle t = read_free unfit e (sym (rw (sym f, sym terms_are, sym g ∙ t) refl))

-- a rule line that is read as one applies
told : Read → ℕ
told ending = 0
told (ruling m) = 1
told unfit = 2

moved : Move → Read → Move
moved d ending = d
moved d (ruling m) = m
moved d unfit = d

pub ruling-applies : (q : Query) (s : Facts) (o : Option Line) (m : Move) → read_at q s o ≡ ruling m → applies (term_count q) s m ≡ true
unfolding read_at read_line read_rule told moved
ruling-applies q s none m e = absurd (omega (arith, ap told e))
ruling-applies q s (some l) m e = at_clash (is_clash q s l) e
  where
    at-applies : (d : Move) (b : Bool) → applies (term_count q) s d ≡ b → cond b (ruling d) unfit ≡ ruling m → applies (term_count q) s m ≡ true
    at-applies d true a e = ap (applies (term_count q) s) (sym (ap (moved m) e)) ∙ a
    at-applies d false a e = absurd (omega (arith, ap told e))

    at_move : (o : Option Move) → read_rule q s o ≡ ruling m → applies (term_count q) s m ≡ true
    at_move none e = absurd (omega (arith, ap told e))
    at_move (some d) e = at-applies d (applies (term_count q) s d) refl e

    at-free : (b : Bool) → cond b unfit (read_rule q s (move_in s.links l)) ≡ ruling m → applies (term_count q) s m ≡ true
    at-free true e = absurd (omega (arith, ap told e))
    at-free false e = at_move (move_in s.links l) e

    at_clash : (b : Bool) → cond b ending (cond (is_clashed q s) unfit (read_rule q s (move_in s.links l))) ≡ ruling m → applies (term_count q) s m ≡ true
    at_clash true e = absurd (omega (arith, ap told e))
    at_clash false e = at-free (is_clashed q s) e

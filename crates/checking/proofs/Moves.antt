-- The move that a rule line names: its link and its rule are what 16 divides the line's first number into.
use Prim.Native.Nat.{ℕ, ◌+◌, ◌/◌, ◌%◌, ◌≤◌, ◌<◌}
use native.Mathlib.Omega.{arith}
use mathlib.Core.Path.{◌≡◌, refl, sym, ap, ◌∙◌, subst}
use mathlib.Core.Bool.{true}
use mathlib.Core.Option.{Option, none, some}
use lib.Dec.{eqb}
use Rattle.logic.specs.Search.{keep, first_of}
use Rattle.logic.specs.Facts.{Line, line, link_numbers}
use Rattle.logic.specs.Rules.{Rule, REFLEX, TRANS1, TRANS2, FUNC, CYCLE, SCC, TOTAL, SHARE, rules, rule_number, rule_of, Triple, triple, Move, move, has_link, move_number, move_line, move_of}
use Rattle.theory.proofs.Basics.Search.{none-some, keep_some, first_of-some, find-some, from-mem}
use Rattle.theory.proofs.Basics.Compare.{eqb-true}
use Rattle.theory.proofs.Paths.Ranged.{InRange}
use Rattle.theory.proofs.Paths.Applies.{has_link_range}
use Rattle.theory.proofs.Walks.Order.{rule_of_number, move_of_number}
use Rattle.checking.specs.Fitting.{move_in}

-- a rule's number is below that of a clash line
pub rule_below : (r : Rule) → rule_number r < 9
unfolding rule_number
rule_below REFLEX = omega arith
rule_below TRANS1 = omega arith
rule_below TRANS2 = omega arith
rule_below FUNC = omega arith
rule_below CYCLE = omega arith
rule_below SCC = omega arith
rule_below TOTAL = omega arith
rule_below SHARE = omega arith

-- what is known of a number that names a move
pub record Names (links b : ℕ) (t : Triple) (m : Move) : Type 0 where
  pub link : ℕ
  pub rule : Rule
  pub linked : InRange links link
  pub number : move_number link rule ≡ b
  pub same : move link rule t ≡ m

module _ (links b : ℕ) (t : Triple) where
  move_names : (m : Move) → move_of links b t ≡ some m → Names links b t m
  unfolding move_of link_numbers
  move_names m h =
      let (i, mi, e) = first_of-some (λ j. first_of (λ r. keep (eqb (move_number j r) b) (move j r t)) rules) (link_numbers links) m h in
      let (r, mr, f) = first_of-some (λ r. keep (eqb (move_number i r) b) (move i r t)) rules m e in
      let g = keep_some (eqb (move_number i r) b) f in
      let w = from-mem links 1 i mi in
      record { link = i; rule = r; linked = (w.0, omega (arith, w.1)); number = eqb-true (move_number i r) b g.0; same = g.1 }

  abbrev link : ℕ
  link = b / 16 + 1

  names_link : {m : Move} → (k : Names links b t m) → k.link ≡ link
  unfolding move_number
  names_link k = omega (arith, k.number, k.linked.0, rule_below k.rule)

  names_rule : {m : Move} → (k : Names links b t m) → rule_of (b % 16) ≡ some k.rule
  unfolding move_number
  names_rule k =
      let e : b % 16 ≡ rule_number k.rule = omega (arith, k.number, k.linked.0, rule_below k.rule) in
      ap rule_of e ∙ rule_of_number k.rule

  -- where no number names a move
  unnamed : ((m : Move) → Names links b t m → ⊥) → move_of links b t ≡ none
  unnamed h = go (move_of links b t) refl
    where
      go : (o : Option Move) → move_of links b t ≡ o → o ≡ none
      go none e = refl
      go (some m) e = absurd (h m (move_names m e))

  pub move_of_beyond : links < link → move_of links b t ≡ none
  move_of_beyond h = unnamed (λ m k. omega (arith, h, names_link k, k.linked.1))

  pub move_of_unruled : rule_of (b % 16) ≡ none → move_of links b t ≡ none
  move_of_unruled h = unnamed (λ m k. none-some (sym h ∙ names_rule k))

  pub move_of_named : (r : Rule) → link ≤ links → rule_of (b % 16) ≡ some r → move_of links b t ≡ some (move link r t)
  unfolding rule_of move_number
  move_of_named r l h =
      let e : rule_number r ≡ b % 16 = eqb-true (rule_number r) (b % 16) (find-some (λ r'. eqb (rule_number r') (b % 16)) rules r h).1 in
      let n : move_number link r ≡ b = omega (arith, e) in
      subst (λ (k : ℕ). move_of links k t ≡ some (move link r t)) n (move_of_number links link r t (omega arith, l))

-- the move in a line is the one whose line it is
pub move_in_lem : (links : ℕ) (m : Move) → has_link links m ≡ true → move_in links (move_line m) ≡ some m
unfolding move_in move_line
move_in_lem links (move i r (triple x y z)) h = move_of_number links i r (triple x y z) (has_link_range links i r (triple x y z) h)

pub in_move : (links : ℕ) (l : Line) (m : Move) → move_in links l ≡ some m → move_line m ≡ l
unfolding move_in move_line
in_move links (line k x y z) m h =
    let n = move_names links k (triple x y z) m h in
    ap move_line (sym n.same) ∙ ap (λ (j : ℕ). line j x y z) n.number

-- and it is by one of the links
pub in_linked : (links i : ℕ) (l : Line) (r : Rule) (t : Triple) → move_in links l ≡ some (move i r t) → InRange links i
unfolding move_in
in_linked links i (line k x y z) r t h =
    let n = move_names links k (triple x y z) (move i r t) h in
    let e : n.link ≡ i = ap link_in n.same in
    subst (InRange links) e n.linked
  where
    link_in : Move → ℕ
    link_in (move j r' u) = j

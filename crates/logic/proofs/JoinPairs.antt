-- Pairs that replay what a path is given are the only ones (02, R-1), and the example of it holds.
use Prim.Native.Nat.{ℕ}
use native.Mathlib.Omega.{arith}
use mathlib.Core.Path.{◌≡◌, refl, sym, ap, ◌∙◌, subst}
use mathlib.Core.List.{List, [], ◌∷◌, ◌++◌, map}
use lib.ListN.{length}
use mathlib.Core.Option.{Option, none, some, Option-elim}
use Rattle.logic.specs.Search.{◌and◌, ◌or◌, from, any, select, or_else, first_of}
use Rattle.logic.specs.Query.{term_count, entry_of, names_nil, argument_of, four_sections, boolean_section, five_sections}
use Rattle.logic.specs.Query.{sections, with_part, layout, layout_by, layout_of, literals, section, query_of, decode}
use Rattle.logic.specs.Facts.{Facts, link_numbers, terms, became, replace_in, replace, successors, first_two, doubled, unjoined}
use Rattle.logic.specs.Facts.{join_pair, and_then, settle, join, links_of, join_each, reach_each, nil_terms, join_nil, start_joins, start}
use Rattle.logic.specs.Rules.{equal}
use Rattle.logic.specs.JoinPairs.{Given, fact, taken, Replays, doubles, takes, all_taken, plain_given, equal_given, nil_given, start_given, replace_each, three_equal, ReplaysThree, ReplayExample}

module _ (n : ℕ) where
  -- how pairs begin, by what is given and by the doubled successors found
  Taken : Facts → List Given → List (ℕ × ℕ) → Facts → Type 0
  Taken s [] pairs end = (pairs ≡ []) × (end ≡ s)
  Taken s (g ∷ given) pairs end = (rest : List (ℕ × ℕ)) × Replays n (taken g s).facts given rest end × (pairs ≡ (taken g s).pairs ++ rest)

  Begins : Facts → List Given → List (ℕ × ℕ) → Facts → Option (ℕ × ℕ) → Type 0
  Begins s given pairs end none = Taken s given pairs end
  Begins s given pairs end (some ab) = (rest : List (ℕ × ℕ)) × Replays n (replace ab.0 ab.1 s) given rest end × (pairs ≡ ab ∷ rest)

  -- where no term has two successors, what is given decides
  begins-taken : (s end : Facts) (given : List Given) (pairs : List (ℕ × ℕ)) → doubled n s ≡ none → Taken s given pairs end → Begins s given pairs end (doubled n s)
  unfolding Begins
  begins-taken s end given pairs e t = subst (Begins s given pairs end) (sym e) t

  begins : {s end : Facts} {given : List Given} {pairs : List (ℕ × ℕ)} → Replays n s given pairs end → Begins s given pairs end (doubled n s)
  unfolding Begins Taken
  begins (doubles {s = s} {end = end} {given = given} {pairs = pairs} ab e r) = subst (Begins s given (ab ∷ pairs) end) (sym e) (pairs, r, refl)
  begins (takes {s = s} {end = end} g {given = given} {pairs = pairs} e r) = begins-taken s end (g ∷ given) ((taken g s).pairs ++ pairs) e (pairs, r, refl)
  begins (all_taken {s = s} e) = begins-taken s s [] [] e (refl, refl)

  pub replays_one : {s end : Facts} {given : List Given} {pairs : List (ℕ × ℕ)} → Replays n s given pairs end →
      (pairs' : List (ℕ × ℕ)) (end' : Facts) → Replays n s given pairs' end' → (pairs ≡ pairs') × (end ≡ end')
  unfolding Begins Taken
  replays_one (doubles {s = s} {given = given} ab e r) pairs' end' r' =
      let (rest, b, p) = subst (Begins s given pairs' end') e (begins r') in
      let (same, there) = replays_one r rest end' b in
      (ap (λ (ps : List (ℕ × ℕ)). ab ∷ ps) same ∙ sym p, there)
  replays_one (takes {s = s} g {given = given} e r) pairs' end' r' =
      let (rest, b, p) = subst (Begins s (g ∷ given) pairs' end') e (begins r') in
      let (same, there) = replays_one r rest end' b in
      (ap (λ (ps : List (ℕ × ℕ)). (taken g s).pairs ++ ps) same ∙ sym p, there)
  replays_one (all_taken {s = s} e) pairs' end' r' =
      let (p, there) = subst (Begins s [] pairs' end') e (begins r') in
      (sym p, sym there)

-- the example: its two equalities are its pairs, with no doubled successors before or behind; and what the other pairs make of its terms
three_computed : ReplaysThree ((2, 3) ∷ (1, 2) ∷ []) (start three_equal)
    × (map (replace_each ((1, 2) ∷ (1, 3) ∷ []) (links_of three_equal)).rep (1 ∷ 2 ∷ 3 ∷ []) ≡ map (start three_equal).rep (1 ∷ 2 ∷ 3 ∷ []))
unfolding Option-elim ◌and◌ ◌or◌ from any select or_else first_of term_count entry_of names_nil argument_of four_sections boolean_section five_sections
    sections with_part layout layout_by layout_of literals section query_of decode link_numbers terms became replace_in replace successors first_two doubled
    unjoined join_pair and_then settle join links_of join_each reach_each nil_terms join_nil start_joins start taken plain_given equal_given nil_given start_given
    replace_each three_equal
three_computed = (takes (fact (equal 2 3)) refl (takes (fact (equal 1 2)) refl (all_taken refl)), refl)

-- what tells lists of pairs apart: the term kept first, and how many they are
first_kept : List (ℕ × ℕ) → ℕ
first_kept [] = 0
first_kept (ab ∷ rest) = ab.0

three_only : (pairs : List (ℕ × ℕ)) (end : Facts) → ReplaysThree pairs end → (2 ≡ first_kept pairs) × (2 ≡ length pairs)
unfolding first_kept
three_only pairs end r = let e = (replays_one 3 three_computed.0 pairs end r).0 in (ap first_kept e, ap length e)

pub replay_example_holds : ReplayExample
unfolding first_kept
replay_example_holds =
    record {
      in_order = three_computed.0;
      other_replaced = three_computed.1;
      other_order = λ end r. absurd (omega (arith, (three_only _ end r).0));
      left_out = λ end r. absurd (omega (arith, (three_only _ end r).1));
      written_twice = λ end r. absurd (omega (arith, (three_only _ end r).1));
    }

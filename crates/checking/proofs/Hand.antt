-- A hand's walk whose paths all clash is a derivation: its picks that are not vain are the rule lines, each once.
use Prim.Native.Nat.{ℕ, zero, suc, ◌+◌, ◌-◌, ◌*◌}
use native.Mathlib.Omega.{arith}
use mathlib.Core.Path.{◌≡◌, refl, sym, ap, ap₂, ◌∙◌, subst}
use mathlib.Core.Bool.{Bool, true, false, not, cond}
use mathlib.Core.List.{List, [], ◌∷◌, ◌++◌, map, append_assoc, append-nil}
use mathlib.Core.Option.{Option, none, some, Option-elim}
use lib.ListN.{length, length-append}
use lib.Dec.{eqb}
use Rattle.logic.specs.Search.{◌and◌, ◌or◌, select, any, all, at, holds_of}
use Rattle.logic.specs.Query.{Query, term_count}
use Rattle.logic.specs.Facts.{Facts, Line, line, join_lines, start_joins, start, is_clash, clash_lines, clash}
use Rattle.logic.specs.Rules.{Triple, triple, Move, move, Fact, alternatives, applies, branch, add, branches, rule_number, move_number, move_line, move_of}
use Rattle.logic.specs.Walk.{Pick, refuted, satisfiable, is_clashed, is_saturated, picked, splice, pick_each, hand_row, hand_verdict}
use Rattle.logic.specs.Derivation.{Refutes, ends, follows, RefutesEach, none_left}
use Rattle.logic.specs.Derivation as derivation
use Rattle.theory.proofs.Basics.Search.{none-some, is_some-true, is_some-false, not-true, and_left, and_right, and-false, find-some}
use Rattle.theory.proofs.Basics.Compare.{cond-true, cond-false, eqb-false}
use Rattle.checking.specs.Fitting.{same_line, move_in}
use Rattle.checking.specs.Hand.{is_taken, is_vain, taken_from, taken_picks, line_with, pick_line, is_clash_line, is_rule_line, occurrences, Ends, no_path, one_more, HandWrites}
use Rattle.checking.proofs.Moves.{rule_below, in_move}

-- Lines that pass a test, and how often one stands there

select-append : {A : Type 0} (p : A → Bool) (xs ys : List A) → select p (xs ++ ys) ≡ select p xs ++ select p ys
unfolding select
select-append p [] ys = refl
select-append {A} p (x ∷ xs) ys = go (p x) (select-append p xs ys)
  where
    go : (b : Bool) → select p (xs ++ ys) ≡ select p xs ++ select p ys → cond b (x ∷ select p (xs ++ ys)) (select p (xs ++ ys)) ≡ cond b (x ∷ select p xs) (select p xs) ++ select p ys
    go true ih = ap (λ (zs : List A). x ∷ zs) ih
    go false ih = ih

occurrences-append : (l : Line) (ls ms : List Line) → occurrences l (ls ++ ms) ≡ occurrences l ls + occurrences l ms
unfolding occurrences
occurrences-append l ls ms = ap length (select-append (same_line l) ls ms) ∙ length-append (select (same_line l) ls) (select (same_line l) ms)

-- of a line and those behind it
select_passes : (p : Line → Bool) (l : Line) (ls : List Line) → p l ≡ true → select p (l ∷ ls) ≡ l ∷ select p ls
unfolding select
select_passes p l ls h = cond-true (l ∷ select p ls) (select p ls) h

select_drops : (p : Line → Bool) (l : Line) (ls : List Line) → p l ≡ false → select p (l ∷ ls) ≡ select p ls
unfolding select
select_drops p l ls h = cond-false (l ∷ select p ls) (select p ls) h

-- A rule line is no clash line, and a join line is neither

clash-ends : (q : Query) (s : Facts) (l : Line) → is_clash q s l ≡ true → is_clash_line l ≡ true
unfolding is_clash is_clash_line
clash-ends q s (line k a b c) h = and_left (eqb k 9) _ h

clash_no_rule : (q : Query) (s : Facts) (l : Line) → is_clash q s l ≡ true → is_rule_line l ≡ false
unfolding is_clash is_rule_line ◌or◌
clash_no_rule q s (line k a b c) h = rw (and_left (eqb k 9) _ h) refl

rule-rules : (m : Move) → is_rule_line (move_line m) ≡ true
unfolding is_rule_line move_line move_number ◌or◌
rule-rules (move i r (triple x y z)) =
    let n = rule_below r in
    rw (eqb-false (16 * (i - 1) + rule_number r) 9 (λ e. omega arith), eqb-false (16 * (i - 1) + rule_number r) 10 (λ e. omega arith)) refl

rule_no_clash : (m : Move) → is_clash_line (move_line m) ≡ false
unfolding is_clash_line move_line move_number
rule_no_clash (move i r (triple x y z)) = let n = rule_below r in eqb-false (16 * (i - 1) + rule_number r) 9 (λ e. omega arith)

-- the move of a pick is that of its line
move_with : (links k : ℕ) (t : Triple) (m : Move) → move_of links k t ≡ some m → move_line m ≡ line_with k t
unfolding move_in line_with
move_with links k (triple x y z) m h = in_move links (line k x y z) m h

joins_no_rule : (ps : List (ℕ × ℕ)) → select is_rule_line (join_lines ps) ≡ []
unfolding join_lines select is_rule_line ◌or◌
joins_no_rule [] = refl
joins_no_rule (p ∷ ps) = joins_no_rule ps

joins_no_clash : (ps : List (ℕ × ℕ)) → select is_clash_line (join_lines ps) ≡ []
unfolding join_lines select is_clash_line
joins_no_clash [] = refl
joins_no_clash (p ∷ ps) = joins_no_clash ps

-- Rows of paths

abbrev rule_lines : List Line → List Line
rule_lines ls = select is_rule_line ls

abbrev end_lines : List Line → List Line
end_lines ls = select is_clash_line ls

rules-append : (l : Line) (ls ms : List Line) → occurrences l (rule_lines (ls ++ ms)) ≡ occurrences l (rule_lines ls) + occurrences l (rule_lines ms)
rules-append l ls ms = ap (occurrences l) (select-append is_rule_line ls ms) ∙ occurrences-append l (rule_lines ls) (rule_lines ms)

-- lines of which none passes stand at the head of a branch, and others behind it
module _ (p : Line → Bool) (js ms ns rest more : List Line) where
  regroup : select p js ≡ [] → select p (ns ++ rest) ≡ select p more → select p (((js ++ ms) ++ ns) ++ rest) ≡ select p (ms ++ more)
  regroup e h =
      ap (select p) (append_assoc (js ++ ms) ns rest)
      ∙ select-append p (js ++ ms) (ns ++ rest)
      ∙ ap₂ (λ (x y : List Line). x ++ y) (select-append p js ms ∙ ap (λ (x : List Line). x ++ select p ms) e) h
      ∙ sym (select-append p ms more)

-- the line of a pick, unless it is vain
abbrev told : Bool → Pick → List Line
told vain p = cond vain [] (pick_line p ∷ [])

taken-told : (p : Pick) (rest : List Pick) (vain : Bool) → told vain p ++ map pick_line rest ≡ map pick_line (cond vain rest (p ∷ rest))
taken-told p rest true = refl
taken-told p rest false = refl

module _ (q : Query) where
  abbrev n : ℕ
  n = term_count q

  -- lines refute the paths of a row, one after the other
  RefutesRow : List Facts → List Line → Type 0
  RefutesRow [] ls = ls ≡ []
  RefutesRow (s ∷ row) ls = (ms : List Line) × (rest : List Line) × (ls ≡ ms ++ rest) × Refutes q s ms × RefutesRow row rest

  -- there are such lines, with these rule lines, in some order, and these clash lines
  record Written (row : List Facts) (rules clashes : List Line) : Type 0 where
    lines : List Line
    refutes : RefutesRow row lines
    by_rules : (l : Line) → occurrences l (rule_lines lines) ≡ occurrences l rules
    by_clashes : end_lines lines ≡ clashes

  -- a row whose paths all clash
  ended : {row : List Facts} {es : List Line} → Ends q row es → RefutesRow row es × (rule_lines es ≡ []) × (end_lines es ≡ es)
  unfolding RefutesRow select
  ended no_path = (refl, refl, refl)
  ended (one_more {s = s} {row = row} l {ls = ls} e es) =
      let (r, rules, same) = ended es in (
        (l ∷ [], ls, refl, ends l e, r),
        select_drops is_rule_line l ls (clash_no_rule q s l e) ∙ rules,
        select_passes is_clash_line l ls (clash-ends q s l e) ∙ ap (λ (x : List Line). l ∷ x) same,
      )

  -- lines of the paths of a rule's branches, and of others after them: those of the branches, with their joins, and those of the others
  record Parted (s : Facts) (cs : List Fact) (row : List Facts) (ls : List Line) : Type 0 where
    own : List Line
    rest : List Line
    each : RefutesEach q s cs own
    others : RefutesRow row rest
    same_rules : rule_lines (own ++ rest) ≡ rule_lines ls
    same_clashes : end_lines (own ++ rest) ≡ end_lines ls

  parted : (s : Facts) (cs : List Fact) (row : List Facts) (ls : List Line) → RefutesRow (map (add n s) cs ++ row) ls → Parted s cs row ls
  unfolding RefutesRow
  parted s [] row ls r = record { own = []; rest = ls; each = none_left; others = r; same_rules = refl; same_clashes = refl }
  parted s (c ∷ cs) row ls (ms, more, e, r, rs) =
      let behind = parted s cs row more rs in
      let pairs : List (ℕ × ℕ) = (branch n s c).pairs in
      let joins : List Line = join_lines pairs in
      record {
        own = (joins ++ ms) ++ behind.own;
        rest = behind.rest;
        each = derivation.one_more r behind.each;
        others = behind.others;
        same_rules = regroup is_rule_line joins ms behind.own behind.rest more (joins_no_rule pairs) behind.same_rules ∙ ap rule_lines (sym e);
        same_clashes = regroup is_clash_line joins ms behind.own behind.rest more (joins_no_clash pairs) behind.same_clashes ∙ ap end_lines (sym e);
      }

  -- The row that a pick meets, from the row that it leaves

  module _ (p : Pick) where
    -- lines of the row before the pick, given those after it
    abbrev Before : Bool → List Facts → List Line → Type 0
    Before vain row ls = Written row (told vain p ++ rule_lines ls) (end_lines ls)

    stays : (row : List Facts) (ls : List Line) → RefutesRow row ls → Before true row ls
    stays row ls r = record { lines = ls; refutes = r; by_rules = λ l. refl; by_clashes = refl }

    module _ (s : Facts) (row : List Facts) (ls : List Line) where
      gives_way : (m : Move) → move_line m ≡ pick_line p → clash q s ≡ none → applies n s m ≡ true → RefutesRow (branches n s m ++ row) ls → Before false (s ∷ row) ls
      unfolding RefutesRow branches
      gives_way m e free app r =
          let t = parted s (alternatives n s.graph m) row ls r in
          let below : List Line = t.own ++ t.rest in
          record {
            lines = move_line m ∷ below;
            refutes = (move_line m ∷ t.own, t.rest, refl, follows m free app t.each, t.others);
            by_rules = λ l. ap (occurrences l) (select_passes is_rule_line (move_line m) below (rule-rules m) ∙ ap₂ (λ (x : Line) (y : List Line). x ∷ y) e t.same_rules);
            by_clashes = select_drops is_clash_line (move_line m) below (rule_no_clash m) ∙ t.same_clashes;
          }

      abbrev free : Bool
      free = not (is_clashed q s)

      at_test : (m : Move) (b : Bool) → free and applies n s m ≡ b → move_line m ≡ pick_line p → RefutesRow (cond b (branches n s m) (s ∷ []) ++ row) ls → Before (not b) (s ∷ row) ls
      unfolding is_clashed
      at_test m true e f r = gives_way m f (is_some-false (clash q s) (not-true (and_left free (applies n s m) e))) (and_right free (applies n s m) e) r
      at_test m false e f r = stays (s ∷ row) ls r

      at_path : RefutesRow (picked q p s ++ row) ls → Before (not (is_taken q p s)) (s ∷ row) ls
      unfolding picked is_taken Option-elim holds_of pick_line
      at_path r = at_move (move_of s.links p.rule p.at_triple) refl r
        where
          pick : Option Move → List Facts
          pick o = Option-elim o (s ∷ []) (λ m. cond (free and applies n s m) (branches n s m) (s ∷ []))

          at_move : (o : Option Move) → move_of s.links p.rule p.at_triple ≡ o → RefutesRow (pick o ++ row) ls → Before (not (free and holds_of o (applies n s))) (s ∷ row) ls
          at_move none e r = rw (and-false free) (stays (s ∷ row) ls r)
          at_move (some m) e r = at_test m (free and applies n s m) refl (move_with s.links p.rule p.at_triple m e) r

    before : (i : ℕ) (row : List Facts) (ls : List Line) → RefutesRow (splice (picked q p) i row) ls → Before (not (holds_of (at row i) (is_taken q p))) row ls
    unfolding splice at holds_of RefutesRow
    before zero [] ls r = stays [] ls r
    before zero (s ∷ row) ls r = stays (s ∷ row) ls r
    before (suc i) [] ls r = stays [] ls r
    before (suc zero) (s ∷ row) ls r = at_path s row ls r
    before (suc (suc i)) (s ∷ row) ls (ms, more, e, r, rs) =
        let w = before (suc i) row more rs in
        let here : List Line = told (not (holds_of (at row (suc i)) (is_taken q p))) p in
        record {
          lines = ms ++ w.lines;
          refutes = (ms, w.lines, refl, r, w.refutes);
          by_rules = λ l.
              let rules : occurrences l (rule_lines ls) ≡ occurrences l (rule_lines (ms ++ more)) = ap (λ (x : List Line). occurrences l (rule_lines x)) e in
              omega (arith, rules, w.by_rules l, rules-append l ms w.lines, rules-append l ms more, occurrences-append l here (rule_lines more), occurrences-append l here (rule_lines ls));
          by_clashes = select-append is_clash_line ms w.lines ∙ ap (λ (x : List Line). end_lines ms ++ x) w.by_clashes ∙ sym (select-append is_clash_line ms more) ∙ ap end_lines (sym e);
        }

  -- a list of picks, from the row that it leaves
  rows : (picks : List Pick) (row : List Facts) (es : List Line) → Ends q (pick_each q picks row) es → Written row (map pick_line (taken_from q picks row)) es
  unfolding pick_each taken_from is_vain
  rows [] row es e = let (r, rules, same) = ended e in record { lines = es; refutes = r; by_rules = λ l. ap (occurrences l) rules; by_clashes = same }
  rows (p ∷ ps) row es e =
      let left : List Facts = splice (picked q p) p.position row in
      let vain : Bool = not (holds_of (at row p.position) (is_taken q p)) in
      let after = rows ps left es e in
      let w = before p p.position row after.lines after.refutes in
      let taken : List Line = map pick_line (taken_from q ps left) in
      record {
        lines = w.lines;
        refutes = w.refutes;
        by_rules = λ l.
            w.by_rules l
            ∙ occurrences-append l (told vain p) (rule_lines after.lines)
            ∙ ap (λ (k : ℕ). occurrences l (told vain p) + k) (after.by_rules l)
            ∙ sym (occurrences-append l (told vain p) taken)
            ∙ ap (occurrences l) (taken-told p (taken_from q ps left) vain);
        by_clashes = w.by_clashes ∙ after.by_clashes;
      }

  -- The lines of a hand's walk

  pub hand_writes : (picks : List Pick) (es : List Line) → Ends q (hand_row q picks) es → (lines : List Line) × HandWrites q picks lines × (end_lines lines ≡ es)
  unfolding hand_row taken_picks RefutesRow
  hand_writes picks es e =
      let w = rows picks (start q ∷ []) es e in
      let (ms, rest, f, r, past) = w.refutes in
      let pairs : List (ℕ × ℕ) = (start_joins q).pairs in
      let joins : List Line = join_lines pairs in
      let rules : rule_lines (joins ++ w.lines) ≡ rule_lines w.lines = select-append is_rule_line joins w.lines ∙ ap (λ (x : List Line). x ++ rule_lines w.lines) (joins_no_rule pairs) in
      let same : end_lines (joins ++ w.lines) ≡ es = select-append is_clash_line joins w.lines ∙ ap (λ (x : List Line). x ++ end_lines w.lines) (joins_no_clash pairs) ∙ w.by_clashes in (
        joins ++ w.lines,
        record {
          follows = record { walked = w.lines; headed = refl; refutes = subst (Refutes q (start q)) (sym (f ∙ ap (λ (x : List Line). ms ++ x) past ∙ append-nil ms)) r };
          rule_lines_lem = λ l. ap (occurrences l) rules ∙ w.by_rules l;
          clash_lines_lem = subst (Ends q (hand_row q picks)) (sym same) e;
        },
        same,
      )

  -- where the walk is refuted, every path of its row has a clash

  row_clashed : (row : List Facts) → hand_verdict q row ≡ some refuted → all (is_clashed q) row ≡ true
  unfolding hand_verdict
  row_clashed row e = go (all (is_clashed q) row) (any (is_saturated q) row) e
    where
      go : (b c : Bool) → cond b (some refuted) (cond c (some satisfiable) none) ≡ some refuted → b ≡ true
      go true c e = refl
      go false true e = let z : ◌≡◌ {A = ℕ} 0 1 = cc in absurd (omega arith)
      go false false e = absurd (none-some e)

  clashed_ends : (row : List Facts) → all (is_clashed q) row ≡ true → (es : List Line) × Ends q row es
  unfolding all is_clashed clash
  clashed_ends [] h = ([], no_path)
  clashed_ends (s ∷ row) h =
      let (l, e) = is_some-true (clash q s) (and_left (is_clashed q s) (all (is_clashed q) row) h) in
      let (es, r) = clashed_ends row (and_right (is_clashed q s) (all (is_clashed q) row) h) in
      (l ∷ es, one_more l (find-some (is_clash q s) (clash_lines q) l e).1 r)

  pub refuted-ends : (row : List Facts) → hand_verdict q row ≡ some refuted → (es : List Line) × Ends q row es
  refuted-ends row h = clashed_ends row (row_clashed row h)

-- A vain pick leaves the row

module _ (q : Query) (p : Pick) where
  vain_path : (s : Facts) → is_taken q p s ≡ false → picked q p s ≡ s ∷ []
  unfolding picked is_taken Option-elim holds_of
  vain_path s h = go (move_of s.links p.rule p.at_triple) h
    where
      free : Bool
      free = not (is_clashed q s)

      at_move : Move → List Facts
      at_move m = cond (free and applies (term_count q) s m) (branches (term_count q) s m) (s ∷ [])

      go : (o : Option Move) → free and holds_of o (applies (term_count q) s) ≡ false → Option-elim o (s ∷ []) at_move ≡ s ∷ []
      go none h = refl
      go (some m) h = cond-false (branches (term_count q) s m) (s ∷ []) h

  vain_splice : (i : ℕ) (row : List Facts) → not (holds_of (at row i) (is_taken q p)) ≡ true → splice (picked q p) i row ≡ row
  unfolding splice at holds_of
  vain_splice zero [] h = refl
  vain_splice zero (s ∷ row) h = refl
  vain_splice (suc i) [] h = refl
  vain_splice (suc zero) (s ∷ row) h = ap (λ (x : List Facts). x ++ row) (vain_path s (not-true h))
  vain_splice (suc (suc i)) (s ∷ row) h = ap (λ (x : List Facts). s ∷ x) (vain_splice (suc i) row h)

  pub vain_stays : (row : List Facts) → is_vain q p row ≡ true → splice (picked q p) p.position row ≡ row
  unfolding is_vain
  vain_stays row h = vain_splice p.position row h

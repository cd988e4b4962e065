-- Lines fit to the end exactly if they are a derivation: one line after the other, and the whole tree.
use Prim.Native.Nat.{ℕ, ◌+◌, ◌-◌, ◌*◌, ◌<◌}
use native.Mathlib.Omega.{arith}
use mathlib.Core.Path.{◌≡◌, refl, sym, ap, ap₂, ◌∙◌, subst}
use mathlib.Core.Bool.{Bool, true, false, cond}
use mathlib.Core.List.{List, [], ◌∷◌, ◌++◌, map, append_assoc, append-nil}
use mathlib.Core.Option.{Option, none, some, Option-elim}
use lib.Dec.{eqb}
use Rattle.logic.specs.Search.{◌and◌, keep, is_some, first_of}
use Rattle.logic.specs.Query.{Query, term_count}
use Rattle.logic.specs.Facts.{Facts, Line, line, join_lines, start_joins, start, is_clash, clash, link_numbers}
use Rattle.logic.specs.Rules.{Rule, REFLEX, TRANS1, TRANS2, FUNC, CYCLE, SCC, TOTAL, SHARE, rules, rule_number, Triple, triple, Move, move, Fact}
use Rattle.logic.specs.Rules.{alternatives, has_link, applies, branch, add, move_number, move_line, move_of}
use Rattle.logic.specs.Walk.{is_clashed}
use Rattle.logic.specs.Derivation.{Derivation, Refutes, ends, follows, RefutesEach, none_left, one_more}
use Rattle.theory.proofs.Basics.Search.{none-some, keep_some, and_left, and_right, and_intro, is_some-false, first_of-some}
use Rattle.theory.proofs.Basics.Compare.{eqb-true, eqb-false, eqb_self}
use Rattle.theory.proofs.Paths.Applies.{has_link_range, applies_linked}
use Rattle.theory.proofs.Walks.Order.{move_of_number}
use Rattle.checking.specs.Fitting.{Goal, goal_of, same_line, move_in, goals_of, after_rule, at_path, at_goal, step, start_goal, Fit}
use Rattle.checking.specs.Fitting as fitting
use Rattle.checking.proofs.Moves.{rule_below, move_in_lem, in_move}

-- Lines by their numbers

pub same_line_lem : (l m : Line) → same_line l m ≡ true → l ≡ m
unfolding same_line
same_line_lem (line a b c d) (line w x y z) h =
    let abc = and_left (eqb a w and eqb b x and eqb c y) (eqb d z) h in
    let ab = and_left (eqb a w and eqb b x) (eqb c y) abc in
    let e = eqb-true a w (and_left (eqb a w) (eqb b x) ab) in
    let f = eqb-true b x (and_right (eqb a w) (eqb b x) ab) in
    let g = eqb-true c y (and_right (eqb a w and eqb b x) (eqb c y) abc) in
    let i = eqb-true d z (and_right (eqb a w and eqb b x and eqb c y) (eqb d z) h) in
    cc

pub line_same : (l : Line) → same_line l l ≡ true
unfolding same_line
line_same (line a b c d) = and_intro (and_intro (and_intro (eqb_self a) (eqb_self b)) (eqb_self c)) (eqb_self d)

-- Lines that fit, one row after another

pub fit_append : (q : Query) {gs hs ks : List Goal} {ls ms : List Line} → Fit q gs ls hs → Fit q hs ms ks → Fit q gs (ls ++ ms) ks
fit_append q fitting.no_line g = g
fit_append q (fitting.one_more l e f) g = fitting.one_more l e (fit_append q f g)

-- a path with the lines still to come at its head; and what is left of all goals, by what is left of the first
abbrev goal : List Line → Facts → Goal
goal head s = record { heading = head; facts = s }

abbrev leaves : Option (List Goal) → List Goal → Option (List Goal)
leaves o gs = Option-elim o none (λ new. some (new ++ gs))

-- A derivation fits

module _ (q : Query) where
  step-heading : (h : Line) (hs : List Line) (s : Facts) (gs : List Goal) → step q (goal (h ∷ hs) s ∷ gs) h ≡ some (goal hs s ∷ gs)
  unfolding step at_goal Option-elim keep
  step-heading h hs s gs = rw (line_same h)

  heading_fits : (hs : List Line) (s : Facts) (gs : List Goal) → Fit q (goal hs s ∷ gs) hs (goal [] s ∷ gs)
  heading_fits [] s gs = fitting.no_line
  heading_fits (h ∷ hs) s gs = fitting.one_more h (step-heading h hs s gs) (heading_fits hs s gs)

  -- what is left of a path, unless the line is its clash
  abbrev unclashed : Facts → Line → Option (List Goal)
  unclashed s l = cond (is_clashed q s) none (after_rule q s l)

  module _ (s : Facts) (gs : List Goal) (l : Line) where
    abbrev Leaves : List Goal → Type 0
    Leaves hs = step q (goal [] s ∷ gs) l ≡ some hs

    pub step-clash : is_clash q s l ≡ true → Leaves gs
    unfolding step at_goal at_path Option-elim
    step-clash e = ap (λ (b : Bool). leaves (cond b (some []) (unclashed s l)) gs) e

    pub step_rule : (m : Move) → is_clash q s l ≡ false → clash q s ≡ none → move_in s.links l ≡ some m → applies (term_count q) s m ≡ true → Leaves (goals_of (term_count q) s m ++ gs)
    unfolding step at_goal at_path after_rule Option-elim is_clashed is_some keep
    step_rule m e f g h =
        ap (λ (b : Bool). leaves (cond b (some []) (unclashed s l)) gs) e
        ∙ ap (λ (o : Option Line). leaves (cond (is_some o) none (after_rule q s l)) gs) f
        ∙ ap (λ (o : Option Move). leaves (Option-elim o none (λ m. keep (applies (term_count q) s m) (goals_of (term_count q) s m))) gs) g
        ∙ ap (λ (b : Bool). leaves (keep b (goals_of (term_count q) s m)) gs) h

  -- a rule line is no clash line
  rule_no_clash : (s : Facts) (m : Move) → is_clash q s (move_line m) ≡ false
  unfolding is_clash move_line move_number ◌and◌
  rule_no_clash s (move i r (triple x y z)) = let n = rule_below r in rw (eqb-false (16 * (i - 1) + rule_number r) 9 (λ e. omega arith)) refl

  -- the goals of some alternatives, before others
  goals_by : Facts → List Fact → List Goal
  goals_by s cs = map (λ c. goal_of (branch (term_count q) s c)) cs

  pub refutes_fit : {s : Facts} {ls : List Line} → Refutes q s ls → (gs : List Goal) → Fit q (goal [] s ∷ gs) ls gs
  unfolding goals_by goals_of goal_of add
  refutes_fit r =
      elim r as (λ s ls r. (gs : List Goal) → Fit q (goal [] s ∷ gs) ls gs) (λ s cs ls r. (gs : List Goal) → Fit q (goals_by s cs ++ gs) ls gs) [
        | ends {s = s} l e ↦ λ gs. fitting.one_more l (step-clash s gs l e) fitting.no_line
        | follows {s = s} m free app (rs → below) ↦ λ gs.
            fitting.one_more (move_line m) (step_rule s gs (move_line m) m (rule_no_clash s m) free (move_in_lem s.links m (applies_linked (term_count q) s m app)) app) (below gs)
        | none_left ↦ λ gs. fitting.no_line
        | one_more {s = s} {c = c} {cs = cs} {ls = ls} {ms = ms} (r → first) (rs → rest) ↦ λ gs.
            fit_append q (fit_append q (heading_fits (join_lines (branch (term_count q) s c).pairs) (branch (term_count q) s c).facts (goals_by s cs ++ gs)) (first (goals_by s cs ++ gs))) (rest gs)
      ]

  pub derivation_fits : {lines : List Line} → Derivation q lines → Fit q (start_goal q ∷ []) lines []
  unfolding start_goal
  derivation_fits d =
      subst (λ (ls : List Line). Fit q (start_goal q ∷ []) ls []) (sym d.headed)
      (fit_append q (heading_fits (join_lines (start_joins q).pairs) (start q) []) (refutes_fit d.refutes []))

-- What fits to the end is a derivation

module _ (q : Query) where
  -- lines refute all goals, one after the other, the lines still to come at the head of each before it
  RefutesAll : List Goal → List Line → Type 0
  RefutesAll [] ls = ls ≡ []
  RefutesAll (g ∷ gs) ls = (ms : List Line) × (rest : List Line) × (ls ≡ (g.heading ++ ms) ++ rest) × Refutes q g.facts ms × RefutesAll gs rest

  -- the goals of a rule's branches, and others after them
  abbrev EachOf : Facts → List Fact → List Goal → List Line → Type 0
  EachOf s cs gs ls = (ms : List Line) × (rest : List Line) × (ls ≡ ms ++ rest) × RefutesEach q s cs ms × RefutesAll gs rest

  each_of : (s : Facts) (cs : List Fact) (gs : List Goal) (ls : List Line) → RefutesAll (goals_by q s cs ++ gs) ls → EachOf s cs gs ls
  unfolding goals_by RefutesAll goal_of add
  each_of s [] gs ls r = ([], ls, refl, none_left, r)
  each_of s (c ∷ cs) gs ls (ms, rest, e, r, rs) =
      let (ns, last, f, each, all) = each_of s cs gs rest rs in
      let head = join_lines (branch (term_count q) s c).pairs ++ ms in
      (head ++ ns, last, e ∙ ap (λ (x : List Line). head ++ x) f ∙ sym (append_assoc head ns last), one_more r each, all)

  -- what a line that fits leaves, by cases
  pub data Left (s : Facts) (gs : List Goal) (l : Line) : List Goal → Type 0 where
    clashed : is_clash q s l ≡ true → Left s gs l gs
    ruled : (m : Move) → clash q s ≡ none → move_line m ≡ l → applies (term_count q) s m ≡ true → Left s gs l (goals_of (term_count q) s m ++ gs)

  pub left_by : (s : Facts) (gs : List Goal) (l : Line) (hs : List Goal) → step q (goal [] s ∷ gs) l ≡ some hs → Left s gs l hs
  unfolding step at_goal at_path after_rule Option-elim is_clashed keep
  left_by s gs l hs h = at_clash (is_clash q s l) refl h
    where
      new : Move → List Goal
      new m = goals_of (term_count q) s m

      at-applies : (m : Move) (b : Bool) → clash q s ≡ none → move_line m ≡ l → applies (term_count q) s m ≡ b → leaves (keep b (new m)) gs ≡ some hs → Left s gs l hs
      at-applies m true free e a h = let f : new m ++ gs ≡ hs = cc in subst (Left s gs l) f (ruled m free e a)
      at-applies m false free e a h = absurd (none-some h)

      after : Option Move → Option (List Goal)
      after o = Option-elim o none (λ m. keep (applies (term_count q) s m) (new m))

      at_move : (o : Option Move) → clash q s ≡ none → move_in s.links l ≡ o → leaves (after o) gs ≡ some hs → Left s gs l hs
      at_move none free e h = absurd (none-some h)
      at_move (some m) free e h = at-applies m (applies (term_count q) s m) free (in_move s.links l m e) refl h

      at-free : (b : Bool) → is_clashed q s ≡ b → leaves (cond b none (after_rule q s l)) gs ≡ some hs → Left s gs l hs
      at-free true e h = absurd (none-some h)
      at-free false e h = at_move (move_in s.links l) (is_some-false (clash q s) e) refl h

      at_clash : (b : Bool) → is_clash q s l ≡ b → leaves (cond b (some []) (unclashed q s l)) gs ≡ some hs → Left s gs l hs
      at_clash true e h = let f : gs ≡ hs = cc in subst (Left s gs l) f (clashed e)
      at_clash false e h = at-free (is_clashed q s) refl h

  all_after : (s : Facts) (gs : List Goal) (l : Line) {hs : List Goal} (ls : List Line) → Left s gs l hs → RefutesAll hs ls → RefutesAll (goal [] s ∷ gs) (l ∷ ls)
  unfolding RefutesAll goals_of goals_by
  all_after s gs l ls (clashed e) r = (l ∷ [], ls, refl, ends l e, r)
  all_after s gs l ls (ruled m free e a) r =
      let (ms, rest, f, each, all) = each_of s (alternatives (term_count q) s.graph m) gs ls r in
      (move_line m ∷ ms, rest, ap₂ (λ (x : Line) (y : List Line). x ∷ y) (sym e) f, follows m free a each, all)

  all-headed : (h : Line) (head : List Line) (s : Facts) (gs : List Goal) (l : Line) (ls : List Line) → l ≡ h → RefutesAll (goal head s ∷ gs) ls → RefutesAll (goal (h ∷ head) s ∷ gs) (l ∷ ls)
  unfolding RefutesAll
  all-headed h head s gs l ls e (ms, rest, f, r, all) = (ms, rest, ap₂ (λ (x : Line) (y : List Line). x ∷ y) e f, r, all)

  all_before : (gs : List Goal) (l : Line) (hs : List Goal) (ls : List Line) → step q gs l ≡ some hs → RefutesAll hs ls → RefutesAll gs (l ∷ ls)
  unfolding step RefutesAll at_goal Option-elim keep
  all_before [] l hs ls e r = absurd (none-some e)
  all_before (g ∷ gs) l hs ls e r = at_heading g.heading g.facts e
    where
      at_heading : (head : List Line) (s : Facts) → step q (goal head s ∷ gs) l ≡ some hs → RefutesAll (goal head s ∷ gs) (l ∷ ls)
      at_heading [] s e = all_after s gs l ls (left_by s gs l hs e) r
      at_heading (h ∷ head) s e = at_same (same_line l h) refl e
        where
          at_same : (b : Bool) → same_line l h ≡ b → leaves (keep b (goal head s ∷ [])) gs ≡ some hs → RefutesAll (goal (h ∷ head) s ∷ gs) (l ∷ ls)
          at_same true f e =
              let k : goal head s ∷ gs ≡ hs = cc in
              all-headed h head s gs l ls (same_line_lem l h f) (subst (λ (x : List Goal). RefutesAll x ls) (sym k) r)
          at_same false f e = absurd (none-some e)

  fit_all : {gs hs : List Goal} {ls : List Line} → Fit q gs ls hs → hs ≡ [] → RefutesAll gs ls
  unfolding RefutesAll
  fit_all (fitting.no_line {gs = gs}) e = subst (λ (x : List Goal). RefutesAll x []) (sym e) refl
  fit_all (fitting.one_more {gs = gs} {hs = hs} l {ls = ls} e f) g = all_before gs l hs ls e (fit_all f g)

  pub fit_derivation : (lines : List Line) → Fit q (start_goal q ∷ []) lines [] → Derivation q lines
  unfolding RefutesAll start_goal
  fit_derivation lines f =
      let (ms, rest, e, r, past) = fit_all f refl in
      record { walked = ms; headed = e ∙ ap (λ (x : List Line). (join_lines (start_joins q).pairs ++ ms) ++ x) past ∙ append-nil _; refutes = r }

-- One line more: what is left, and what is found wrong.
use Prim.Native.Nat.{ℕ, ◌+◌, ◌≤◌, ◌<◌}
use native.Mathlib.Omega.{arith}
use mathlib.Core.Path.{◌≡◌, refl, ap, ◌∙◌, subst}
use mathlib.Core.Bool.{Bool, true, false, cond, false≢true}
use mathlib.Core.List.{List, [], ◌∷◌, ◌++◌}
use mathlib.Core.Option.{Option, none, some, Option-elim}
use Rattle.logic.specs.Search.{keep}
use Rattle.logic.specs.Query.{Query, term_count}
use Rattle.logic.specs.Facts.{Facts, Line, line, join_lines, is_clash}
use Rattle.logic.specs.Rules.{Move, applies}
use Rattle.logic.specs.Walk.{is_clashed}
use Rattle.joins.specs.Pairs.{pair_at, pairs_of}
use Rattle.joins.specs.declared.Pairs.{Pairs}
use Rattle.walk.proofs.Lines.{pairs_from, pairs_whole, pairs_end, pairs_next}
use Rattle.checking.specs.Fitting.{Goal, same_line, move_in, goals_of, after_rule, at_path, at_goal, step}
use Rattle.std.specs.Prelude.{Ok, Err}
use Rattle.derivation_lines.specs.Lines.{Shaped, line_at, is_line}
use Rattle.derivation_lines.specs.Judging.{wrong_at, resumed, JudgesHead}
use Rattle.derivation_lines.proofs.Lines.{line_within}
use Rattle.derivation_lines.proofs.Wrong.{wrong_none, wrong_unfit, wrong_fit}
use Rattle.checker.specs.Reading.{Read, ending, ruling, unfit, read_rule, read_line, read_at}

module _ (q : Query) (bytes : List ℕ) (i : ℕ) where
  -- a join line
  module _ (h : Line) (hs : List Line) (s : Facts) (gs : List Goal) where
    abbrev headed : List Goal
    headed = record { heading = h ∷ hs; facts = s } ∷ gs

    join_step : (l : Line) (b : Bool) → same_line l h ≡ b → step q headed l ≡ Option-elim (keep b (record { heading = hs; facts = s } ∷ [])) none (λ new. some (new ++ gs))
    unfolding step at_goal Option-elim
    join_step l b e = rw e refl

    pub join_fits : is_line (line_at bytes i) h ≡ true → wrong_at q bytes headed i ≡ wrong_at q bytes (record { heading = hs; facts = s } ∷ gs) (i + 1)
    unfolding is_line keep Option-elim
    join_fits e = go (line_at bytes i) refl e
      where
        go : (o : Option Line) → line_at bytes i ≡ o → is_line o h ≡ true → wrong_at q bytes headed i ≡ wrong_at q bytes (record { heading = hs; facts = s } ∷ gs) (i + 1)
        go none f e = absurd (false≢true e)
        go (some l) f e = wrong_fit q bytes i headed (record { heading = hs; facts = s } ∷ gs) l f (join_step l true e)

    pub join_unfit : is_line (line_at bytes i) h ≡ false → wrong_at q bytes headed i ≡ i + 1
    unfolding is_line keep Option-elim
    join_unfit e = go (line_at bytes i) refl e
      where
        go : (o : Option Line) → line_at bytes i ≡ o → is_line o h ≡ false → wrong_at q bytes headed i ≡ i + 1
        go none f e = wrong_none q bytes i (record { heading = h ∷ hs; facts = s }) gs f
        go (some l) f e = wrong_unfit q bytes i headed l f (join_step l false e)

  -- a line at a path
  module _ (s : Facts) (gs : List Goal) where
    abbrev bare : List Goal
    bare = record { heading = []; facts = s } ∷ gs

    -- what each reading says of what is left
    Says : Read → Type 0
    Says ending = wrong_at q bytes bare i ≡ wrong_at q bytes gs (i + 1)
    Says (ruling m) = wrong_at q bytes bare i ≡ wrong_at q bytes (goals_of (term_count q) s m ++ gs) (i + 1)
    Says unfit = wrong_at q bytes bare i ≡ i + 1

    says : (o : Option Line) → line_at bytes i ≡ o → Says (read_at q s o)
    unfolding Says read_at read_line read_rule step at_goal at_path after_rule Option-elim keep
    says none f = wrong_none q bytes i (record { heading = []; facts = s }) gs f
    says (some l) f = at_clash (is_clash q s l) refl
      where
        at-applies : (m : Move) (b : Bool) → is_clash q s l ≡ false → is_clashed q s ≡ false → move_in s.links l ≡ some m → applies (term_count q) s m ≡ b → Says (cond b (ruling m) unfit)
        at-applies m true c d e a = wrong_fit q bytes i bare (goals_of (term_count q) s m ++ gs) l f (rw (c, d, e, a) refl)
        at-applies m false c d e a = wrong_unfit q bytes i bare l f (rw (c, d, e, a) refl)

        at_move : (o : Option Move) → is_clash q s l ≡ false → is_clashed q s ≡ false → move_in s.links l ≡ o → Says (read_rule q s o)
        at_move none c d e = wrong_unfit q bytes i bare l f (rw (c, d, e) refl)
        at_move (some m) c d e = at-applies m (applies (term_count q) s m) c d e refl

        at-free : (b : Bool) → is_clash q s l ≡ false → is_clashed q s ≡ b → Says (cond b unfit (read_rule q s (move_in s.links l)))
        at-free true c d = wrong_unfit q bytes i bare l f (rw (c, d) refl)
        at-free false c d = at_move (move_in s.links l) c d refl

        at_clash : (b : Bool) → is_clash q s l ≡ b → Says (cond b ending (cond (is_clashed q s) unfit (read_rule q s (move_in s.links l))))
        at_clash true c = wrong_fit q bytes i bare gs l f (rw c refl)
        at_clash false c = at-free (is_clashed q s) c refl

    pub path_ends : read_at q s (line_at bytes i) ≡ ending → wrong_at q bytes bare i ≡ wrong_at q bytes gs (i + 1)
    unfolding Says
    path_ends e = subst Says e (says (line_at bytes i) refl)

    pub path_rules : (m : Move) → read_at q s (line_at bytes i) ≡ ruling m → wrong_at q bytes bare i ≡ wrong_at q bytes (goals_of (term_count q) s m ++ gs) (i + 1)
    unfolding Says
    path_rules m e = subst Says e (says (line_at bytes i) refl)

    pub path_wrong : read_at q s (line_at bytes i) ≡ unfit → wrong_at q bytes bare i ≡ i + 1
    unfolding Says
    path_wrong e = subst Says e (says (line_at bytes i) refl)

-- The join lines at a head, pair after pair

module _ (bytes : List ℕ) (count : ℕ) (p : Pairs) (first : ℕ) where
  pub record HeadLeft (i to : ℕ) : Type 0 where
    pub left : (q : Query) (s : Facts) (gs : List Goal) → wrong_at q bytes (record { heading = join_lines (pairs_of p); facts = s } ∷ gs) first ≡ wrong_at q bytes (record { heading = join_lines (pairs_from p i); facts = s } ∷ gs) to
    pub inside : to ≤ count

  pub head_begin : first ≤ count → HeadLeft 0 first
  head_begin h = record { left = λ q s gs. ap (λ (ps : List (ℕ × ℕ)). wrong_at q bytes (record { heading = join_lines ps; facts = s } ∷ gs) first) (pairs_whole p); inside = h }

  abbrev join_of : ℕ → Line
  join_of i = line 10 (pair_at p.entries i).0 (pair_at p.entries i).1 0

  headed-at : (i to : ℕ) → i < p.count → HeadLeft i to → (q : Query) (s : Facts) (gs : List Goal) → wrong_at q bytes (record { heading = join_lines (pairs_of p); facts = s } ∷ gs) first ≡ wrong_at q bytes (record { heading = join_of i ∷ join_lines (pairs_from p (i + 1)); facts = s } ∷ gs) to
  unfolding join_lines
  headed-at i to h l q s gs = l.left q s gs ∙ ap (λ (ps : List (ℕ × ℕ)). wrong_at q bytes (record { heading = join_lines ps; facts = s } ∷ gs) to) (pairs_next p i h)

  pub head_next : Shaped bytes count → (i to : ℕ) → i < p.count → HeadLeft i to → is_line (line_at bytes to) (join_of i) ≡ true → HeadLeft (i + 1) (to + 1)
  unfolding is_line
  head_next shape i to h l e =
      record {
        left = λ q s gs. headed-at i to h l q s gs ∙ join_fits q bytes to (join_of i) (join_lines (pairs_from p (i + 1))) s gs e;
        inside = read (line_at bytes to) refl e;
      }
    where
      read : (o : Option Line) → line_at bytes to ≡ o → is_line o (join_of i) ≡ true → to + 1 ≤ count
      read none f e = absurd (false≢true e)
      read (some m) f e = let b = line_within bytes count to m shape f in omega arith

  pub head_wrong : (i to : ℕ) → i < p.count → HeadLeft i to → is_line (line_at bytes to) (join_of i) ≡ false → JudgesHead bytes count (pairs_of p) first (Err (to + 1))
  unfolding resumed
  head_wrong i to h l e =
      record {
        judges = λ q s gs. headed-at i to h l q s gs ∙ join_unfit q bytes to (join_of i) (join_lines (pairs_from p (i + 1))) s gs e;
        within = tt;
        numbered = omega arith;
      }

  pub head_end : (i to : ℕ) → p.count ≤ i → HeadLeft i to → JudgesHead bytes count (pairs_of p) first (Ok to)
  unfolding resumed join_lines
  head_end i to h l =
      record {
        judges = λ q s gs. l.left q s gs ∙ ap (λ (ps : List (ℕ × ℕ)). wrong_at q bytes (record { heading = join_lines ps; facts = s } ∷ gs) to) (pairs_end p i h);
        within = l.inside;
        numbered = tt;
      }

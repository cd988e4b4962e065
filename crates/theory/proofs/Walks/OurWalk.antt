-- Our walk as a relation: a path has one ending; and the walk with steps left computes it, where no more steps than that are possible.
use Prim.Native.Nat.{ℕ, zero, suc, ◌-◌, ◌≤◌}
use native.Mathlib.Omega.{arith}
use mathlib.Core.Path.{◌≡◌, refl, sym, ap, ap₂, ◌∙◌, subst}
use mathlib.Core.Logic.{◌⊎◌, ⊎_elim, inl, inr}
use mathlib.Core.List.{List, [], ◌∷◌, ◌++◌, Memᴰ}
use mathlib.Core.Option.{Option-elim}
use Rattle.logic.specs.Query.{Query, term_count}
use Rattle.logic.specs.Facts.{Facts, Line, join_lines, clash}
use Rattle.logic.specs.Rules.{Rule, Move, Fact, alternatives, branch, add, branches, move_line}
use Rattle.logic.specs.Walk.{Look, clashing, applying, saturated, look, Ending, refutation, saturation, after, then_ending, walk_branch, walk_each, end_at, walk}
use Rattle.logic.specs.Steps.{Step, Steps, at_first, one_more, AtMost}
use Rattle.logic.specs.OurWalk.{Walks, clashes, saturates, goes_on, WalksEach, all_tried, refuted_first, saturated_first}
use Rattle.theory.proofs.Basics.Search.{map_intro}
use Rattle.theory.proofs.Walks.Derives.{refuted_saturated, seen-clashing, seen-applying, seen-saturated}
use Rattle.theory.proofs.Walks.Gains.{applies-step}

-- Steps in front of others

pub steps_first : {n : ℕ} {s s' s'' : Facts} {k : ℕ} → Step n s s' → Steps n s' k s'' → Steps n s (suc k) s''
steps_first step at_first = one_more at_first step
steps_first step (one_more steps last) = one_more (steps_first step steps) last

-- one step leaves one fewer
at_most-step : {n : ℕ} {s s' : Facts} (k : ℕ) → AtMost n s k → Step n s s' → AtMost n s' (k - 1)
at_most-step k most step j s'' steps = let l = most (suc j) s'' (steps_first step steps) in omega arith

at_most-some : {n : ℕ} {s s' : Facts} (k : ℕ) → AtMost n s k → Step n s s' → 1 ≤ k
at_most-some {s' = s'} k most step = most 1 s' (one_more at_first step)

refuted_lines : {ls ms : List Line} → refutation ls ≡ refutation ms → ls ≡ ms
refuted_lines h = cc

module _ (q : Query) (order : List Rule) where
  -- what the ending is by what is seen, and of a row of branches
  Ended : Facts → Ending → Look → Type 0
  Ended s e (clashing l) = e ≡ refutation (l ∷ [])
  Ended s e (applying m) = (d : Ending) × WalksEach q order s (alternatives (term_count q) s.graph m) d × (e ≡ after (move_line m ∷ []) d)
  Ended s e saturated = e ≡ saturation s

  ended : {s : Facts} {e : Ending} → Walks q order s e → Ended s e (look q order s)
  unfolding Ended
  ended (clashes {s = s} l h) = subst (Ended s (refutation (l ∷ []))) (sym h) refl
  ended (saturates {s = s} h) = subst (Ended s (saturation s)) (sym h) refl
  ended (goes_on {s = s} m {e = d} h rs) = subst (Ended s (after (move_line m ∷ []) d)) (sym h) (d, rs, refl)

  -- the lines at the head of a branch
  abbrev head_of : Facts → Fact → List Line
  head_of s c = join_lines (branch (term_count q) s c).pairs

  FirstEnded : Facts → Fact → List Fact → Ending → Type 0
  FirstEnded s c cs e =
      ((ls : List Line) × (d : Ending) × Walks q order (add (term_count q) s c) (refutation ls) × WalksEach q order s cs d × (e ≡ after (head_of s c ++ ls) d))
      ⊎ ((t : Facts) × Walks q order (add (term_count q) s c) (saturation t) × (e ≡ saturation t))

  EachEnded : Facts → List Fact → Ending → Type 0
  EachEnded s [] e = e ≡ refutation []
  EachEnded s (c ∷ cs) e = FirstEnded s c cs e

  each-ended : {s : Facts} {cs : List Fact} {e : Ending} → WalksEach q order s cs e → EachEnded s cs e
  unfolding EachEnded FirstEnded
  each-ended all_tried = refl
  each-ended (refuted_first {ls = ls} {e = d} r rs) = inl (ls, d, r, rs, refl)
  each-ended (saturated_first {t = t} r) = inr (t, r, refl)

  -- a path has one ending
  pub walks_unique : {s : Facts} {e : Ending} → Walks q order s e → (e' : Ending) → Walks q order s e' → e ≡ e'
  unfolding Ended EachEnded FirstEnded
  walks_unique r =
      elim r as (λ s e r. (e' : Ending) → Walks q order s e' → e ≡ e') (λ s cs e r. (e' : Ending) → WalksEach q order s cs e' → e ≡ e') [
        | clashes {s = s} l h ↦ λ e' r'. sym (subst (Ended s e') h (ended r'))
        | saturates {s = s} h ↦ λ e' r'. sym (subst (Ended s e') h (ended r'))
        | goes_on {s = s} m {e = d} h (rs → same) ↦ λ e' r'. let (d', rs', f) = subst (Ended s e') h (ended r') in ap (after (move_line m ∷ [])) (same d' rs') ∙ sym f
        | all_tried ↦ λ e' r'. sym (each-ended r')
        | refuted_first {s = s} {c = c} {cs = cs} {ls = ls} {e = d} (r → same) (rs → same_rest) ↦ λ e' r'.
            ⊎_elim
            (λ o. let (ls', d', p, ps, f) = o in let g : ls ≡ ls' = refuted_lines (same (refutation ls') p) in ap₂ (λ (ms : List Line). after (head_of s c ++ ms)) g (same_rest d' ps) ∙ sym f)
            (λ o. let (t, p, f) = o in absurd (refuted_saturated (same (saturation t) p)))
            (each-ended r')
        | saturated_first {s = s} {c = c} {cs = cs} {t = t} (r → same) ↦ λ e' r'.
            ⊎_elim
            (λ o. let (ls', d', p, ps, f) = o in absurd (refuted_saturated (sym (same (refutation ls') p))))
            (λ o. let (t', p, f) = o in same (saturation t') p ∙ sym f)
            (each-ended r')
      ]

  -- What a look says of the steps left

  -- where a rule is seen, a step is left, and each branch has one fewer
  pub look-some : (k : ℕ) (s : Facts) (m : Move) → AtMost (term_count q) s k → look q order s ≡ applying m → 1 ≤ k
  look-some k s m most h = let (s', step) = applies-step (term_count q) s m (seen-applying q order s h).1 in at_most-some k most step

  pub look_fewer : (k : ℕ) (s : Facts) (m : Move) → AtMost (term_count q) s k → look q order s ≡ applying m → (c : Fact) →
      Memᴰ c (alternatives (term_count q) s.graph m) → AtMost (term_count q) (add (term_count q) s c) (k - 1)
  unfolding branches
  look_fewer k s m most h c mem =
      at_most-step k most (record { rule_move = m; applicable = (seen-applying q order s h).1; branch = map_intro (add (term_count q) s) c mem })

  -- The walk with steps left computes it

  then_walks : (s : Facts) (c : Fact) (cs : List Fact) (e e' : Ending) → Walks q order (add (term_count q) s c) e → WalksEach q order s cs e' →
      WalksEach q order s (c ∷ cs) (then_ending (after (head_of s c) e) e')
  unfolding then_ending after
  then_walks s c cs (refutation ls) e' r rs = refuted_first r rs
  then_walks s c cs (saturation t) e' r rs = saturated_first r

  walk_each_walks : (w : Facts → Ending) (s : Facts) (cs : List Fact) →
      ((c : Fact) → Memᴰ c cs → Walks q order (add (term_count q) s c) (w (add (term_count q) s c))) → WalksEach q order s cs (walk_each (term_count q) w s cs)
  unfolding walk_each walk_branch add
  walk_each_walks w s [] each = all_tried
  walk_each_walks w s (c ∷ cs) each =
      then_walks s c cs (w (add (term_count q) s c)) (walk_each (term_count q) w s cs) (each c (Memᴰ.head refl)) (walk_each_walks w s cs (λ c' m. each c' (Memᴰ.tail m)))

  -- what is seen decides, where it is known how a walk goes on
  end_at_walks : (s : Facts) (go : Move → Ending) → ((m : Move) → look q order s ≡ applying m → Walks q order s (go m)) → (v : Look) → look q order s ≡ v → Walks q order s (end_at s go v)
  unfolding end_at
  end_at_walks s go step (clashing l) h = clashes l h
  end_at_walks s go step (applying m) h = step m h
  end_at_walks s go step saturated h = saturates h

  -- where no step is left, no rule is seen
  last_walks : (s : Facts) → AtMost (term_count q) s 0 → (v : Look) → look q order s ≡ v → Walks q order s (Option-elim (clash q s) (saturation s) (λ l. refutation (l ∷ [])))
  unfolding Option-elim
  last_walks s most (clashing l) h = rw (seen-clashing q order s h) (clashes l h)
  last_walks s most (applying m) h = let l = look-some 0 s m most h in absurd (omega arith)
  last_walks s most saturated h = rw (seen-saturated q order s h).0 (saturates h)

  pub walk_walks : (k : ℕ) (s : Facts) → AtMost (term_count q) s k → Walks q order s (walk q order k s)
  unfolding walk
  walk_walks zero s most = last_walks s most (look q order s) refl
  walk_walks (suc k) s most =
      let e : suc k - 1 ≡ k = omega arith in
      end_at_walks s (λ m. after (move_line m ∷ []) (walk_each (term_count q) (walk q order k) s (alternatives (term_count q) s.graph m)))
      (λ m h. goes_on m h (walk_each_walks (walk q order k) s (alternatives (term_count q) s.graph m)
      (λ c mem. walk_walks k _ (subst (AtMost (term_count q) (add (term_count q) s c)) e (look_fewer (suc k) s m most h c mem)))))
      (look q order s) refl

-- Every rule step gains a fact: a path of so many links can gain n times n for each, and n, and each branch of a rule that applies can gain one fewer.
use Prim.Native.Nat.{ℕ, suc, ◌+◌, ◌*◌, ◌≤◌, ◌<◌, max}
use native.Mathlib.Omega.{arith}
use mathlib.Core.Path.{◌≡◌, refl, sym, ap, ap₂, ◌∙◌, subst}
use mathlib.Core.Bool.{Bool, true, false, not}
use mathlib.Core.List.Memᴰ
use mathlib.Core.List.{List, ◌++◌, map, Memᴰ}
use lib.ListN.{length, length-append, length-map}
use lib.Dec.{eqb, ltb}
use Rattle.logic.specs.Search.{◌and◌, from, select, flat_map}
use Rattle.logic.specs.Facts.{Graph, Facts, link_numbers, terms, live, unjoined, join, add_reach}
use Rattle.logic.specs.Rules.{REFLEX, TRANS1, TRANS2, FUNC, CYCLE, SCC, TOTAL, SHARE, triple, Move, move, Fact, equal, reaches, returns, conditions, alternatives, held, applies, branch, add, branches}
use Rattle.logic.specs.Steps.{Step, Steps, at_first, one_more, AtMost}
use Rattle.theory.proofs.Basics.Search.{true-false, not-true, not_intro, not_of, and_left, any_false, from_intro, flat_map_intro, map-mem, map_intro}
use Rattle.theory.proofs.Basics.Compare.{eqb_intro}
use Rattle.theory.proofs.Basics.Count.{length_from, length-flat_map, select-length, select-lt}
use Rattle.theory.proofs.Paths.Extends.{Extends, reach-rep, extends_add_reach}
use Rattle.theory.proofs.Paths.Ranged.{InRange, live_range, live-rep}
use Rattle.theory.proofs.Paths.Kept.{Sane, LiveFact, add_kept, join_kept, low_high, join-not-live}
use Rattle.theory.proofs.Paths.Round.{round-head}
use Rattle.theory.proofs.Paths.Applies.{applies_linked, applies_met, applies_new}
use Rattle.theory.proofs.Paths.Start.{add_reach-held}
use Rattle.theory.proofs.Paths.Invariant.{alternatives-live}

-- What a path may come to hold: that by some link a term reaches another, each read as what it became; and that a term is replaced.
pub data Gain : Type 0 where
  reached : ℕ → ℕ → ℕ → Gain
  replaced : ℕ → Gain

-- all that so many links and n terms allow: n times n for each link, and n
reached_by : ℕ → ℕ → List Gain
reached_by n i = flat_map (λ a. map (reached i a) (terms n)) (terms n)

gains : ℕ → ℕ → List Gain
gains links n = flat_map (reached_by n) (link_numbers links) ++ map replaced (terms n)

-- the path does not hold it yet
lacks : ℕ → Facts → Gain → Bool
lacks n s (reached i a b) = not ((s.graph i).reach (s.rep a) (s.rep b))
lacks n s (replaced t) = live n s t

-- how many facts a path can still gain
pub gains_left : ℕ → Facts → ℕ
gains_left n s = length (select (lacks n s) (gains s.links n))

add_reach-rep : (i a b : ℕ) (s : Facts) → (add_reach i a b s).rep ≡ s.rep
unfolding add_reach
add_reach-rep i a b s = refl

module _ (n : ℕ) where
  -- What there is to gain

  term_mem : (t : ℕ) → InRange n t → Memᴰ t (terms n)
  unfolding terms
  term_mem t r = from_intro n 1 t r.0 (omega arith)

  reached-mem : (links i a b : ℕ) → InRange links i → InRange n a → InRange n b → Memᴰ (reached i a b) (gains links n)
  unfolding gains reached_by link_numbers
  reached-mem links i a b ri ra rb =
      Memᴰ.append_left _
      (flat_map_intro (reached_by n) i (reached i a b) (from_intro links 1 i ri.0 (omega arith))
      (flat_map_intro (λ x. map (reached i x) (terms n)) a (reached i a b) (term_mem a ra) (map_intro (reached i a) b (term_mem b rb))))

  replaced_mem : (links t : ℕ) → InRange n t → Memᴰ (replaced t) (gains links n)
  unfolding gains
  replaced_mem links t r = Memᴰ.append_right (flat_map (reached_by n) (link_numbers links)) (map_intro replaced t (term_mem t r))

  length_by : (i : ℕ) → length (reached_by n i) ≡ n * n
  unfolding reached_by terms
  length_by i =
      let pairs : ℕ → List Gain = λ a. map (reached i a) (from n 1) in
      length-flat_map pairs n (λ a. length-map (from n 1) (reached i a) ∙ length_from n 1) (from n 1) ∙ ap (λ (k : ℕ). k * n) (length_from n 1)

  length-gains : (links : ℕ) → length (gains links n) ≡ links * (n * n) + n
  unfolding gains link_numbers terms
  length-gains links =
      length-append (flat_map (reached_by n) (from links 1)) (map replaced (from n 1))
      ∙ ap₂ (λ (x y : ℕ). x + y)
      (length-flat_map (reached_by n) (n * n) length_by (from links 1) ∙ ap (λ (k : ℕ). k * (n * n)) (length_from links 1))
      (length-map (from n 1) replaced ∙ length_from n 1)

  pub gains_left_most : (s : Facts) → gains_left n s ≤ s.links * (n * n) + n
  unfolding gains_left
  gains_left_most s = subst (λ (k : ℕ). length (select (lacks n s) (gains s.links n)) ≤ k) (length-gains s.links) (select-length (lacks n s) (gains s.links n))

  -- Nothing that is held is lost, where a path extends another and no term comes back

  lacks_back : (s s' : Facts) → Extends s s' → ((t : ℕ) → live n s' t ≡ true → live n s t ≡ true) → (x : Gain) → lacks n s' x ≡ true → lacks n s x ≡ true
  unfolding lacks
  lacks_back s s' e back (reached i a b) h = not_intro (not_of (λ k. true-false (reach-rep e i a b k) (not-true h)))
  lacks_back s s' e back (replaced t) h = back t h

  -- so there is less to gain where something is held that was not
  gains-less : (s s' : Facts) → Extends s s' → ((t : ℕ) → live n s' t ≡ true → live n s t ≡ true) → (x : Gain) → Memᴰ x (gains s.links n) →
      lacks n s x ≡ true → lacks n s' x ≡ false → gains_left n s' < gains_left n s
  unfolding gains_left
  gains-less s s' e back x m h h' =
      subst (λ (k : ℕ). length (select (lacks n s') (gains k n)) < length (select (lacks n s) (gains s.links n))) (sym e.same_links)
      (select-lt (lacks n s) (lacks n s') (lacks_back s s' e back) x (gains s.links n) m h h')

  -- Each alternative that is not held gains

  join-less : (a b : ℕ) (s : Facts) → live n s a ≡ true → live n s b ≡ true → (a ≡ b → ⊥) → Sane n s → gains_left n (join n a b s).facts < gains_left n s
  unfolding lacks
  join-less a b s la lb d h =
      let gone = join-not-live n a b s la lb h.ranged d in
      let lm : live n s (max a b) ≡ true = low_high (λ lo hi. live n s hi ≡ true) a b lb la in
      gains-less s (join n a b s).facts (join_kept n a b s la lb h).0.extends (λ t l. (gone t l).0) (replaced (max a b))
      (replaced_mem s.links (max a b) (live_range n s (max a b) lm)) lm (not_of (λ l. (gone (max a b) l).1 refl))

  add_reach-less : (i a b : ℕ) (s : Facts) → InRange s.links i → live n s a ≡ true → live n s b ≡ true → (s.graph i).reach a b ≡ false → gains_left n (add_reach i a b s) < gains_left n s
  unfolding lacks live
  add_reach-less i a b s ri la lb e =
      gains-less s (add_reach i a b s) (extends_add_reach i a b s) back (reached i a b)
      (reached-mem s.links i a b ri (live_range n s a la) (live_range n s b lb))
      (rw (live-rep n s a la, live-rep n s b lb, e) refl) gone
    where
      same_rep : (add_reach i a b s).rep ≡ s.rep
      same_rep = add_reach-rep i a b s

      back : (t : ℕ) → live n (add_reach i a b s) t ≡ true → live n s t ≡ true
      back t l = subst (λ (r : ℕ → ℕ). (ltb 0 t and ltb t (suc n) and eqb (r t) t) ≡ true) same_rep l

      gone : not (((add_reach i a b s).graph i).reach ((add_reach i a b s).rep a) ((add_reach i a b s).rep b)) ≡ false
      gone = rw (same_rep, live-rep n s a la, live-rep n s b lb, add_reach-held i a b s) refl

  add-less : (s : Facts) (c : Fact) → LiveFact n s c → held s.graph c ≡ false → Sane n s → gains_left n (add n s c) < gains_left n s
  unfolding LiveFact held add branch unjoined
  add-less s (equal a b) l e h = join-less a b s l.0 l.1 (λ same. true-false (eqb_intro same) e) h
  add-less s (reaches i a b) l e h = add_reach-less i a b s l.2 l.0 l.1 e

  -- so each branch of a rule that applies can gain less
  branch_less : (s : Facts) (m : Move) → Sane n s → applies n s m ≡ true → (s' : Facts) → Memᴰ s' (branches n s m) → Sane n s' × (gains_left n s' < gains_left n s)
  unfolding branches
  branch_less s m h app s' k =
      let alts = alternatives n s.graph m in
      let (c, i, e) = map-mem (add n s) s' alts k in
      let l = alternatives-live n s h.ranged m (applies_linked n s m app) (applies_met n s m app) c i in
      rw e ((add_kept n s c l h).sane, add-less s c l (any_false (held s.graph) c (applies_new n s m app) i) h)

  -- a rule that applies has a branch, so there is a step
  alternatives-some : (alive : ℕ → Bool) (g : ℕ → Graph) (m : Move) → conditions n alive g m ≡ true → (c : Fact) × Memᴰ c (alternatives n g m)
  unfolding conditions alternatives
  alternatives-some alive g (move i REFLEX (triple x y z)) h = (reaches i x x, Memᴰ.head refl)
  alternatives-some alive g (move i TRANS1 (triple x y z)) h = (reaches i x y, Memᴰ.head refl)
  alternatives-some alive g (move i TRANS2 (triple x y z)) h = (reaches i x z, Memᴰ.head refl)
  alternatives-some alive g (move i FUNC (triple x y z)) h = (equal x z, Memᴰ.head refl)
  alternatives-some alive g (move i CYCLE (triple x y k)) h =
      (equal y x, map_intro (equal y) x (round-head n (g i) x k x (and_left (returns n (g i) x k x) ((g i).reach x y) h)))
  alternatives-some alive g (move i SCC (triple x y z)) h = (equal x y, Memᴰ.head refl)
  alternatives-some alive g (move i TOTAL (triple x y z)) h = (reaches i y z, Memᴰ.head refl)
  alternatives-some alive g (move i SHARE (triple x y z)) h = (equal x y, Memᴰ.head refl)

  pub applies-step : (s : Facts) (m : Move) → applies n s m ≡ true → (s' : Facts) × Step n s s'
  unfolding branches
  applies-step s m app =
      let (c, i) = alternatives-some (live n s) s.graph m (applies_met n s m app) in
      (add n s c, record { rule_move = m; applicable = app; branch = map_intro (add n s) c i })

  -- so k steps leave k facts fewer to gain, and there are no more steps than facts to gain
  steps-less : (s : Facts) → Sane n s → {k : ℕ} {s' : Facts} → Steps n s k s' → Sane n s' × (gains_left n s' + k ≤ gains_left n s)
  steps-less s h at_first = (h, omega arith)
  steps-less s h (one_more {k = k} {s' = s'} {s'' = s''} steps step) =
      let (sane, less) = steps-less s h steps in
      let (sane', less') = branch_less s' step.rule_move sane step.applicable s'' step.branch in
      (sane', omega arith)

  pub gains_at_most : (s : Facts) → Sane n s → AtMost n s (gains_left n s)
  gains_at_most s h k s' steps = omega (arith, (steps-less s h steps).1)

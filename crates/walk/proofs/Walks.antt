-- Laws of the branch walk: one look, and then each branch in order.
use Prim.Native.Nat.{ℕ, zero, suc, ◌+◌, ◌-◌, ◌≤◌, ◌<◌}
use native.Mathlib.Omega.{arith}
use native.Mathlib.Numerals.{add-one}
use mathlib.Core.Path.{◌≡◌, refl, sym, ap, ◌∙◌}
use mathlib.Core.List.{List, [], ◌∷◌, ◌++◌, append_assoc}
use mathlib.Core.Option.{Option-elim}
use lib.ListN.{length, get_or, drop, drop_of_length-le}
use lib.Seq.{drop-cons}
use Rattle.logic.specs.Query.{Query, term_count}
use Rattle.logic.specs.Facts.{Facts, Line}
use Rattle.logic.specs.Rules.{Rule, Move, Fact, alternatives, branch, move_line}
use Rattle.theory.proofs.Walks.Derives.{seen-clashing, seen-saturated}
use Rattle.logic.specs.Walk.{clashing, applying, saturated, look, Ending, refutation, saturation, after, then_ending, walk_branch, walk_each, end_at, walk}

module _ (q : Query) (order : List Rule) where
  pub walk-clashing : (k : ℕ) (s : Facts) (l : Line) → look q order s ≡ clashing l → walk q order k s ≡ refutation (l ∷ [])
  unfolding walk end_at Option-elim
  walk-clashing zero s l h = rw (seen-clashing q order s h)
  walk-clashing (suc k) s l h = rw h

  pub walk-saturated : (k : ℕ) (s : Facts) → look q order s ≡ saturated → walk q order k s ≡ saturation s
  unfolding walk end_at Option-elim
  walk-saturated zero s h = rw (seen-saturated q order s h).0
  walk-saturated (suc k) s h = rw h

  pub walk-applying : (k : ℕ) (s : Facts) (m : Move) → 1 ≤ k → look q order s ≡ applying m →
      walk q order k s ≡ after (move_line m ∷ []) (walk_each (term_count q) (walk q order (k - 1)) s (alternatives (term_count q) s.graph m))
  unfolding walk end_at
  walk-applying zero s m l h = absurd (omega arith)
  walk-applying (suc k) s m l h =
      let e : suc k - 1 ≡ k = omega arith in
      rw (h, e)

-- lines in front of lines
pub after-after : (ls ms : List Line) (e : Ending) → after ls (after ms e) ≡ after (ls ++ ms) e
unfolding after
after-after ls ms (refutation ns) = ap refutation (sym (append_assoc ls ms ns))
after-after ls ms (saturation s) = refl

pub after_none : (e : Ending) → after [] e ≡ e
unfolding after
after_none (refutation ls) = refl
after_none (saturation s) = refl

-- Of the branches from i on, the first and then the others
module _ (n : ℕ) (w : Facts → Ending) (s : Facts) (cs : List Fact) where
  pub each_end : (i : ℕ) → length cs ≤ i → walk_each n w s (drop i cs) ≡ refutation []
  unfolding walk_each
  each_end i h = ap (walk_each n w s) (drop_of_length-le cs h)

  each_at : (i : ℕ) (d : Fact) (e : Ending) → i < length cs → walk_branch w (branch n s (get_or cs i d)) ≡ e → walk_each n w s (drop i cs) ≡ then_ending e (walk_each n w s (drop (i + 1) cs))
  unfolding walk_each
  each_at i d e h p =
      ap (walk_each n w s) (drop-cons cs i d h) ∙ ap (λ (x : Ending). then_ending x (walk_each n w s (drop (suc i) cs))) p
      ∙ ap (λ (j : ℕ). then_ending e (walk_each n w s (drop j cs))) (sym (add-one i))

  pub each_refuted : (i : ℕ) (d : Fact) (ls : List Line) → i < length cs → walk_branch w (branch n s (get_or cs i d)) ≡ refutation ls →
      walk_each n w s (drop i cs) ≡ after ls (walk_each n w s (drop (i + 1) cs))
  unfolding then_ending
  each_refuted i d ls h p = each_at i d (refutation ls) h p

  pub each_saturated : (i : ℕ) (d : Fact) (t : Facts) → i < length cs → walk_branch w (branch n s (get_or cs i d)) ≡ saturation t → walk_each n w s (drop i cs) ≡ saturation t
  unfolding then_ending
  each_saturated i d t h p = each_at i d (saturation t) h p

-- What one step of a path keeps: facts stay in range, links stay single, and the old facts are there, read through a renaming.
use Prim.Native.Nat.{ℕ, min, max}
use native.Mathlib.Omega.{arith}
use mathlib.Core.Path.{◌≡◌, refl, sym, ap, ◌∙◌}
use mathlib.Core.Logic.{◌⊎◌, ⊎_elim, inl, inr}
use mathlib.Core.Bool.{true}
use mathlib.Core.Option.{none}
use Rattle.logic.specs.Facts.{Facts, live, replace, doubled, successors, unjoined, settle, join, add_reach}
use Rattle.logic.specs.Rules.{Fact, equal, reaches, branch, add}
use Rattle.theory.proofs.Basics.Compare.{eqb_intro, eqb-false, eq_cases, le_cases}
use Rattle.theory.proofs.Paths.Replace.{sub, sub_hit, sub_miss}
use Rattle.theory.proofs.Paths.Extends.{Extends, extends_refl, extends_trans, extends_replace, extends_add_reach, rep_same}
use Rattle.theory.proofs.Paths.Joined.{join-facts}
use Rattle.theory.proofs.Paths.Ranged.{InRange, Ranged, replace-not-live, ranged_replace, ranged_add_reach}
use Rattle.theory.proofs.Paths.Settle.{live_count-le, ranged_settle, extends_settle, settle-not-live, settle_done}

-- facts in range, with single links
pub record Sane (n : ℕ) (s : Facts) : Type 0 where
  pub ranged : Ranged n s
  pub single : doubled n s ≡ none

pub record Kept (n : ℕ) (s s' : Facts) : Type 0 where
  pub sane : Sane n s'
  pub extends : Extends s s'

pub kept_refl : {n : ℕ} {s : Facts} → Sane n s → Kept n s s
kept_refl {s = s} h = record { sane = h; extends = extends_refl s }

pub kept_trans : {n : ℕ} {s s' s'' : Facts} → Kept n s s' → Kept n s' s'' → Kept n s s''
kept_trans k k' = record { sane = k'.sane; extends = extends_trans k.extends k'.extends }

pub kept_settle : (n : ℕ) (s : Facts) → Ranged n s → Kept n s (settle n n s).facts
kept_settle n s r =
    record {
      sane = record { ranged = ranged_settle n n s r; single = settle_done n n s r (live_count-le n s) };
      extends = extends_settle n n s r;
    }

-- the lower and the higher of two different numbers, in either order
pub low_high : (P : ℕ → ℕ → Type 0) (a b : ℕ) → P a b → P b a → P (min a b) (max a b)
low_high P a b p p' =
    ⊎_elim
    (λ l. let e : min a b ≡ a = omega arith in let f : max a b ≡ b = omega arith in rw (e, f) p)
    (λ l. let e : min a b ≡ b = omega arith in let f : max a b ≡ a = omega arith in rw (e, f) p')
    (le_cases a b)

module _ (n a b : ℕ) (s : Facts) (la : live n s a ≡ true) (lb : live n s b ≡ true) where
  -- a join of two different live terms: a replacement, and then settling
  abbrev Replaced : ℕ → ℕ → Type 0
  Replaced lo hi = Ranged n s → Kept n s (settle n n (replace lo hi s)).facts
      × ((t u : ℕ) → s.rep t ≡ a → s.rep u ≡ b → (settle n n (replace lo hi s)).facts.rep t ≡ (settle n n (replace lo hi s)).facts.rep u)

  -- a and b become one term where one replaces the other
  sub_both : (lo hi : ℕ) → (lo ≡ hi → ⊥) → ((a ≡ lo) × (b ≡ hi)) ⊎ ((a ≡ hi) × (b ≡ lo)) → sub lo hi a ≡ sub lo hi b
  sub_both lo hi d o =
      ⊎_elim
      (λ p. ap (sub lo hi) p.0 ∙ sub_miss lo hi lo d ∙ sym (sub_hit lo hi) ∙ ap (sub lo hi) (sym p.1))
      (λ p. ap (sub lo hi) p.0 ∙ sub_hit lo hi ∙ sym (sub_miss lo hi lo d) ∙ ap (sub lo hi) (sym p.1))
      o

  replaced : (lo hi : ℕ) → live n s lo ≡ true → live n s hi ≡ true → (lo ≡ hi → ⊥) → ((a ≡ lo) × (b ≡ hi)) ⊎ ((a ≡ hi) × (b ≡ lo)) → Replaced lo hi
  unfolding replace sub
  replaced lo hi ll lh d o r =
      let r' = ranged_replace n lo hi s ll lh d r in
      let k = kept_settle n (replace lo hi s) r' in (
        record { sane = k.sane; extends = extends_trans (extends_replace lo hi s d) k.extends },
        λ t u et eu. rep_same k.extends t u (ap (sub lo hi) et ∙ sub_both lo hi d o ∙ ap (sub lo hi) (sym eu)),
      )

  -- joining two live terms keeps, and makes them one
  pub join_kept : Sane n s → Kept n s (join n a b s).facts × ((t u : ℕ) → s.rep t ≡ a → s.rep u ≡ b → (join n a b s).facts.rep t ≡ (join n a b s).facts.rep u)
  join_kept h =
      ⊎_elim
      (λ e. rw (join-facts n a b s, eqb_intro {m = a} {n = b} e) (kept_refl h, λ t u et eu. et ∙ e ∙ sym eu))
      (λ d. rw (join-facts n a b s, d.1) (low_high Replaced a b (replaced a b la lb d.0 (inl (refl, refl))) (replaced b a lb la (λ e. d.0 (sym e)) (inr (refl, refl))) h.ranged))
      (eq_cases a b)

  -- a join of two different live terms replaces the higher, and no term that is replaced comes back
  pub join-not-live : Ranged n s → (a ≡ b → ⊥) → (t : ℕ) → live n (join n a b s).facts t ≡ true → (live n s t ≡ true) × (t ≡ max a b → ⊥)
  join-not-live r d = rw (join-facts n a b s, eqb-false a b d) (low_high Gone a b (gone a b la lb d) (gone b a lb la (λ e. d (sym e))))
    where
      Gone : ℕ → ℕ → Type 0
      Gone lo hi = (t : ℕ) → live n (settle n n (replace lo hi s)).facts t ≡ true → (live n s t ≡ true) × (t ≡ hi → ⊥)

      gone : (lo hi : ℕ) → live n s lo ≡ true → live n s hi ≡ true → (lo ≡ hi → ⊥) → Gone lo hi
      gone lo hi llo lhi d t h = replace-not-live n lo hi s llo lhi d t (settle-not-live n n (replace lo hi s) (ranged_replace n lo hi s llo lhi d r) t h)

  -- adding a reachability fact between live terms keeps
  pub add_reach_kept : (i : ℕ) → InRange s.links i → Sane n s → Kept n s (add_reach i a b s)
  unfolding add_reach doubled successors
  add_reach_kept i ri h =
      record {
        sane = record { ranged = ranged_add_reach n i a b s ri la lb h.ranged; single = h.single };
        extends = extends_add_reach i a b s;
      }

-- both terms of a fact are live, and there is the link that it is about
unfoldable pub LiveFact : ℕ → Facts → Fact → Type 0
LiveFact n s (equal a b) = (live n s a ≡ true) × (live n s b ≡ true)
LiveFact n s (reaches i a b) = (live n s a ≡ true) × (live n s b ≡ true) × InRange s.links i

pub add_kept : (n : ℕ) (s : Facts) (c : Fact) → LiveFact n s c → Sane n s → Kept n s (add n s c)
unfolding LiveFact add branch unjoined
add_kept n s (equal a b) l h = (join_kept n a b s l.0 l.1 h).0
add_kept n s (reaches i a b) l h = add_reach_kept n a b s l.0 l.1 i l.2 h

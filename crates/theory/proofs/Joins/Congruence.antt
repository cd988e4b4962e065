-- What a row of joins puts together: the least congruence that holds its pairs. So the order of the row does not matter.
use Prim.Native.Nat.{ℕ, ◌<◌}
use native.Mathlib.Omega.{arith}
use mathlib.Core.Path.{◌≡◌, refl, sym, ap, ◌∙◌, subst}
use mathlib.Core.Logic.{⊎_elim}
use mathlib.Core.Bool.{true}
use Rattle.logic.specs.Facts.{Facts, live, replace, settle, join}
use Rattle.theory.proofs.Basics.Compare.{eqb_intro, eq_cases}
use Rattle.theory.proofs.Paths.Joined.{join-facts}
use Rattle.theory.proofs.Paths.Replace.{sub, sub_hit, sub_miss}
use Rattle.theory.proofs.Paths.Doubled.{doubled-some, doubled-none}
use Rattle.theory.proofs.Paths.Ranged.{InRange, Ranged, live_range, ranged_replace}
use Rattle.theory.proofs.Paths.Settle.{settle_keeps, doubled-live}
use Rattle.theory.proofs.Paths.Kept.{Sane, low_high}
use Rattle.theory.proofs.Joins.Quotient.{Quotient, quotient_refl, quotient_trans, quotient_replace}

-- terms that are put together have their successors put together
pub record Congruence (s : Facts) (E : ℕ → ℕ → Type 0) : Type 0 where
  pub same : (x : ℕ) → E x x
  pub turned : (x y : ℕ) → E x y → E y x
  pub joined : (x y z : ℕ) → E x y → E y z → E x z
  pub successors_too : (i x y u v : ℕ) → E x y → (s.graph i).link x u ≡ true → (s.graph i).link y v ≡ true → E u v

module _ (n : ℕ) where
  -- a quotient that puts nothing together beyond E
  pub record Within (E : ℕ → ℕ → Type 0) (s s' : Facts) : Type 0 where
    pub quotient : Quotient n s s'
    pub within : (x : ℕ) → E x (quotient.class x)

  module _ {E : ℕ → ℕ → Type 0} {s : Facts} (c : Congruence s E) where
    pub within-refl : Within E s s
    unfolding quotient_refl
    within-refl = record { quotient = quotient_refl n s; within = c.same }

    pub within_trans : {s' s'' : Facts} → Within E s s' → Within E s' s'' → Within E s s''
    unfolding quotient_trans
    within_trans w w' =
        record {
          quotient = quotient_trans n w.quotient w'.quotient;
          within = λ x. c.joined x _ _ (w.within x) (w'.within (w.quotient.class x));
        }

    pub within-replace : (lo hi : ℕ) (s' : Facts) → live n s' lo ≡ true → live n s' hi ≡ true → lo < hi → E lo hi → Within E s' (replace lo hi s')
    unfolding quotient_replace
    within-replace lo hi s' ll lh lt e =
        record {
          quotient = quotient_replace n lo hi s' ll lh lt;
          within = λ x.
              ⊎_elim
              (λ p. subst (λ (u : ℕ). E x u) (sym (ap (sub lo hi) p ∙ sub_hit lo hi)) (subst (λ (u : ℕ). E u lo) (sym p) (c.turned lo hi e)))
              (λ p. subst (λ (u : ℕ). E x u) (sym (sub_miss lo hi x p.0)) (c.same x))
              (eq_cases x hi);
        }

    -- what is within E has E for a congruence too
    pub within_congruence : {s' : Facts} → Within E s s' → Congruence s' E
    within_congruence w =
        record {
          same = c.same;
          turned = c.turned;
          joined = c.joined;
          successors_too = λ i x y u v e l l'.
              let p = w.quotient.link_from i x u l in
              let p' = w.quotient.link_from i y v l' in
              let at : (t t' : ℕ) → w.quotient.class t ≡ t' → E t t' = λ t t' q. subst (λ (z : ℕ). E t z) q (w.within t) in
              let tails = c.successors_too i p.0 p'.0 p.1 p'.1 (c.joined _ _ _ (at _ _ p.3) (c.joined _ _ _ e (c.turned _ _ (at _ _ p'.3)))) p.2 p'.2 in
              c.joined _ _ _ (c.turned _ _ (at _ _ p.4)) (c.joined _ _ _ tails (at _ _ p'.4));
        }

    -- Settling and joining stay within E, where E holds the pair that is joined.
    settle-within : (k : ℕ) (s' : Facts) → Ranged n s' → Within E s s' → Within E s (settle n k s').facts
    settle-within k s' r w =
        (settle_keeps n (λ u. Ranged n u × Within E s u)
        (λ u ab h e. let l = doubled-live n u ab h.0 e in
        let d = doubled-some n u ab e in
        let held = (within_congruence h.1).successors_too d.link d.term d.term ab.0 ab.1 (c.same d.term) d.low d.high in
        (ranged_replace n ab.0 ab.1 u l.0 l.1 l.2 h.0, within_trans h.1 (within-replace ab.0 ab.1 u l.0 l.1 d.lower held)))
        k s' (r, w)).1

    pub join-within : (a b : ℕ) (s' : Facts) → live n s' a ≡ true → live n s' b ≡ true → E a b → Ranged n s' → Within E s s' → Within E s (join n a b s').facts
    join-within a b s' la lb e r w =
        ⊎_elim
        (λ q. rw (join-facts n a b s', eqb_intro {m = a} {n = b} q) w)
        (λ d. rw (join-facts n a b s', d.1)
        (low_high (λ lo hi. lo < hi → Within E s (settle n n (replace lo hi s')).facts) a b (λ lt. step a b la lb lt e)
        (λ lt. step b a lb la lt (c.turned a b e)) (omega (arith, d.0))))
        (eq_cases a b)
      where
        step : (lo hi : ℕ) → live n s' lo ≡ true → live n s' hi ≡ true → lo < hi → E lo hi → Within E s (settle n n (replace lo hi s')).facts
        step lo hi ll lh lt e =
            settle-within n (replace lo hi s') (ranged_replace n lo hi s' ll lh (λ q. omega arith) r) (within_trans w (within-replace lo hi s' ll lh lt e))

  -- what a quotient with single links puts together is a congruence
  pub kernel : {s s' : Facts} → Sane n s → Sane n s' → (p : Quotient n s s') → Congruence s (λ x y. p.class x ≡ p.class y)
  kernel {s} {s'} h h' p =
      record {
        same = λ x. refl;
        turned = λ x y e. sym e;
        joined = λ x y z e f. e ∙ f;
        successors_too = λ i x y u v e l l'.
            let k = p.link_held i x u l in
            let k' = subst (λ (t : ℕ). (s'.graph i).link t (p.class v) ≡ true) (sym e) (p.link_held i y v l') in
            let r : (a b : ℕ) → (s'.graph i).link a b ≡ true → InRange n a
            × InRange n b = λ a b m. (live_range n s' a (h'.ranged.link_live i a b m).0, live_range n s' b (h'.ranged.link_live i a b m).1) in
            doubled-none n s' h'.single i (p.class x) (p.class u) (p.class v) (h'.ranged.link_linked i _ _ k) (r _ _ k).0 (r _ _ k).1 (r _ _ k').1 k k';
      }

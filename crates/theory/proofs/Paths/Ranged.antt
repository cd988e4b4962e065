-- Facts speak of terms that are not replaced, and every term stands for such a one. This is kept by every step of a path.
use Prim.Native.Nat.{ℕ, suc, ◌≤◌, ◌<◌}
use native.Mathlib.Omega.{arith}
use mathlib.Core.Path.{◌≡◌, sym, ap, ◌∙◌, subst}
use mathlib.Core.Logic.{⊎_elim}
use mathlib.Core.Bool.{Bool, true}
use mathlib.Core.List.{Memᴰ}
use lib.Dec.{eqb, ltb, leb}
use Rattle.logic.specs.Search.{◌and◌, ◌or◌}
use Rattle.logic.specs.Facts.{Facts, terms, live, live_terms, replace_in, replace, add_reach, add_links}
use Rattle.theory.proofs.Basics.Search.{and_left, and_right, and_intro, or_cases, select-mem, select_intro, from_intro}
use Rattle.theory.proofs.Basics.Compare.{eqb-true, eqb_intro, eq_cases, ltb-true, ltb_intro, leb-true}
use Rattle.theory.proofs.Paths.Replace.{sub, sub_hit, sub_miss, replace_in-true}

abbrev pub InRange : ℕ → ℕ → Type 0
InRange n t = (1 ≤ t) × (t ≤ n)

module _ (n : ℕ) (s : Facts) where
  pub live_range : (t : ℕ) → live n s t ≡ true → InRange n t
  unfolding live
  live_range t h =
      let p = and_left (ltb 0 t and ltb t (suc n)) (eqb (s.rep t) t) h in
      let a = ltb-true 0 t (and_left (ltb 0 t) (ltb t (suc n)) p) in
      let b = ltb-true t (suc n) (and_right (ltb 0 t) (ltb t (suc n)) p) in
      (omega arith, omega arith)

  pub live-rep : (t : ℕ) → live n s t ≡ true → s.rep t ≡ t
  unfolding live
  live-rep t h = eqb-true (s.rep t) t (and_right (ltb 0 t and ltb t (suc n)) (eqb (s.rep t) t) h)

  pub live_intro : (t : ℕ) → InRange n t → s.rep t ≡ t → live n s t ≡ true
  unfolding live
  live_intro t r e =
      let l : t < suc n = omega arith in
      and_intro (and_intro (ltb_intro r.0) (ltb_intro l)) (eqb_intro e)

  pub live-mem : (t : ℕ) → live n s t ≡ true → Memᴰ t (live_terms n s)
  unfolding live_terms terms
  live-mem t h = let r = live_range t h in select_intro (live n s) t (from_intro n 1 t r.0 (omega arith)) h

  pub mem-live : (t : ℕ) → Memᴰ t (live_terms n s) → live n s t ≡ true
  unfolding live_terms
  mem-live t m = (select-mem (live n s) t (terms n) m).1

pub record Ranged (n : ℕ) (s : Facts) : Type 0 where
  pub rep_live : (t : ℕ) → InRange n t → live n s (s.rep t) ≡ true
  pub link_live : (i a b : ℕ) → (s.graph i).link a b ≡ true → (live n s a ≡ true) × (live n s b ≡ true)
  pub reach_live : (i a b : ℕ) → (s.graph i).reach a b ≡ true → (live n s a ≡ true) × (live n s b ≡ true)
  -- facts are about links that there are
  pub link_linked : (i a b : ℕ) → (s.graph i).link a b ≡ true → InRange s.links i
  pub reach_linked : (i a b : ℕ) → (s.graph i).reach a b ≡ true → InRange s.links i

-- replacing a live term by another leaves all others live
module _ (n lo hi : ℕ) (s : Facts) (llo : live n s lo ≡ true) (lhi : live n s hi ≡ true) (d : lo ≡ hi → ⊥) where
  pub replace-live : (t : ℕ) → live n s t ≡ true → (t ≡ hi → ⊥) → live n (replace lo hi s) t ≡ true
  unfolding replace sub
  replace-live t h ne =
      live_intro n (replace lo hi s) t (live_range n s t h) (ap (sub lo hi) (live-rep n s t h) ∙ sub_miss lo hi t ne)

  pub replace-live-sub : (t : ℕ) → live n s t ≡ true → live n (replace lo hi s) (sub lo hi t) ≡ true
  replace-live-sub t h =
      ⊎_elim
      (λ e. subst (λ (u : ℕ). live n (replace lo hi s) u ≡ true) (sym (ap (sub lo hi) e ∙ sub_hit lo hi)) (replace-live lo llo d))
      (λ p. subst (λ (u : ℕ). live n (replace lo hi s) u ≡ true) (sym (sub_miss lo hi t p.0)) (replace-live t h p.0))
      (eq_cases t hi)

  pub replace-not-live : (t : ℕ) → live n (replace lo hi s) t ≡ true → (live n s t ≡ true) × (t ≡ hi → ⊥)
  unfolding replace sub
  replace-not-live t h = ⊎_elim (λ e. absurd (gone e)) (λ p. (kept p.0, p.0)) (eq_cases t hi)
    where
      gone : t ≡ hi → ⊥
      gone e = d (sym (ap (sub lo hi) (ap s.rep e ∙ live-rep n s hi lhi) ∙ sub_hit lo hi) ∙ live-rep n (replace lo hi s) t h ∙ e)

      kept : (t ≡ hi → ⊥) → live n s t ≡ true
      kept ne =
          let e = live-rep n (replace lo hi s) t h in
          let r = live_range n (replace lo hi s) t h in
          ⊎_elim
          (λ p. subst (λ (u : ℕ). live n s u ≡ true) (sym (ap (sub lo hi) p ∙ sub_hit lo hi) ∙ e) llo)
          (λ p. live_intro n s t r (sym (sub_miss lo hi (s.rep t) p.0) ∙ e))
          (eq_cases (s.rep t) hi)

  -- the two terms of a replaced fact are live
  replaced_live : (R : ℕ → ℕ → Bool) → ((a b : ℕ) → R a b ≡ true → (live n s a ≡ true) × (live n s b ≡ true)) → (a b : ℕ) →
      replace_in lo hi R a b ≡ true → (live n (replace lo hi s) a ≡ true) × (live n (replace lo hi s) b ≡ true)
  replaced_live R r a b h =
      let p = replace_in-true lo hi R a b h in
      let l = r p.0 p.1 p.2 in (
        subst (λ (u : ℕ). live n (replace lo hi s) u ≡ true) p.3 (replace-live-sub p.0 l.0),
        subst (λ (u : ℕ). live n (replace lo hi s) u ≡ true) p.4 (replace-live-sub p.1 l.1),
      )

  pub ranged_replace : Ranged n s → Ranged n (replace lo hi s)
  unfolding replace sub
  ranged_replace r =
      record {
        rep_live = λ t i. replace-live-sub (s.rep t) (r.rep_live t i);
        link_live = λ i. replaced_live (s.graph i).link (r.link_live i);
        reach_live = λ i. replaced_live (s.graph i).reach (r.reach_live i);
        link_linked = λ i a b h. let p = replace_in-true lo hi (s.graph i).link a b h in r.link_linked i p.0 p.1 p.2;
        reach_linked = λ i a b h. let p = replace_in-true lo hi (s.graph i).reach a b h in r.reach_linked i p.0 p.1 p.2;
      }

-- a relation with one more pair of live terms, where a test passes
plus_live : (n a b : ℕ) (s : Facts) (R : ℕ → ℕ → Bool) (test : Bool) → live n s a ≡ true → live n s b ≡ true →
    ((x y : ℕ) → R x y ≡ true → (live n s x ≡ true) × (live n s y ≡ true)) → (x y : ℕ) → R x y or (test and eqb x a and eqb y b) ≡ true →
    (live n s x ≡ true) × (live n s y ≡ true)
plus_live n a b s R test la lb r x y h =
    ⊎_elim (r x y)
    (λ e. (
      subst (λ (u : ℕ). live n s u ≡ true) (sym (eqb-true x a (and_right test (eqb x a) (and_left (test and eqb x a) (eqb y b) e)))) la,
      subst (λ (u : ℕ). live n s u ≡ true) (sym (eqb-true y b (and_right (test and eqb x a) (eqb y b) e))) lb,
    ))
    (or_cases (R x y) (test and eqb x a and eqb y b) h)

pub ranged_add_reach : (n i a b : ℕ) (s : Facts) → InRange s.links i → live n s a ≡ true → live n s b ≡ true → Ranged n s → Ranged n (add_reach i a b s)
unfolding add_reach live
ranged_add_reach n i a b s ri la lb r =
    record {
      rep_live = r.rep_live;
      link_live = r.link_live;
      reach_live = λ j. plus_live n a b s (s.graph j).reach (eqb j i) la lb (r.reach_live j);
      link_linked = r.link_linked;
      reach_linked = λ j x y h.
          ⊎_elim (r.reach_linked j x y)
          (λ e. subst (InRange s.links) (sym (eqb-true j i (and_left (eqb j i) (eqb x a) (and_left (eqb j i and eqb x a) (eqb y b) e)))) ri)
          (or_cases ((s.graph j).reach x y) (eqb j i and eqb x a and eqb y b) h);
    }

-- a link that there is
pub link_range : (links i : ℕ) → (ltb 0 i and leb i links) ≡ true → InRange links i
link_range links i h = (ltb-true 0 i (and_left (ltb 0 i) (leb i links) h), leb-true i links (and_right (ltb 0 i) (leb i links) h))

pub ranged_add_links : (n a b : ℕ) (s : Facts) → live n s a ≡ true → live n s b ≡ true → Ranged n s → Ranged n (add_links a b s)
unfolding add_links live
ranged_add_links n a b s la lb r =
    record {
      rep_live = r.rep_live;
      link_live = λ j. plus_live n a b s (s.graph j).link (ltb 0 j and leb j s.links) la lb (r.link_live j);
      reach_live = r.reach_live;
      link_linked = λ j x y h.
          let test : Bool = ltb 0 j and leb j s.links in
          ⊎_elim (r.link_linked j x y)
          (λ e. link_range s.links j (and_left test (eqb x a) (and_left (test and eqb x a) (eqb y b) e)))
          (or_cases ((s.graph j).link x y) (test and eqb x a and eqb y b) h);
      reach_linked = r.reach_linked;
    }

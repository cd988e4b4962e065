-- Joining doubled successors: it comes to an end within as many replacements as there are live terms, and keeps what each one keeps.
use Prim.Native.Nat.{ℕ, zero, suc, ◌≤◌, ◌<◌}
use native.Mathlib.Omega.{arith}
use mathlib.Core.Path.{◌≡◌, refl}
use mathlib.Core.Bool.{true}
use mathlib.Core.Option.{Option, none, some, Option-elim}
use lib.ListN.{length}
use Rattle.logic.specs.Search.{from}
use Rattle.logic.specs.Facts.{Facts, terms, live, live_terms, replace, doubled, unjoined, settle}
use Rattle.theory.proofs.Basics.Search.{not_of, from_intro}
use Rattle.theory.proofs.Basics.Count.{length_from, select-length, select-lt}
use Rattle.theory.proofs.Paths.Extends.{Extends, extends_refl, extends_trans, extends_replace}
use Rattle.theory.proofs.Paths.Joined.{settle_step}
use Rattle.theory.proofs.Paths.Doubled.{doubled-some}
use Rattle.theory.proofs.Paths.Ranged.{Ranged, live_range, replace-not-live, ranged_replace}

module _ (n : ℕ) where
  pub live_count : Facts → ℕ
  live_count s = length (live_terms n s)

  pub live_count-le : (s : Facts) → live_count s ≤ n
  unfolding live_count live_terms terms
  live_count-le s = omega (arith, select-length (live n s) (from n 1), length_from n 1)

  -- each replacement leaves one live term fewer
  pub live_count-replace : (lo hi : ℕ) (s : Facts) → live n s lo ≡ true → live n s hi ≡ true → (lo ≡ hi → ⊥) → live_count (replace lo hi s) < live_count s
  unfolding live_count live_terms terms
  live_count-replace lo hi s llo lhi d =
      let r = live_range n s hi lhi in
      select-lt (live n s) (live n (replace lo hi s)) (λ x h. (replace-not-live n lo hi s llo lhi d x h).0) hi (from n 1)
      (from_intro n 1 hi r.0 (omega arith)) lhi
      (not_of (λ h. (replace-not-live n lo hi s llo lhi d hi h).1 refl))

  -- a term that is found doubled gives two different live terms
  pub doubled-live : (s : Facts) (ab : ℕ × ℕ) → Ranged n s → doubled n s ≡ some ab → (live n s ab.0 ≡ true) × (live n s ab.1 ≡ true) × (ab.0 ≡ ab.1 → ⊥)
  doubled-live s ab r h =
      let f = doubled-some n s ab h in
      ((r.link_live f.link f.term ab.0 f.low).1, (r.link_live f.link f.term ab.1 f.high).1, λ e. omega (arith, f.lower, e))

  -- what each such replacement keeps, settling keeps
  pub settle_keeps : (P : Facts → Type 0) → ((s : Facts) (ab : ℕ × ℕ) → P s → doubled n s ≡ some ab → P (replace ab.0 ab.1 s)) → (k : ℕ) (s : Facts) → P s → P (settle n k s).facts
  unfolding settle unjoined Option-elim
  settle_keeps P keep zero s h = h
  settle_keeps P keep (suc k) s h = rw (settle_step n k s) (go (doubled n s) refl (λ ab e. settle_keeps P keep k (replace ab.0 ab.1 s) (keep s ab h e)))
    where
      go : (o : Option (ℕ × ℕ)) → doubled n s ≡ o → ((ab : ℕ × ℕ) → doubled n s ≡ some ab → P (settle n k (replace ab.0 ab.1 s)).facts) →
          P (Option-elim o s (λ ab. (settle n k (replace ab.0 ab.1 s)).facts))
      go none e ih = h
      go (some ab) e ih = ih ab e

  pub ranged_settle : (k : ℕ) (s : Facts) → Ranged n s → Ranged n (settle n k s).facts
  ranged_settle = settle_keeps (Ranged n) (λ s ab r h. let l = doubled-live s ab r h in ranged_replace n ab.0 ab.1 s l.0 l.1 l.2 r)

  pub extends_settle : (k : ℕ) (s : Facts) → Ranged n s → Extends s (settle n k s).facts
  extends_settle k s r =
      (settle_keeps (λ u. Ranged n u × Extends s u)
      (λ u ab p h. let l = doubled-live u ab p.0 h in
      (ranged_replace n ab.0 ab.1 u l.0 l.1 l.2 p.0, extends_trans p.1 (extends_replace ab.0 ab.1 u l.2)))
      k s (r, extends_refl s)).1

  -- a term that is replaced stays replaced
  pub settle-not-live : (k : ℕ) (s : Facts) → Ranged n s → (t : ℕ) → live n (settle n k s).facts t ≡ true → live n s t ≡ true
  settle-not-live k s r =
      (settle_keeps (λ u. Ranged n u × ((t : ℕ) → live n u t ≡ true → live n s t ≡ true))
      (λ u ab p h. let l = doubled-live u ab p.0 h in
      (ranged_replace n ab.0 ab.1 u l.0 l.1 l.2 p.0, λ t h'. p.1 t (replace-not-live n ab.0 ab.1 u l.0 l.1 l.2 t h').0))
      k s (r, λ t h. h)).1

  -- as many times as there are live terms are enough: then no term has two successors
  pub settle_done : (k : ℕ) (s : Facts) → Ranged n s → live_count s ≤ k → doubled n (settle n k s).facts ≡ none
  unfolding settle unjoined Option-elim
  settle_done zero s r l = go (doubled n s) refl
    where
      go : (o : Option (ℕ × ℕ)) → doubled n s ≡ o → doubled n s ≡ none
      go none e = e
      go (some ab) e =
          let d = doubled-live s ab r e in
          let lt = live_count-replace ab.0 ab.1 s d.0 d.1 d.2 in
          absurd (omega arith)
  settle_done (suc k) s r l = rw (settle_step n k s) (go (doubled n s) refl (λ ab e. step ab (doubled-live s ab r e) (λ r' l'. settle_done k (replace ab.0 ab.1 s) r' l')))
    where
      step : (ab : ℕ × ℕ) → (live n s ab.0 ≡ true) × (live n s ab.1 ≡ true) × (ab.0 ≡ ab.1 → ⊥) →
          (Ranged n (replace ab.0 ab.1 s) → live_count (replace ab.0 ab.1 s) ≤ k →
          doubled n (settle n k (replace ab.0 ab.1 s)).facts ≡ none) → doubled n (settle n k (replace ab.0 ab.1 s)).facts ≡ none
      step ab d ih =
          let lt = live_count-replace ab.0 ab.1 s d.0 d.1 d.2 in
          ih (ranged_replace n ab.0 ab.1 s d.0 d.1 d.2 r) (omega arith)

      go : (o : Option (ℕ × ℕ)) → doubled n s ≡ o →
          ((ab : ℕ × ℕ) → doubled n s ≡ some ab → doubled n (settle n k (replace ab.0 ab.1 s)).facts ≡ none) →
          doubled n (Option-elim o s (λ ab. (settle n k (replace ab.0 ab.1 s)).facts)) ≡ none
      go none e ih = e
      go (some ab) e ih = ih ab e

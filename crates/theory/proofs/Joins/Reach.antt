-- A reachability fact may be added before or after joins alike (02, R-9).
use Prim.Native.Nat.{ℕ, zero, suc}
use native.Mathlib.Omega.{arith}
use mathlib.Core.Path.{◌≡◌, refl, sym, ap, ◌∙◌, subst}
use mathlib.Core.Logic.{◌⊎◌, ⊎_elim, inl, inr}
use mathlib.Core.Bool.{Bool, true}
use mathlib.Core.List.{List, [], ◌∷◌}
use mathlib.Core.Option.{Option, none, some, Option-elim}
use lib.Dec.{eqb}
use Rattle.logic.specs.Search.{◌and◌, ◌or◌}
use Rattle.logic.specs.Facts.{Facts, replace_in, replace, doubled, successors, unjoined, settle, join, add_reach}
use Rattle.logic.specs.Reordering.{join_terms, reach_terms, join_all}
use Rattle.theory.proofs.Basics.Search.{and_left, and_right, and_intro, or_cases, or_left, or_right}
use Rattle.theory.proofs.Basics.Compare.{eqb-true, eqb_intro, eq_cases}
use Rattle.theory.proofs.Paths.Joined.{settle_step, join-facts}
use Rattle.theory.proofs.Paths.Replace.{sub, replace_in-true, replace_in_intro}
use Rattle.theory.proofs.Paths.Doubled.{doubled-some}
use Rattle.theory.proofs.Paths.Kept.{low_high}
use Rattle.theory.proofs.Joins.Quotient.{alike, test_same}

-- a relation with one pair more, where a test passes
abbrev plus : Bool → ℕ → ℕ → (ℕ → ℕ → Bool) → ℕ → ℕ → Bool
plus test x y R a b = R a b or (test and eqb a x and eqb b y)

plus_cases : (test : Bool) (x y : ℕ) (R : ℕ → ℕ → Bool) (a b : ℕ) → plus test x y R a b ≡ true → (R a b ≡ true) ⊎ ((test ≡ true) × (a ≡ x) × (b ≡ y))
plus_cases test x y R a b h =
    ⊎_elim inl
    (λ e. inr (and_left _ _ (and_left _ _ e), eqb-true a x (and_right _ _ (and_left _ _ e)), eqb-true b y (and_right _ _ e)))
    (or_cases (R a b) (test and eqb a x and eqb b y) h)

plus_one : (test : Bool) (x y : ℕ) (R : ℕ → ℕ → Bool) (a b : ℕ) → test ≡ true → a ≡ x → b ≡ y → plus test x y R a b ≡ true
plus_one test x y R a b p e f = or_right (R a b) (and_intro (and_intro p (eqb_intro e)) (eqb_intro f))

-- a pair is added before or after a replacement
module _ (lo hi : ℕ) (apart : lo ≡ hi → ⊥) (test : Bool) (x y : ℕ) (R : ℕ → ℕ → Bool) where
  replace_in-plus : (a b : ℕ) → replace_in lo hi (plus test x y R) a b ≡ plus test (sub lo hi x) (sub lo hi y) (replace_in lo hi R) a b
  replace_in-plus a b = test_same _ _ forth back
    where
      forth : replace_in lo hi (plus test x y R) a b ≡ true → plus test (sub lo hi x) (sub lo hi y) (replace_in lo hi R) a b ≡ true
      forth h =
          let m = replace_in-true lo hi (plus test x y R) a b h in
          ⊎_elim
          (λ e. or_left _ (subst (λ (u : ℕ). replace_in lo hi R u b ≡ true) m.3
          (subst (λ (v : ℕ). replace_in lo hi R (sub lo hi m.0) v ≡ true) m.4 (replace_in_intro lo hi R apart m.0 m.1 e))))
          (λ e. plus_one test (sub lo hi x) (sub lo hi y) (replace_in lo hi R) a b e.0 (sym m.3 ∙ ap (sub lo hi) e.1) (sym m.4 ∙ ap (sub lo hi) e.2))
          (plus_cases test x y R m.0 m.1 m.2)

      held : (u v : ℕ) → plus test x y R u v ≡ true → sub lo hi u ≡ a → sub lo hi v ≡ b → replace_in lo hi (plus test x y R) a b ≡ true
      held u v e p q =
          subst (λ (c : ℕ). replace_in lo hi (plus test x y R) c b ≡ true) p
          (subst (λ (d : ℕ). replace_in lo hi (plus test x y R) (sub lo hi u) d ≡ true) q (replace_in_intro lo hi (plus test x y R) apart u v e))

      back : plus test (sub lo hi x) (sub lo hi y) (replace_in lo hi R) a b ≡ true → replace_in lo hi (plus test x y R) a b ≡ true
      back h =
          ⊎_elim
          (λ e. let m = replace_in-true lo hi R a b e in held m.0 m.1 (or_left _ m.2) m.3 m.4)
          (λ e. held x y (plus_one test x y R x y e.0 refl refl) (sym e.1) (sym e.2))
          (plus_cases test (sub lo hi x) (sub lo hi y) (replace_in lo hi R) a b h)

replace-reach : (lo hi : ℕ) → (lo ≡ hi → ⊥) → (i : ℕ) (ab : ℕ × ℕ) (s : Facts) → replace lo hi (reach_terms i ab s) ≡ reach_terms i ab (replace lo hi s)
unfolding replace reach_terms add_reach sub
replace-reach lo hi apart i ab s =
    alike (replace lo hi (reach_terms i ab s)) (reach_terms i ab (replace lo hi s)) (λ t. refl) refl (λ j a b. refl)
    (λ j. replace_in-plus lo hi apart (eqb j i) (s.rep ab.0) (s.rep ab.1) (s.graph j).reach)

module _ (n i : ℕ) (ab : ℕ × ℕ) where
  -- doubled successors are read off the links alone
  doubled-reach : (s : Facts) → doubled n (reach_terms i ab s) ≡ doubled n s
  unfolding doubled successors reach_terms add_reach
  doubled-reach s = refl

  settle-reach : (k : ℕ) (s : Facts) → (settle n k (reach_terms i ab s)).facts ≡ reach_terms i ab (settle n k s).facts
  unfolding settle unjoined Option-elim
  settle-reach zero s = refl
  settle-reach (suc k) s = rw (settle_step n k (reach_terms i ab s), settle_step n k s, doubled-reach s) (go (λ t. settle-reach k t) (doubled n s) refl)
    where
      go : ((t : Facts) → (settle n k (reach_terms i ab t)).facts ≡ reach_terms i ab (settle n k t).facts) → (o : Option (ℕ × ℕ)) → doubled n s ≡ o →
          Option-elim o (reach_terms i ab s) (λ p. (settle n k (replace p.0 p.1 (reach_terms i ab s))).facts) ≡ reach_terms i ab
          (Option-elim o s (λ p. (settle n k (replace p.0 p.1 s)).facts))
      go ih none e = refl
      go ih (some p) e =
          let d = doubled-some n s p e in
          ap (λ (t : Facts). (settle n k t).facts) (replace-reach p.0 p.1 (λ q. omega (arith, d.lower, q)) i ab s) ∙ ih (replace p.0 p.1 s)

  join-reach : (c d : ℕ) (s : Facts) → (join n c d (reach_terms i ab s)).facts ≡ reach_terms i ab (join n c d s).facts
  join-reach c d s =
      ⊎_elim
      (λ e. rw (join-facts n c d (reach_terms i ab s), join-facts n c d s, eqb_intro {m = c} {n = d} e))
      (λ e. rw (join-facts n c d (reach_terms i ab s), join-facts n c d s, e.1)
      (low_high (λ lo hi. (settle n n (replace lo hi (reach_terms i ab s))).facts ≡ reach_terms i ab (settle n n (replace lo hi s)).facts) c d
      (step c d e.0) (step d c (λ q. e.0 (sym q)))))
      (eq_cases c d)
    where
      step : (lo hi : ℕ) → (lo ≡ hi → ⊥) → (settle n n (replace lo hi (reach_terms i ab s))).facts ≡ reach_terms i ab (settle n n (replace lo hi s)).facts
      step lo hi apart = ap (λ (t : Facts). (settle n n t).facts) (replace-reach lo hi apart i ab s) ∙ settle-reach n (replace lo hi s)

  -- "a reachability fact may be added before or after a join alike"
  pub reach_either_side : (cd : ℕ × ℕ) (s : Facts) → join_terms n cd (reach_terms i ab s) ≡ reach_terms i ab (join_terms n cd s)
  unfolding join_terms reach_terms add_reach
  reach_either_side cd s = join-reach (s.rep cd.0) (s.rep cd.1) s

  pub reach_any_side : (ps : List (ℕ × ℕ)) (s : Facts) → join_all n ps (reach_terms i ab s) ≡ reach_terms i ab (join_all n ps s)
  unfolding join_all
  reach_any_side [] s = refl
  reach_any_side (cd ∷ ps) s = ap (join_all n ps) (reach_either_side cd s) ∙ reach_any_side ps (join_terms n cd s)

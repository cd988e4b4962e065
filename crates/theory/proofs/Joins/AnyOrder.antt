-- Joins in any order leave the same facts, and a reachability fact may be added before or after them (02, R-9).
use Prim.Native.Nat.{ℕ}
use mathlib.Core.Path.{◌≡◌, refl, sym, ap, ◌∙◌, subst}
use mathlib.Core.Logic.{⊎_elim}
use mathlib.Core.Bool.{true}
use mathlib.Core.List.Memᴰ
use mathlib.Core.List.{List, [], ◌∷◌, Memᴰ}
use Rattle.logic.specs.Facts.{Facts, live}
use Rattle.logic.specs.Reordering.{join_terms, join_all, SameElements}
use Rattle.theory.proofs.Paths.Extends.{rep_same}
use Rattle.theory.proofs.Paths.Ranged.{InRange}
use Rattle.theory.proofs.Paths.Kept.{Sane, Kept, kept_refl, kept_trans, join_kept}
use Rattle.theory.proofs.Joins.Quotient.{Quotient, class-rep, quotient_unique}
use Rattle.theory.proofs.Joins.Congruence.{Congruence, Within, within-refl, join-within, kernel}

-- pairs of terms of 1 to n
abbrev pub PairsIn : ℕ → List (ℕ × ℕ) → Type 0
PairsIn n ps = (ab : ℕ × ℕ) → Memᴰ ab ps → InRange n ab.0 × InRange n ab.1

module _ (n : ℕ) where
  -- one join of terms in range: what it keeps, and that it makes them one
  join_one : (ab : ℕ × ℕ) (s : Facts) → InRange n ab.0 × InRange n ab.1 → Sane n s → Kept n s (join_terms n ab s) × ((join_terms n ab s).rep ab.0 ≡ (join_terms n ab s).rep ab.1)
  unfolding join_terms
  join_one ab s r h =
      let k = join_kept n (s.rep ab.0) (s.rep ab.1) s (h.ranged.rep_live ab.0 r.0) (h.ranged.rep_live ab.1 r.1) h in
      (k.0, k.1 ab.0 ab.1 refl refl)

  pub join_all_kept : (ps : List (ℕ × ℕ)) (s : Facts) → PairsIn n ps → Sane n s → Kept n s (join_all n ps s)
  unfolding join_all
  join_all_kept [] s r h = kept_refl h
  join_all_kept (ab ∷ ps) s r h =
      let k = (join_one ab s (r ab (Memᴰ.head refl)) h).0 in
      kept_trans k (join_all_kept ps (join_terms n ab s) (λ x m. r x (Memᴰ.tail m)) k.sane)

  -- every pair is one term afterwards
  join_all_joins : (ps : List (ℕ × ℕ)) (s : Facts) → PairsIn n ps → Sane n s → (ab : ℕ × ℕ) → Memᴰ ab ps → (join_all n ps s).rep ab.0 ≡ (join_all n ps s).rep ab.1
  unfolding join_all
  join_all_joins [] s r h ab m = absurd (Memᴰ.not-nil m)
  join_all_joins (p ∷ ps) s r h ab m =
      let j = join_one p s (r p (Memᴰ.head refl)) h in
      let r' : PairsIn n ps = λ x k. r x (Memᴰ.tail k) in
      ⊎_elim
      (λ e. subst (λ (x : ℕ × ℕ). (join_all n ps (join_terms n p s)).rep x.0 ≡ (join_all n ps (join_terms n p s)).rep x.1) (sym e)
      (rep_same (join_all_kept ps (join_terms n p s) r' j.0.sane).extends p.0 p.1 j.1))
      (λ k. join_all_joins ps (join_terms n p s) r' j.0.sane ab k)
      (Memᴰ.cases_cons m)

  -- nothing is put together beyond a congruence that holds the pairs
  module _ {E : ℕ → ℕ → Type 0} {s : Facts} (c : Congruence s E) where
    join_all-within : (ps : List (ℕ × ℕ)) (s' : Facts) → PairsIn n ps → ((ab : ℕ × ℕ) → Memᴰ ab ps → E (s.rep ab.0) (s.rep ab.1)) →
        Sane n s' → Within n E s s' → Within n E s (join_all n ps s')
    unfolding join_all join_terms
    join_all-within [] s' r held h w = w
    join_all-within (ab ∷ ps) s' r held h w =
        let i = r ab (Memᴰ.head refl) in
        let k = (join_one ab s' i h).0 in
        let at : (t : ℕ) → E (s.rep t) (s'.rep t) = λ t. subst (λ (u : ℕ). E (s.rep t) u) (sym (w.quotient.rep_class t)) (w.within (s.rep t)) in
        let e = c.joined _ _ _ (c.turned _ _ (at ab.0)) (c.joined _ _ _ (held ab (Memᴰ.head refl)) (at ab.1)) in
        join_all-within ps (join_terms n ab s') (λ x m. r x (Memᴰ.tail m)) (λ x m. held x (Memᴰ.tail m)) k.sane
        (join-within n c (s'.rep ab.0) (s'.rep ab.1) s' (h.ranged.rep_live ab.0 i.0) (h.ranged.rep_live ab.1 i.1) e h.ranged w)

  -- the relation that holds of any two terms is a congruence: a list of joins is a quotient
  abbrev Any : ℕ → ℕ → Type 0
  Any x y = Unit {0}

  any_congruence : (s : Facts) → Congruence s Any
  any_congruence s = record { same = λ x. tt; turned = λ x y e. tt; joined = λ x y z e f. tt; successors_too = λ i x y u v e l l'. tt }

  pub join_all-quotient : (ps : List (ℕ × ℕ)) (s : Facts) → PairsIn n ps → Sane n s → Quotient n s (join_all n ps s)
  join_all-quotient ps s r h = (join_all-within (any_congruence s) ps s r (λ ab m. tt) h (within-refl n (any_congruence s))).quotient

  -- a list of joins puts together what one with the same pairs, or more, does
  module _ (ps qs : List (ℕ × ℕ)) (s : Facts) (r : PairsIn n ps) (r' : PairsIn n qs) (h : Sane n s) (sub : (ab : ℕ × ℕ) → Memᴰ ab ps → Memᴰ ab qs) where
    abbrev less : Quotient n s (join_all n ps s)
    less = join_all-quotient ps s r h

    abbrev more : Quotient n s (join_all n qs s)
    more = join_all-quotient qs s r' h

    more_kernel : Congruence s (λ x y. more.class x ≡ more.class y)
    more_kernel = kernel n h (join_all_kept qs s r' h).sane more

    less-within : Within n (λ x y. more.class x ≡ more.class y) s (join_all n ps s)
    less-within =
        join_all-within more_kernel ps s r
        (λ ab m. sym (more.rep_class ab.0) ∙ join_all_joins qs s r' h ab (sub ab m) ∙ more.rep_class ab.1) h (within-refl n more_kernel)

    pub class-more : (x y : ℕ) → live n s x ≡ true → live n s y ≡ true → less.class x ≡ less.class y → more.class x ≡ more.class y
    class-more x y lx ly e =
        let w = less-within in
        let at : (t : ℕ) → live n s t ≡ true → w.quotient.class t ≡ less.class t = λ t l. class-rep n w.quotient t l ∙ sym (class-rep n less t l) in
        w.within x ∙ ap more.class (at x lx ∙ e ∙ sym (at y ly)) ∙ sym (w.within y)

  -- THE LAW: two lists of joins with the same pairs, in whichever order and however often, leave the same facts.
  pub joins_any_order : (ps qs : List (ℕ × ℕ)) (s : Facts) → PairsIn n ps → PairsIn n qs → SameElements ps qs → Sane n s → join_all n ps s ≡ join_all n qs s
  joins_any_order ps qs s r r' same h =
      quotient_unique n (join_all-quotient ps s r h) (join_all-quotient qs s r' h)
      (class-more ps qs s r r' h (λ ab m. (same ab).0 m)) (class-more qs ps s r' r h (λ ab m. (same ab).1 m))

  -- "two joins, with replaced terms read as what they became, leave the same facts in either order"
  pub two_joins : (ab cd : ℕ × ℕ) (s : Facts) → InRange n ab.0 × InRange n ab.1 → InRange n cd.0 × InRange n cd.1 → Sane n s →
      join_terms n cd (join_terms n ab s) ≡ join_terms n ab (join_terms n cd s)
  unfolding join_all
  two_joins ab cd s i i' h = joins_any_order (ab ∷ cd ∷ []) (cd ∷ ab ∷ []) s (pairs ab cd i i') (pairs cd ab i' i) (λ x. (swap ab cd x, swap cd ab x)) h
    where
      pairs : (p p' : ℕ × ℕ) → InRange n p.0 × InRange n p.1 → InRange n p'.0 × InRange n p'.1 → PairsIn n (p ∷ p' ∷ [])
      pairs p p' j j' x m =
          ⊎_elim
          (λ e. subst (λ (y : ℕ × ℕ). InRange n y.0 × InRange n y.1) (sym e) j)
          (λ k. ⊎_elim (λ e. subst (λ (y : ℕ × ℕ). InRange n y.0 × InRange n y.1) (sym e) j') (λ k'. absurd (Memᴰ.not-nil k')) (Memᴰ.cases_cons k))
          (Memᴰ.cases_cons m)

      swap : (p p' x : ℕ × ℕ) → Memᴰ x (p ∷ p' ∷ []) → Memᴰ x (p' ∷ p ∷ [])
      swap p p' x m =
          ⊎_elim
          (λ e. Memᴰ.tail (Memᴰ.head e))
          (λ k. ⊎_elim (λ e. Memᴰ.head e) (λ k'. absurd (Memᴰ.not-nil k')) (Memᴰ.cases_cons k))
          (Memᴰ.cases_cons m)

-- Of a grammar that passes the test: what is derived begins as claimed, so that the table has the alternative of every derivation.
use Prim.Native.Nat.{ℕ, ◌<◌}
use mathlib.Core.Path.{◌≡◌, refl, sym, ap, ◌∙◌, subst}
use mathlib.Core.Logic.{◌⊎◌, ⊎_elim, inl, inr}
use mathlib.Core.Bool.{Bool, true, false}
use mathlib.Core.List.{[], ◌∷◌, ◌++◌, tail-eq_of_cons-eq, Memᴰ}
use mathlib.Core.Option.{some, some_inj}
use lib.Dec.{eqb, ltb}
use lib.ListN.{get_elem?, length}
use Rattle.logic.specs.Search.{◌and◌, ◌or◌, all}
use Rattle.theory.proofs.Basics.Search.{and_left, and_right, and_intro, or_cases, or_left, or_right}
use Rattle.theory.proofs.Basics.Compare.{eqb_self, eqb-true, ltb-true, ltb_intro}
use Rattle.grammar_theory.specs.Grammar.{token, rule, action, Symbols, Kinds, Grammar, alternatives, shift, act, Steps, Derives, empty, reading, acting, expanding}
use Rattle.grammar_theory.specs.Machine.{Table, predicted, next}
use Rattle.grammar_theory.specs.LL1.{Facts, nullable, first, follow, rank, vanish, begin, known, followed}
use Rattle.grammar_theory.proofs.Derivations.{derives_nil, derives_token, derives_action, derives_rule}
use Rattle.grammar_theory.proofs.Passed.{implies_true, mem_get_elem, get_elem_mem, Passed}

module _ (c : Facts) (k : ℕ) where
  pub begin-append : (xs ys : Symbols) (b : Bool) → begin c k (xs ++ ys) b ≡ begin c k xs (begin c k ys b)
  unfolding begin
  begin-append [] ys b = refl
  begin-append (token j ∷ xs) ys b = refl
  begin-append (rule r ∷ xs) ys b = ap (λ (x : Bool). first c k r or (nullable c r and x)) (begin-append xs ys b)
  begin-append (action a ∷ xs) ys b = begin-append xs ys b

  pub begin_cases : (xs : Symbols) (b : Bool) → begin c k xs b ≡ true → (begin c k xs false ≡ true) ⊎ ((vanish c xs ≡ true) × (b ≡ true))
  unfolding begin vanish
  begin_cases [] b h = inr (refl, h)
  begin_cases (token j ∷ xs) b h = inl h
  begin_cases (rule r ∷ xs) b h =
      ⊎_elim
      (λ e. inl (or_left (nullable c r and begin c k xs false) e))
      (λ e. ⊎_elim (λ x. inl (or_right (first c k r) (and_intro (and_left _ _ e) x))) (λ x. inr (and_intro (and_left _ _ e) x.0, x.1))
      (begin_cases xs b (and_right _ _ e)))
      (or_cases (first c k r) (nullable c r and begin c k xs b) h)
  begin_cases (action a ∷ xs) b h = begin_cases xs b h

  pub begin_mono : (xs : Symbols) (a b : Bool) → (a ≡ true → b ≡ true) → begin c k xs a ≡ true → begin c k xs b ≡ true
  unfolding begin
  begin_mono [] a b f h = f h
  begin_mono (token j ∷ xs) a b f h = h
  begin_mono (rule r ∷ xs) a b f h =
      ⊎_elim
      (λ e. or_left (nullable c r and begin c k xs b) e)
      (λ e. or_right (first c k r) (and_intro (and_left _ _ e) (begin_mono xs a b f (and_right _ _ e))))
      (or_cases (first c k r) (nullable c r and begin c k xs a) h)
  begin_mono (action a' ∷ xs) a b f h = begin_mono xs a b f h

module _ (g : Grammar) (t : Table) (c : Facts) where
  pub known-append : (xs ys : Symbols) → known g t c xs ≡ true → known g t c ys ≡ true → known g t c (xs ++ ys) ≡ true
  unfolding known
  known-append [] ys h h' = h'
  known-append (token j ∷ xs) ys h h' = and_intro (and_left _ _ h) (known-append xs ys (and_right _ _ h) h')
  known-append (rule r ∷ xs) ys h h' = and_intro (and_left _ _ h) (known-append xs ys (and_right _ _ h) h')
  known-append (action a ∷ xs) ys h h' = known-append xs ys h h'

  -- a kind with which what stands behind a rule can begin follows the rule
  unfoldable pub Behind : ℕ → Symbols → Type 0
  Behind r ss = (k : ℕ) → k < c.kinds → begin c k ss (eqb k 0) ≡ true → follow c k r ≡ true

  unfoldable pub Followed : Symbols → Type 0
  Followed [] = Unit
  Followed (token j ∷ ss) = Followed ss
  Followed (rule r ∷ ss) = Behind r ss × Followed ss
  Followed (action a ∷ ss) = Followed ss

  pub followed-append : (r : ℕ) (xs ss : Symbols) → ((k : ℕ) → k < c.kinds → followed g t c k xs (follow c k r) ≡ true) → Behind r ss → Followed ss →
      Followed (xs ++ ss)
  unfolding followed Followed Behind
  followed-append r [] ss h b f = f
  followed-append r (token j ∷ xs) ss h b f = followed-append r xs ss h b f
  followed-append r (rule s ∷ xs) ss h b f = (
    λ k l e. implies_true _ _ (and_left _ _ (h k l))
        (begin_mono c k xs (begin c k ss (eqb k 0)) (follow c k r) (b k l) (sym (begin-append c k xs ss (eqb k 0)) ∙ e)),
    followed-append r xs ss (λ k l. and_right _ _ (h k l)) b f,
  )
  followed-append r (action a ∷ xs) ss h b f = followed-append r xs ss h b f

-- a stack of the machine: its symbols are known, and its rules are followed by what can stand behind them
pub record Fitting (g : Grammar) (t : Table) (c : Facts) (ss : Symbols) : Type 0 where
  pub are_known : known g t c ss ≡ true
  pub are_followed : Followed g t c ss

module _ {g : Grammar} {t : Table} {c : Facts} where
  pub fitting_token : {k : ℕ} {ss : Symbols} → Fitting g t c (token k ∷ ss) → (0 < k) × (k < c.kinds) × Fitting g t c ss
  unfolding known Followed
  fitting_token f =
      let front = and_left _ _ f.are_known in
      (ltb-true _ _ (and_left _ _ front), ltb-true _ _ (and_right _ _ front), record { are_known = and_right _ _ f.are_known; are_followed = f.are_followed })

  pub fitting_action : {a : ℕ} {ss : Symbols} → Fitting g t c (action a ∷ ss) → Fitting g t c ss
  unfolding known Followed
  fitting_action f = record { are_known = f.are_known; are_followed = f.are_followed }

  pub fitting_rule : {r : ℕ} {ss : Symbols} → Fitting g t c (rule r ∷ ss) → (r < length g) × (rank c r < c.top) × Behind g t c r ss × Fitting g t c ss
  unfolding known Followed
  fitting_rule f =
      let front = and_left _ _ f.are_known in (
        ltb-true _ _ (and_left _ _ front),
        ltb-true _ _ (and_right _ _ front),
        f.are_followed.0,
        record { are_known = and_right _ _ f.are_known; are_followed = f.are_followed.1 },
      )

-- of a grammar that passes the test
module _ {g : Grammar} {t : Table} {c : Facts} {start : ℕ} (p : Passed g t c start) where
  pub fitting_start : Fitting g t c (rule start ∷ [])
  unfolding Followed Behind begin
  fitting_start = record { are_known = p.start_known; are_followed = (λ k l e. subst (λ (x : ℕ). follow c x start ≡ true) (sym (zero_of k e)) p.start_followed, tt) }
    where
      zero_of : (k : ℕ) → eqb k 0 ≡ true → k ≡ 0
      zero_of k e = eqb-true k 0 e

  -- an alternative in the place of its rule
  pub fitting_expand : (r : ℕ) (alternative ss : Symbols) → Memᴰ alternative (alternatives g r) → Fitting g t c (rule r ∷ ss) → Fitting g t c (alternative ++ ss)
  fitting_expand r alternative ss m f =
      let parts = fitting_rule f in
      let i = mem_get_elem m in
      record {
        are_known = known-append g t c alternative ss (p.rule_fits r alternative m).are_known parts.3.are_known;
        are_followed = followed-append g t c r alternative ss (λ k l. (p.kind_fits k r i.0 alternative l i.1).are_followed) parts.2 parts.3.are_followed;
      }

  -- the kinds that are derived are known, and none is the end of the text
  pub derives_kinds : {ss : Symbols} {ks : Kinds} {steps : Steps} → Derives g ss ks steps → Fitting g t c ss →
      all (λ k. ltb 0 k and ltb k c.kinds) ks ≡ true
  unfolding all
  derives_kinds empty f = refl
  derives_kinds (reading d) f = let parts = fitting_token f in and_intro (and_intro (ltb_intro parts.0) (ltb_intro parts.1)) (derives_kinds d parts.2)
  derives_kinds (acting d) f = derives_kinds d (fitting_action f)
  derives_kinds (expanding {r = r} {ss = ss} alternative m d) f = derives_kinds d (fitting_expand r alternative ss m f)

  next_known : (ks : Kinds) → all (λ k. ltb 0 k and ltb k c.kinds) ks ≡ true → next ks < c.kinds
  unfolding all next
  next_known [] h = p.some_kinds
  next_known (k ∷ ks) h = ltb-true _ _ (and_right _ _ (and_left _ _ h))

  pub derives_next : {ss : Symbols} {ks : Kinds} {steps : Steps} → Derives g ss ks steps → Fitting g t c ss → next ks < c.kinds
  derives_next {ks} d f = next_known ks (derives_kinds d f)

  -- what is derived begins with a kind that its symbols can begin with
  pub derives_begin : {ss : Symbols} {ks : Kinds} {steps : Steps} → Derives g ss ks steps → Fitting g t c ss →
      begin c (next ks) ss (eqb (next ks) 0) ≡ true
  unfolding begin next
  derives_begin empty f = refl
  derives_begin (reading {k = k} d) f = eqb_self k
  derives_begin (acting d) f = derives_begin d (fitting_action f)
  derives_begin (expanding {r = r} {ss = ss} {ks = ks} alternative m d) f =
      let k : ℕ = next ks in
      let behind : Bool = begin c k ss (eqb k 0) in
      let f' = fitting_expand r alternative ss m f in
      let i = mem_get_elem m in
      let h : begin c k alternative behind ≡ true = sym (begin-append c k alternative ss (eqb k 0)) ∙ derives_begin d f' in
      ⊎_elim
      (λ e. or_left (nullable c r and behind) ((p.kind_fits k r i.0 alternative (derives_next d f') i.1).in_first e))
      (λ e. or_right (first c k r) (and_intro ((p.rule_fits r alternative m).vanishing e.0).0 e.1))
      (begin_cases c k alternative behind h)

  -- the table has the alternative of a derivation
  pub derives_predicted : (r i : ℕ) (alternative ss : Symbols) {ks : Kinds} {steps : Steps} → get_elem? (alternatives g r) i ≡ some alternative →
      Derives g (alternative ++ ss) ks steps → Fitting g t c (rule r ∷ ss) → predicted t r (next ks) ≡ i
  unfolding Behind
  derives_predicted r i alternative ss {ks} e d f =
      let k : ℕ = next ks in
      let f' = fitting_expand r alternative ss (get_elem_mem (alternatives g r) i e) f in
      let low = derives_next d f' in
      let h = sym (begin-append c k alternative ss (eqb k 0)) ∙ derives_begin d f' in
      (p.kind_fits k r i alternative low e).in_table (begin_mono c k alternative (begin c k ss (eqb k 0)) (follow c k r) ((fitting_rule f).2 k low) h)

  -- a derivation from a rule goes on from the alternative that the table has
  pub derives_taken : (r : ℕ) (ss : Symbols) {ks : Kinds} {steps : Steps} → Derives g (rule r ∷ ss) ks steps → Fitting g t c (rule r ∷ ss) →
      (alternative : Symbols) × (get_elem? (alternatives g r) (predicted t r (next ks)) ≡ some alternative) × Derives g (alternative ++ ss) ks steps
  derives_taken r ss d f =
      let parts = derives_rule d in
      let i = mem_get_elem parts.1 in (
        parts.0,
        ap (get_elem? (alternatives g r)) (derives_predicted r i.0 parts.0 ss i.1 parts.2 f) ∙ i.1,
        parts.2,
      )

  -- one sequence of steps
  pub derives_unique : {ss : Symbols} {ks : Kinds} {steps steps' : Steps} → Fitting g t c ss → Derives g ss ks steps → Derives g ss ks steps' → steps ≡ steps'
  derives_unique f empty d' = sym (derives_nil d').1
  derives_unique f (reading {k = k} {ss = ss} d) d' =
      let parts = derives_token d' in
      let same = tail-eq_of_cons-eq parts.2 in
      ap (λ (x : Steps). shift k ∷ x) (derives_unique (fitting_token f).2 d (subst (λ (x : Kinds). Derives g ss x parts.1) (sym same) parts.4)) ∙ sym parts.3
  derives_unique f (acting {a = a} d) d' =
      let parts = derives_action d' in
      ap (λ (x : Steps). act a ∷ x) (derives_unique (fitting_action f) d parts.2) ∙ sym parts.1
  derives_unique {ks} {steps'} f (expanding {r = r} {ss = ss} alternative m d) d' =
      let i = mem_get_elem m in
      let at = derives_predicted r i.0 alternative ss i.1 d f in
      let taken = derives_taken r ss d' f in
      let same : taken.0 ≡ alternative = some_inj.0 (sym taken.1 ∙ ap (get_elem? (alternatives g r)) at ∙ i.1) in
      derives_unique (fitting_expand r alternative ss m f) d (subst (λ (x : Symbols). Derives g (x ++ ss) ks steps') same taken.2)

-- What a passed test says of each alternative and each kind.
use Prim.Native.Nat.{ℕ, zero, suc, ◌+◌, ◌≤◌, ◌<◌}
use native.Mathlib.Omega.{arith}
use mathlib.Core.Path.{◌≡◌, refl, sym, ap, ◌∙◌, subst}
use mathlib.Core.Logic.{◌⊎◌, inl, inr}
use mathlib.Core.Bool.{Bool, true, false, false≢true}
use mathlib.Core.List.{List, [], ◌∷◌, Memᴰ}
use mathlib.Core.Option.{Option, none, some, some_inj}
use lib.ListN.{get_or, get_elem?, length}
use Rattle.logic.specs.Search.{any}
use Rattle.theory.proofs.Basics.Search.{and_left, and_right, none-some, all_true, from_intro}
use Rattle.theory.proofs.Basics.Compare.{eqb-true, ltb-true, leb-true}
use Rattle.grammar_theory.specs.Grammar.{rule, Symbols, Grammar, alternatives}
use Rattle.grammar_theory.specs.Machine.{Table, predicted}
use Rattle.grammar_theory.specs.LL1.{Facts, nullable, first, follow, rank, weight, height, vanish, begin, leading, weigh, lower, ◌implies◌, each, known, followed, fits_kind, fits_rule, fits, ll1}

pub option_cases : {A : Type 0} (o : Option A) → (o ≡ none) ⊎ ((a : A) × (o ≡ some a))
option_cases none = inl refl
option_cases (some a) = inr (a, refl)

pub implies_true : (a b : Bool) → a implies b ≡ true → a ≡ true → b ≡ true
unfolding ◌implies◌
implies_true true b h e = h
implies_true false b h e = absurd (false≢true e)

module _ {A : Type 0} where
  each_from : (p : ℕ → A → Bool) (i : ℕ) (xs : List A) (j : ℕ) {x : A} → each p i xs ≡ true → get_elem? xs j ≡ some x → p (i + j) x ≡ true
  unfolding each
  each_from p i [] j {x} h e = absurd (none-some e)
  each_from p i (y ∷ xs) zero {x} h e =
      let same : i ≡ i + 0 = omega arith in
      subst (λ (n : ℕ). p n x ≡ true) same (ap (p i) (sym (some_inj.0 e)) ∙ and_left (p i y) (each p (suc i) xs) h)
  each_from p i (y ∷ xs) (suc j) {x} h e =
      let same : suc i + j ≡ i + suc j = omega arith in
      subst (λ (n : ℕ). p n x ≡ true) same (each_from p (suc i) xs j (and_right (p i y) (each p (suc i) xs) h) e)

  pub each-true : (p : ℕ → A → Bool) (xs : List A) (j : ℕ) {x : A} → each p 0 xs ≡ true → get_elem? xs j ≡ some x → p j x ≡ true
  each-true p xs j {x} h e = let same : 0 + j ≡ j = omega arith in subst (λ (n : ℕ). p n x ≡ true) same (each_from p 0 xs j h e)

  pub mem_get_elem : {x : A} {xs : List A} → Memᴰ x xs → (i : ℕ) × (get_elem? xs i ≡ some x)
  mem_get_elem (Memᴰ.head e) = (0, ap some (sym e))
  mem_get_elem (Memᴰ.tail m) = let r = mem_get_elem m in (suc r.0, r.1)

  pub get_elem_mem : (xs : List A) (i : ℕ) {x : A} → get_elem? xs i ≡ some x → Memᴰ x xs
  get_elem_mem [] i e = absurd (none-some e)
  get_elem_mem (y ∷ xs) zero e = Memᴰ.head (sym (some_inj.0 e))
  get_elem_mem (y ∷ xs) (suc i) e = Memᴰ.tail (get_elem_mem xs i e)

  pub get_elem_get_d : (xss : List (List A)) (r i : ℕ) {x : A} → get_elem? (get_or xss r []) i ≡ some x → get_elem? xss r ≡ some (get_or xss r [])
  get_elem_get_d [] r i e = absurd (none-some e)
  get_elem_get_d (xs ∷ xss) zero i e = refl
  get_elem_get_d (xs ∷ xss) (suc r) i e = get_elem_get_d xss r i e

  pub get_elem_below : (xss : List (List A)) (r : ℕ) → r < length xss → get_elem? xss r ≡ some (get_or xss r [])
  get_elem_below [] r l = absurd (omega arith)
  get_elem_below (xs ∷ xss) zero l = refl
  get_elem_below (xs ∷ xss) (suc r) l = get_elem_below xss r (omega arith)

-- the test of alternative ss of rule r, but for kinds
pub record FitsRule (g : Grammar) (t : Table) (c : Facts) (r : ℕ) (ss : Symbols) : Type 0 where
  pub are_known : known g t c ss ≡ true
  pub vanishing : vanish c ss ≡ true → (nullable c r ≡ true) × (suc (weigh c ss) ≤ weight c r)
  pub rank_above : leading c ss ≤ rank c r
  pub weigh_most : weigh c ss ≤ c.heaviest

-- the test of alternative ss of rule r, which has number i, at kind k
pub record FitsKind (g : Grammar) (t : Table) (c : Facts) (k r i : ℕ) (ss : Symbols) : Type 0 where
  pub in_table : begin c k ss (follow c k r) ≡ true → predicted t r k ≡ i
  pub in_first : begin c k ss false ≡ true → first c k r ≡ true
  pub are_followed : followed g t c k ss (follow c k r) ≡ true

module _ (g : Grammar) (t : Table) (c : Facts) where
  pub fits_rule-true : (r : ℕ) (ss : Symbols) → fits_rule g t c r ss ≡ true → FitsRule g t c r ss
  unfolding fits_rule
  fits_rule-true r ss h =
      let front = and_left _ _ h in
      let front2 = and_left _ _ front in
      record {
        are_known = and_left _ _ front2;
        vanishing = λ v. let both = implies_true _ _ (and_right _ _ front2) v in (and_left _ _ both, leb-true _ _ (and_right _ _ both));
        rank_above = leb-true _ _ (and_right _ _ front);
        weigh_most = leb-true _ _ (and_right _ _ h);
      }

  pub fits_kind-true : (k r i : ℕ) (ss : Symbols) → fits_kind g t c k r i ss ≡ true → FitsKind g t c k r i ss
  unfolding fits_kind
  fits_kind-true k r i ss h =
      let front = and_left _ _ h in
      record {
        in_table = λ b. eqb-true _ _ (implies_true _ _ (and_left _ _ front) b);
        in_first = implies_true _ _ (and_right _ _ front);
        are_followed = and_right _ _ h;
      }

-- a grammar that passes the test
pub record Passed (g : Grammar) (t : Table) (c : Facts) (start : ℕ) : Type 0 where
  pub some_kinds : 0 < c.kinds
  pub start_known : known g t c (rule start ∷ []) ≡ true
  pub start_followed : follow c 0 start ≡ true
  pub rule_fits : (r : ℕ) (ss : Symbols) → Memᴰ ss (alternatives g r) → FitsRule g t c r ss
  pub productive : (r : ℕ) → r < length g → any (lower c (height c r)) (alternatives g r) ≡ true
  pub kind_fits : (k r i : ℕ) (ss : Symbols) → k < c.kinds → get_elem? (alternatives g r) i ≡ some ss → FitsKind g t c k r i ss

pub ll1_passed : (g : Grammar) (t : Table) (c : Facts) (start : ℕ) → ll1 g t c start ≡ true → Passed g t c start
unfolding ll1 fits alternatives
ll1_passed g t c start h =
    let front = and_left _ _ h in
    let front2 = and_left _ _ front in
    let front3 = and_left _ _ front2 in
    let rules : each (fits g t c) 0 g ≡ true = and_right _ _ front in
    let row : (r : ℕ) → get_elem? g r ≡ some (get_or g r []) → fits g t c r (get_or g r []) ≡ true = λ r e. each-true (fits g t c) g r rules e in
    record {
      some_kinds = ltb-true _ _ (and_left _ _ front3);
      start_known = and_right _ _ front3;
      start_followed = and_right _ _ front2;
      rule_fits = λ r ss m.
          let i = mem_get_elem m in
          fits_rule-true g t c r ss (all_true (fits_rule g t c r) ss (and_left _ _ (row r (get_elem_get_d g r i.0 i.1))) m);
      productive = λ r l. and_right _ _ (row r (get_elem_below g r l));
      kind_fits = λ k r i ss l e.
          let kinds = all_true (λ k. each (λ s. each (fits_kind g t c k s) 0) 0 g) k (and_right _ _ h) (from_intro c.kinds 0 k (omega arith) (omega (arith, l))) in
          let rows = each-true (λ s. each (fits_kind g t c k s) 0) g r kinds (get_elem_get_d g r i e) in
          fits_kind-true g t c k r i ss (each-true (fits_kind g t c k r) (get_or g r []) i rows e);
    }

-- The checks of a call in their order: a refusal is the first that stands, and there is one first.
use Prim.Native.Nat.{ℕ, ◌≤◌, ◌<◌}
use mathlib.Core.Path.{◌≡◌, refl, sym, ap, ◌∙◌, subst}
use mathlib.Core.Logic.{◌⊎◌, ⊎_elim, inl, inr}
use mathlib.Core.Bool.{Bool, true}
use mathlib.Core.List.Memᴰ
use mathlib.Core.List.{List, [], ◌∷◌, ◌++◌, Memᴰ, append_assoc}
use mathlib.Core.Option.{Option, none, some, Option-elim}
use lib.Dec.{ltb, leb}
use borrow.Author.Tests.{leb-true}
use Rattle.logic.specs.Search.{◌and◌, ◌or◌, all, or_else, first_of}
use Rattle.logic.specs.Calls.{Input, Check, layout_check, byte_check, form_checks, query_checks, Answer, refused, refusal_of}
use Rattle.logic.specs.Demands.{NoneStands, FirstStands, numbers}
use Rattle.theory.proofs.Basics.Search.{none-some, and_left, and_right, or_cases, all_true, map_intro}
use Rattle.theory.proofs.Basics.Compare.{ltb-true}

-- the answer that a check gives
abbrev pub answers : Input → Check → Option Answer
answers i c = Option-elim (c.place i) none (λ place. some (refused c.number place))

-- a check that stands is the refusal where none before it does
stands_refusal : (before : List Check) (c : Check) (behind : List Check) (i : Input) (p : ℕ) → NoneStands before i → c.place i ≡ some p →
    refusal_of (before ++ (c ∷ behind)) i ≡ some (refused c.number p)
unfolding refusal_of first_of or_else Option-elim
stands_refusal [] c behind i p n s = rw s
stands_refusal (b ∷ before) c behind i p n s =
    rw (n b (Memᴰ.head refl)) (stands_refusal before c behind i p (λ d m. n d (Memᴰ.tail m)) s)

first_here : (c : Check) (cs : List Check) (i : Input) (p : ℕ) → c.place i ≡ some p → FirstStands (c ∷ cs) i c.number p
first_here c cs i p s =
    record {
      before = [];
      check = c;
      behind = cs;
      in_order = refl;
      numbered = refl;
      stands = s;
      none_before = λ d m. absurd (Memᴰ.not-nil m);
    }

first_later : (c : Check) (cs : List Check) (i : Input) (k p : ℕ) → c.place i ≡ none → FirstStands cs i k p → FirstStands (c ∷ cs) i k p
first_later c cs i k p s f =
    record {
      before = c ∷ f.before;
      check = f.check;
      behind = f.behind;
      in_order = ap (λ (ds : List Check). c ∷ ds) f.in_order;
      numbered = f.numbered;
      stands = f.stands;
      none_before = λ d m. ⊎_elim (λ e. ap (λ (x : Check). x.place i) e ∙ s) (λ n. f.none_before d n) (Memᴰ.cases_cons m);
    }

-- with more checks behind, the first stays
first_further : (cs ds : List Check) (i : Input) (k p : ℕ) → FirstStands cs i k p → FirstStands (cs ++ ds) i k p
first_further cs ds i k p f =
    record {
      before = f.before;
      check = f.check;
      behind = f.behind ++ ds;
      in_order = ap (λ (xs : List Check). xs ++ ds) f.in_order ∙ append_assoc f.before (f.check ∷ f.behind) ds;
      numbered = f.numbered;
      stands = f.stands;
      none_before = f.none_before;
    }

-- a refusal by a check is by the first that stands
abbrev pub ByFirst : List Check → Input → Answer → Type 0
ByFirst cs i a = (k : ℕ) × (p : ℕ) × FirstStands cs i k p × (a ≡ refused k p)

pub refusal_first : (cs : List Check) (i : Input) (a : Answer) → refusal_of cs i ≡ some a → ByFirst cs i a
unfolding refusal_of first_of or_else Option-elim
refusal_first [] i a e = absurd (none-some e)
refusal_first (c ∷ cs) i a e = go (c.place i) refl (refusal_first cs i a) e
  where
    go : (o : Option ℕ) → c.place i ≡ o → (refusal_of cs i ≡ some a → ByFirst cs i a) →
        or_else (Option-elim o none (λ place. some (refused c.number place))) (refusal_of cs i) ≡ some a → ByFirst (c ∷ cs) i a
    go none s ih e = let r = ih e in (r.0, r.1, first_later c cs i r.0 r.1 s r.2, r.3)
    go (some p) s ih e = let q : refused c.number p ≡ a = cc in (c.number, p, first_here c cs i p s, sym q)

module _ (cs : List Check) (i : Input) where
  pub first_refusal : (k p : ℕ) → FirstStands cs i k p → refusal_of cs i ≡ some (refused k p)
  first_refusal k p f =
      ap (λ (ds : List Check). refusal_of ds i) f.in_order
      ∙ stands_refusal f.before f.check f.behind i p f.none_before f.stands
      ∙ ap (λ (x : ℕ). some (refused x p)) f.numbered

  -- there is one first check
  pub first_unique : (k p k' p' : ℕ) → FirstStands cs i k p → FirstStands cs i k' p' → (k ≡ k') × (p ≡ p')
  first_unique k p k' p' f g = let e : some (refused k p) ≡ some (refused k' p') = sym (first_refusal k p f) ∙ first_refusal k' p' g in (cc, cc)

  -- it is one of the checks
  pub first_own : (k p : ℕ) → (f : FirstStands cs i k p) → Memᴰ f.check cs
  first_own k p f = subst (Memᴰ f.check) (sym f.in_order) (Memᴰ.append_right f.before (Memᴰ.head refl))

  pub first_numbered : (k p : ℕ) → FirstStands cs i k p → Memᴰ k (numbers cs)
  first_numbered k p f = subst (λ (x : ℕ). Memᴰ x (numbers cs)) f.numbered (map_intro (λ (c : Check). c.number) f.check (first_own k p f))

  -- where none stands there is no first
  pub first_stands : (k p : ℕ) → NoneStands cs i → FirstStands cs i k p → ⊥
  first_stands k p h f = none-some (sym (h f.check (first_own k p f)) ∙ f.stands)

-- where a check stands, there is a first one among it and those before it
pub first_up_to : (cs : List Check) (i : Input) (c : Check) (before behind : List Check) (place : ℕ) → cs ≡ before ++ (c ∷ behind) →
    c.place i ≡ some place → (k : ℕ) × (p : ℕ) × FirstStands (before ++ (c ∷ [])) i k p × FirstStands cs i k p
first_up_to cs i c before behind place e s =
    let f = among before in
    let longer : (before ++ (c ∷ [])) ++ behind ≡ cs = append_assoc before (c ∷ []) behind ∙ sym e in
    (f.0, f.1, f.2, subst (λ (ds : List Check). FirstStands ds i f.0 f.1) longer (first_further (before ++ (c ∷ [])) behind i f.0 f.1 f.2))
  where
    at_one : (d : Check) (ds : List Check) (o : Option ℕ) → d.place i ≡ o → ((k : ℕ) × (p : ℕ) × FirstStands ds i k p) → (k : ℕ) × (p : ℕ) × FirstStands (d ∷ ds) i k p
    at_one d ds none t f = (f.0, f.1, first_later d ds i f.0 f.1 t f.2)
    at_one d ds (some p) t f = (d.number, p, first_here d ds i p t)

    among : (ds : List Check) → (k : ℕ) × (p : ℕ) × FirstStands (ds ++ (c ∷ [])) i k p
    among [] = (c.number, place, first_here c [] i place s)
    among (d ∷ ds) = at_one d (ds ++ (c ∷ [])) (d.place i) refl (among ds)

-- The refusals that are met before the walk: 1 to 9, and 22 to 26.
abbrev pub Early : ℕ → Type 0
Early k = (1 ≤ k) × ((k ≤ 9) ⊎ ((21 < k) × (k < 27)))

unfoldable early : ℕ → Bool
early k = ltb 0 k and (leb k 9 or (ltb 21 k and ltb k 27))

all-early : (ks : List ℕ) → all early ks ≡ true → (k : ℕ) → Memᴰ k ks → Early k
unfolding early
all-early ks h k m =
    let e = all_true early k h m in (
      ltb-true 0 k (and_left _ _ e),
      ⊎_elim (λ l. inl (leb-true k 9 l)) (λ q. inr (ltb-true 21 k (and_left _ _ q), ltb-true k 27 (and_right _ _ q)))
          (or_cases (leb k 9) (ltb 21 k and ltb k 27) (and_right (ltb 0 k) _ e)),
    )

-- numbers that a test finds so
pub early_of : (ks : List ℕ) → all (λ k. ltb 0 k and (leb k 9 or (ltb 21 k and ltb k 27))) ks ≡ true → (k : ℕ) → Memᴰ k ks → Early k
unfolding early
early_of = all-early

pub query_early : (k : ℕ) → Memᴰ k (numbers query_checks) → Early k
unfolding query_checks form_checks layout_check byte_check early all ◌and◌ ◌or◌
query_early = all-early (numbers query_checks) refl

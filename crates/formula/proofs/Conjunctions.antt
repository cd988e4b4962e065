-- A formula holds in a heap exactly if the literals of one of its conjunctions do, and a heap meets a conjunction's query exactly if it
-- meets the query's terms and those literals hold. Assumes nothing.
use Prim.Native.Nat.{ℕ, zero, suc, ◌+◌, ◌≤◌}
use native.Mathlib.Omega.{arith}
use mathlib.Core.Path.{◌≡◌, refl, sym, ap, ◌∙◌, subst}
use mathlib.Core.Logic.{⊎_elim, inl, inr}
use mathlib.Core.Bool.{Bool, true, false, cond}
use mathlib.Core.List.Memᴰ
use mathlib.Core.List.{List, [], ◌∷◌, ◌++◌, map, Memᴰ}
use mathlib.Core.Option.{some}
use lib.ListN.{length}
use lib.Dec.{eqb}
use borrow.Author.Tests.{eqb-true, eq-eqb, leb-true}
use Rattle.logic.specs.Search.{◌and◌, at}
use Rattle.logic.specs.Query.{Literal, Query}
use Rattle.logic.specs.Heap.{Heap, Meets, Each}
use Rattle.theory.proofs.Basics.Search.{none-some, and_left, and_right, and_intro, any-true, any_intro, flat_map-mem, flat_map_intro, map-mem, map_intro}
use Rattle.encoding.proofs.Decoded.{at_own, Fewer, Part-of}
use Rattle.formula.specs.Grammar.{Letter, E, R, D, B, letter_byte, Formula, literal, both, either}
use Rattle.formula.specs.Expansion.{Name, Conjunction, expand}
use Rattle.formula.specs.Meaning.{literals_of, Means, Holds, bare, present, AllPresent, names, chosen, restricted}
use Rattle.formula.specs.Reader.{mark, letter}
use Rattle.formula.specs.AnswerClaims.{HoldsAll, ConjunctionClaims}
use Rattle.formula.proofs.Marks.{mark_letter}

-- Conjunctions of a formula

abbrev named : Letter → ℕ → Name
named l n = record { letter = l; place = n }

module _ (h : Heap) (q : Query) where
  pub holds_some : (f : Formula) → Holds h q f → (c : Conjunction) × Memᴰ c (expand f) × HoldsAll h q c
  unfolding Holds expand
  holds_some (literal l n) m =
      (named l n ∷ [], Memᴰ.head refl, λ x k. ⊎_elim (λ (e : x ≡ named l n). rw e m) (λ k'. absurd (Memᴰ.not-nil k')) (Memᴰ.cases_cons k))
  holds_some (both f g) m =
      let a = holds_some f m.0 in
      let b = holds_some g m.1 in
      (a.0 ++ b.0, flat_map_intro _ a.0 _ a.1 (map_intro _ b.0 b.1), λ x k. ⊎_elim (a.2 x) (b.2 x) (Memᴰ.append_cases a.0 k))
  holds_some (either f g) (inl m) = let a = holds_some f m in (a.0, Memᴰ.append_left (expand g) a.1, a.2)
  holds_some (either f g) (inr m) = let a = holds_some g m in (a.0, Memᴰ.append_right (expand f) a.1, a.2)

  pub some_holds : (f : Formula) (c : Conjunction) → Memᴰ c (expand f) → HoldsAll h q c → Holds h q f
  unfolding Holds expand
  some_holds (literal l n) c m a =
      ⊎_elim (λ (e : c ≡ named l n ∷ []). a (named l n) (subst (Memᴰ (named l n)) (sym e) (Memᴰ.head refl))) (λ k. absurd (Memᴰ.not-nil k)) (Memᴰ.cases_cons m)
  some_holds (both f g) c m a =
      let (d, own, k) = flat_map-mem (λ (d : Conjunction). map (λ (e : Conjunction). d ++ e) (expand g)) c (expand f) m in
      let (e, own', same) = map-mem (λ (e : Conjunction). d ++ e) c (expand g) k in
      (some_holds f d own (λ x k. a x (subst (Memᴰ x) (sym same) (Memᴰ.append_left e k))), some_holds g e own' (λ x k. a x (subst (Memᴰ x) (sym same) (Memᴰ.append_right d k))))
  some_holds (either f g) c m a = ⊎_elim (λ k. inl (some_holds f c k a)) (λ k. inr (some_holds g c k a)) (Memᴰ.append_cases (expand f) m)

-- every literal that a conjunction names is one that the formula names
pub all_named : (has : Letter → ℕ → Bool) (f : Formula) → AllPresent has f → (c : Conjunction) → Memᴰ c (expand f) → (x : Name) → Memᴰ x c → has x.letter x.place ≡ true
unfolding AllPresent expand
all_named has (literal l n) a c m x k =
    ⊎_elim
    (λ (e : c ≡ named l n ∷ []). ⊎_elim (λ (e' : x ≡ named l n). rw e' a) (λ k'. absurd (Memᴰ.not-nil k')) (Memᴰ.cases_cons (subst (Memᴰ x) e k)))
    (λ k'. absurd (Memᴰ.not-nil k')) (Memᴰ.cases_cons m)
all_named has (both f g) a c m x k =
    let (d, own, k₁) = flat_map-mem (λ (d : Conjunction). map (λ (e : Conjunction). d ++ e) (expand g)) c (expand f) m in
    let (e, own', same) = map-mem (λ (e : Conjunction). d ++ e) c (expand g) k₁ in
    ⊎_elim (all_named has f a.0 d own x) (all_named has g a.1 e own' x) (Memᴰ.append_cases d (subst (Memᴰ x) same k))
all_named has (either f g) a c m x k = ⊎_elim (λ m'. all_named has f a.0 c m' x k) (λ m'. all_named has g a.1 c m' x k) (Memᴰ.append_cases (expand f) m)

-- Names

letter_same : (l m : Letter) → letter_byte l ≡ letter_byte m → l ≡ m
letter_same l m e = inner (sym (mark_letter l) ∙ ap mark e ∙ mark_letter m)
  where
    inner : letter l ≡ letter m → l ≡ m
    inner e = cc

pub names-mem : (c : Conjunction) (l : Letter) (n : ℕ) → names c l n ≡ true → Memᴰ (named l n) c
unfolding names
names-mem c l n h =
    let (x, own, e) = any-true _ c h in
    let a : x.letter ≡ l = letter_same x.letter l (eqb-true _ _ (and_left _ _ e)) in
    let b : x.place ≡ n = eqb-true _ _ (and_right _ _ e) in
    subst (λ (y : Name). Memᴰ y c) (ap (λ (m : Letter). named m x.place) a ∙ ap (named l) b) own

pub mem-names : (c : Conjunction) (x : Name) → Memᴰ x c → names c x.letter x.place ≡ true
unfolding names
mem-names c x m =
    any_intro (λ (y : Name). eqb (letter_byte y.letter) (letter_byte x.letter) and eqb y.place x.place) x m
    (and_intro (eq-eqb (letter_byte x.letter) (letter_byte x.letter) refl) (eq-eqb x.place x.place refl))

-- Elements at chosen places

module _ {A : Type 0} where
  at_there : (xs : List A) (k : ℕ) → 1 ≤ k → k ≤ length xs → (x : A) × (at xs k ≡ some x)
  unfolding at
  at_there xs zero l u = absurd (omega arith)
  at_there [] (suc k) l u = absurd (omega arith)
  at_there (x ∷ xs) (suc zero) l u = (x, refl)
  at_there (x ∷ xs) (suc (suc k)) l u = at_there xs (suc k) (omega arith) (omega arith)

  chosen-mem : (p : ℕ → Bool) (n : ℕ) (xs : List A) (x : A) → Memᴰ x (chosen p n xs) → (k : ℕ) × (p (n + k) ≡ true) × (at xs (suc k) ≡ some x)
  unfolding chosen at
  chosen-mem p n [] x m = absurd (Memᴰ.not-nil m)
  chosen-mem p n (y ∷ ys) x m = go (p n) refl (λ k. later (chosen-mem p (suc n) ys x k)) m
    where
      Found : Type 0
      Found = (k : ℕ) × (p (n + k) ≡ true) × (at (y ∷ ys) (suc k) ≡ some x)

      later : (k : ℕ) × (p (suc n + k) ≡ true) × (at ys (suc k) ≡ some x) → Found
      later r = (suc r.0, ap p (let z : n + suc r.0 ≡ suc n + r.0 = omega arith in z) ∙ r.1, r.2)

      go : (b : Bool) → p n ≡ b → (Memᴰ x (chosen p (suc n) ys) → Found) → Memᴰ x (cond b (y ∷ chosen p (suc n) ys) (chosen p (suc n) ys)) → Found
      go true e f m = ⊎_elim (λ (q : x ≡ y). (0, ap p (let z : n + 0 ≡ n = omega arith in z) ∙ e, ap some (sym q))) f (Memᴰ.cases_cons m)
      go false e f m = f m

  chosen_intro : (p : ℕ → Bool) (n : ℕ) (xs : List A) (x : A) (k : ℕ) → p (n + k) ≡ true → at xs (suc k) ≡ some x → Memᴰ x (chosen p n xs)
  unfolding chosen at
  chosen_intro p n [] x k h e = absurd (none-some e)
  chosen_intro p n (y ∷ ys) x zero h e = let q : x ≡ y = cc in rw (ap p (let z : n ≡ n + 0 = omega arith in z) ∙ h) (Memᴰ.head q)
  chosen_intro p n (y ∷ ys) x (suc k) h e = go (p n) (chosen_intro p (suc n) ys x k (ap p (let z : suc n + k ≡ n + suc k = omega arith in z) ∙ h) e)
    where
      go : (b : Bool) → Memᴰ x (chosen p (suc n) ys) → Memᴰ x (cond b (y ∷ chosen p (suc n) ys) (chosen p (suc n) ys))
      go true m = Memᴰ.tail m
      go false m = m

  chosen-length : (p : ℕ → Bool) (n : ℕ) (xs : List A) → length (chosen p n xs) ≤ length xs
  unfolding chosen
  chosen-length p n [] = omega arith
  chosen-length p n (x ∷ xs) = go (p n) (chosen-length p (suc n) xs)
    where
      go : (b : Bool) → length (chosen p (suc n) xs) ≤ length xs → length (cond b (x ∷ chosen p (suc n) xs) (chosen p (suc n) xs)) ≤ suc (length xs)
      go true l = omega arith
      go false l = omega arith

chosen_fewer : (p : ℕ → Bool) (ls : List Literal) → Fewer (chosen p 1 ls) ls
chosen_fewer p ls = record { no_more = chosen-length p 1 ls; own = λ l m. let r = chosen-mem p 1 ls l m in at_own ls (suc r.0) l r.2 }

-- a conjunction's query is a part of the query
pub restricted_part : (q : Query) (c : Conjunction) → Part-of (restricted q c) q
unfolding restricted
restricted_part q c =
    record {
      links = refl;
      entries = refl;
      equalities = chosen_fewer (names c E) q.equalities;
      reachability = chosen_fewer (names c R) q.reachability;
      fields = chosen_fewer (names c D) q.fields;
    }

-- What a conjunction's query means

module _ (h : Heap) (q : Query) (c : Conjunction) where
  -- of one section
  abbrev Section : Letter → Type 0
  Section l = Each (Means h q l) (chosen (names c l) 1 (literals_of q l))

  section_meant : (l : Letter) → HoldsAll h q c → Section l
  unfolding Holds
  section_meant l a x m =
      let (k, e, own) = chosen-mem (names c l) 1 (literals_of q l) x m in
      let (y, own', means) = a (named l (1 + k)) (names-mem c l (1 + k) e) in
      let place : 1 + k ≡ suc k = omega arith in
      subst (Means h q l) (same (sym own' ∙ ap (at (literals_of q l)) place ∙ own)) means
    where
      same : {y z : Literal} → some y ≡ some z → y ≡ z
      same e = cc

  section_holds : (l : Letter) (n : ℕ) → present q l n ≡ true → names c l n ≡ true → Section l → Holds h q (literal l n)
  unfolding Holds present
  section_holds l zero p e a = absurd (let z : 1 ≤ 0 = leb-true 1 0 (and_left _ _ p) in omega arith)
  section_holds l (suc n) p e a =
      let (x, own) = at_there (literals_of q l) (suc n) (leb-true 1 (suc n) (and_left _ _ p)) (leb-true (suc n) (length (literals_of q l)) (and_right _ _ p)) in
      let place : 1 + n ≡ suc n = omega arith in
      (x, own, a x (chosen_intro (names c l) 1 (literals_of q l) x n (ap (names c l) place ∙ e) own))

  section_of : Meets h (restricted q c) → (l : Letter) → Section l
  unfolding restricted chosen
  section_of m E = m.equalities
  section_of m R = m.reachability
  section_of m D = m.fields
  section_of m B = λ l k. absurd (Memᴰ.not-nil k)

  pub meets_bare : Meets h (restricted q c) → Meets h (bare q)
  unfolding restricted bare
  meets_bare m =
      record {
        is_heap = m.is_heap;
        nil_node = m.nil_node;
        equalities = λ l k. absurd (Memᴰ.not-nil k);
        reachability = λ l k. absurd (Memᴰ.not-nil k);
        fields = λ l k. absurd (Memᴰ.not-nil k);
      }

  pub meets_named : ((x : Name) → Memᴰ x c → present q x.letter x.place ≡ true) → Meets h (restricted q c) → HoldsAll h q c
  meets_named p m x own = section_holds x.letter x.place (p x own) (mem-names c x own) (section_of m x.letter)

  pub named_meets : Meets h (bare q) → HoldsAll h q c → Meets h (restricted q c)
  unfolding restricted bare
  named_meets m a =
      record {
        is_heap = m.is_heap;
        nil_node = m.nil_node;
        equalities = section_meant E a;
        reachability = section_meant R a;
        fields = section_meant D a;
      }

pub conjunction_claims : (q : Query) (f : Formula) → AllPresent (present q) f → ConjunctionClaims q f
conjunction_claims q f there =
    record {
      holds_exactly = λ h. (holds_some h q f, λ r. some_holds h q f r.0 r.1 r.2);
      restricted_exactly = λ h c own. (λ m. (meets_bare h q c m, meets_named h q c (all_named (present q) f there c own) m), λ r. named_meets h q c r.0 r.1);
    }

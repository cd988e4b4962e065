-- What the search finds, and that it is first: among all lists that grow by the same rules, in the order of their numbers.
use Prim.Native.Nat.{ℕ, zero, suc, ◌+◌, ◌-◌, ◌≤◌, ◌<◌}
use native.Mathlib.Omega.{arith}
use mathlib.Core.Path.{◌≡◌, refl, sym, ap, ◌∙◌, subst, subst₂}
use mathlib.Core.Logic.{◌⊎◌, ⊎_elim, inl, inr}
use mathlib.Core.Bool.{Bool, true, false, cond, false≢true}
use mathlib.Core.List.{List, [], ◌∷◌, ◌++◌, append_assoc, append-nil}
use mathlib.Core.Option.{Option, none, some}
use lib.ListN.{length}
use Rattle.logic.specs.Search.{from, first_of}
use Rattle.theory.proofs.Basics.Search.{none-some, or_else_cases, first_of-none, from_intro}
use Rattle.theory.proofs.Basics.Compare.{eq_cases, le_cases}
use Rattle.between_search.specs.Search.{seek}
use Rattle.between_search.specs.Promise.{Before, lower, same}

-- The order

before_self_of : {us ws : List ℕ} → Before us ws → us ≡ ws → ⊥
before_self_of (lower l) e = grind arith
before_self_of (same {xs = us} {ys = ws} b) e = let d : us ≡ ws = cc in before_self_of b d

pub before_self : (xs : List ℕ) → Before xs xs → ⊥
before_self xs b = before_self_of b refl

-- behind one front, the next numbers decide
before_next_of : {us ws : List ℕ} → Before us ws → (xs : List ℕ) (v w : ℕ) (ys zs : List ℕ) → us ≡ xs ++ (v ∷ ys) → ws ≡ xs ++ (w ∷ zs) → v ≤ w
before_next_of (lower l) [] v w ys zs p q = grind arith
before_next_of (same b) [] v w ys zs p q = grind arith
before_next_of (lower l) (x ∷ xs) v w ys zs p q = grind arith
before_next_of (same {xs = us} {ys = ws} b) (x ∷ xs) v w ys zs p q =
    let e : us ≡ xs ++ (v ∷ ys) = cc in
    let d : ws ≡ xs ++ (w ∷ zs) = cc in before_next_of b xs v w ys zs e d

pub before_next : (xs : List ℕ) (v w : ℕ) (ys zs : List ℕ) → Before (xs ++ (v ∷ ys)) (xs ++ (w ∷ zs)) → v ≤ w
before_next xs v w ys zs b = before_next_of b xs v w ys zs refl refl

-- lists of one length, each with more behind it
pub before-append : (xs ys xs' ys' : List ℕ) → length xs ≡ length xs' → Before (xs ++ ys) (xs' ++ ys') → Before xs xs' ⊎ ((xs ≡ xs') × Before ys ys')
before-append [] ys [] ys' e b = inr (refl, b)
before-append [] ys (x ∷ xs') ys' e b = absurd (omega arith)
before-append (x ∷ xs) ys [] ys' e b = absurd (omega arith)
before-append (x ∷ xs) ys (y ∷ xs') ys' e (lower l) = inl (lower l)
before-append (x ∷ xs) ys (y ∷ xs') ys' e (same b) = go (before-append xs ys xs' ys' (omega arith) b)
  where
    go : {x : ℕ} → Before xs xs' ⊎ ((xs ≡ xs') × Before ys ys') → Before (x ∷ xs) (x ∷ xs') ⊎ ((◌≡◌ {A = List ℕ} (x ∷ xs) (x ∷ xs')) × Before ys ys')
    go (inl c) = inl (same c)
    go {x} (inr c) = inr (ap (λ (zs : List ℕ). x ∷ zs) c.0, c.1)

-- the first number at which f gives an answer
pub first_of_lowest : {B : Type 0} (f : ℕ → Option B) (k i : ℕ) (b : B) → first_of f (from k i) ≡ some b → (v : ℕ) × (i ≤ v) × (v < i + k) × (f v ≡ some b) × ((j : ℕ) → i ≤ j → j < v → f j ≡ none)
unfolding first_of from
first_of_lowest f zero i b h = absurd (none-some h)
first_of_lowest f (suc k) i b h = go (or_else_cases (f i) (first_of f (from k (suc i))) b h) (λ e. first_of_lowest f k (suc i) b e)
  where
    go : (f i ≡ some b) ⊎ ((f i ≡ none) × (first_of f (from k (suc i)) ≡ some b)) →
        (first_of f (from k (suc i)) ≡ some b → (v : ℕ) × (suc i ≤ v) × (v < suc i + k) × (f v ≡ some b) × ((j : ℕ) → suc i ≤ j → j < v → f j ≡ none)) →
        (v : ℕ) × (i ≤ v) × (v < i + suc k) × (f v ≡ some b) × ((j : ℕ) → i ≤ j → j < v → f j ≡ none)
    go (inl e) ih = (i, omega arith, omega arith, e, λ j l u. absurd (omega arith))
    go (inr e) ih =
        let r = ih e.1 in
        (r.0, omega (arith, r.1), omega (arith, r.2), r.3, λ j l u. ⊎_elim (λ q. ap f (sym q) ∙ e.0) (λ d. r.4 j (omega (arith, l, d.0)) u) (eq_cases i j))

module _ (lowest highest : ℕ → List ℕ → ℕ) (fits : ℕ → List ℕ → Bool) where
  -- ys is xs with k numbers more from place i on, each within its bounds and fitting
  pub data Grown : ℕ → ℕ → List ℕ → List ℕ → Type 0 where
    whole : {i : ℕ} {xs : List ℕ} → Grown zero i xs xs
    more : {k i : ℕ} {xs ys : List ℕ} (v : ℕ) → lowest i xs ≤ v → v ≤ highest i xs → fits i (xs ++ (v ∷ [])) ≡ true → Grown k (suc i) (xs ++ (v ∷ [])) ys → Grown (suc k) i xs ys

  pub grown_front : {k i : ℕ} {xs ys : List ℕ} → Grown k i xs ys → (zs : List ℕ) × (ys ≡ xs ++ zs) × (length zs ≡ k)
  grown_front {xs = xs} whole = ([], sym (append-nil xs), refl)
  grown_front {xs = xs} (more v l u f g) =
      let r = grown_front g in
      (v ∷ r.0, r.1 ∙ append_assoc xs (v ∷ []) r.0, ap suc r.2)

  module _ {A : Type 0} (found : List ℕ → Option A) where
    abbrev sought : ℕ → ℕ → List ℕ → Option A
    sought = seek lowest highest fits found

    -- what is looked for with v as the next number
    abbrev with_next : ℕ → ℕ → List ℕ → ℕ → Option A
    with_next k i xs v = cond (fits i (xs ++ (v ∷ []))) (sought k (suc i) (xs ++ (v ∷ []))) none

    fitting : {b : Bool} {o o' : Option A} → b ≡ true → cond b o none ≡ o' → o ≡ o'
    fitting {b = true} e h = h
    fitting {b = false} e h = absurd (false≢true e)

    fitted : {b : Bool} {o : Option A} {a : A} → cond b o none ≡ some a → (b ≡ true) × (o ≡ some a)
    fitted {b = true} h = (refl, h)
    fitted {b = false} h = absurd (none-some h)

    -- nothing is found: nothing that grows by these rules is answered
    pub seek-none : (k i : ℕ) (xs : List ℕ) → sought k i xs ≡ none → (ys : List ℕ) → Grown k i xs ys → found ys ≡ none
    unfolding seek
    seek-none zero i xs h ys whole = h
    seek-none (suc k) i xs h ys (more v l u f g) =
        seek-none k (suc i) (xs ++ (v ∷ []))
        (fitting f (first_of-none (with_next k i xs) v h (from_intro (highest i xs + 1 - lowest i xs) (lowest i xs) v l (omega arith)))) ys g

    -- what is found is answered, and nothing before it is
    pub record First (k i : ℕ) (xs : List ℕ) (a : A) : Type 0 where
      pub list : List ℕ
      pub grown : Grown k i xs list
      pub answered : found list ≡ some a
      pub first : (zs : List ℕ) → Grown k i xs zs → Before zs list → found zs ≡ none

    pub seek-first : (k i : ℕ) (xs : List ℕ) (a : A) → sought k i xs ≡ some a → First k i xs a
    unfolding seek
    seek-first zero i xs a h = record { list = xs; grown = whole; answered = h; first = λ zs g b. none_before g b }
      where
        none_before : {zs : List ℕ} → Grown zero i xs zs → Before zs xs → found zs ≡ none
        none_before whole b = absurd (before_self xs b)
    seek-first (suc k) i xs a h =
        let r = first_of_lowest (with_next k i xs) (highest i xs + 1 - lowest i xs) (lowest i xs) a h in
        let w = fitted r.3 in
        go r.0 r.1 (omega (arith, r.1, r.2)) w.0 r.4 (seek-first k (suc i) (xs ++ (r.0 ∷ [])) a w.1)
      where
        go : (v : ℕ) → lowest i xs ≤ v → v ≤ highest i xs → fits i (xs ++ (v ∷ [])) ≡ true →
            ((j : ℕ) → lowest i xs ≤ j → j < v → with_next k i xs j ≡ none) → First k (suc i) (xs ++ (v ∷ [])) a → First (suc k) i xs a
        go v l u f before ih = record { list = ih.list; grown = more v l u f ih.grown; answered = ih.answered; first = λ zs g b. none_before g b }
          where
            none_before : {zs : List ℕ} → Grown (suc k) i xs zs → Before zs ih.list → found zs ≡ none
            none_before {zs} (more w l' u' f' g) b = at (le_cases v w)
              where
                at : (v ≤ w) ⊎ (w < v) → found zs ≡ none
                at (inr c) = seek-none k (suc i) (xs ++ (w ∷ [])) (fitting f' (before w l' c)) zs g
                at (inl c) =
                    let mine = grown_front ih.grown in
                    let other = grown_front g in
                    let m = before_next xs w v other.0 mine.0 (subst₂ Before (other.1 ∙ append_assoc xs (w ∷ []) other.0) (mine.1 ∙ append_assoc xs (v ∷ []) mine.0) b) in
                    let e : w ≡ v = omega (arith, m, c) in
                    ih.first zs (subst (λ (x : ℕ). Grown k (suc i) (xs ++ (x ∷ [])) zs) e g) b

-- Laws of the tests and searches. Callers use these and never the definitions' text.
use Prim.Native.Nat.{ℕ, zero, suc, ◌+◌, ◌≤◌, ◌<◌}
use native.Mathlib.Omega.{arith}
use native.Mathlib.Nat.{eq-or-lt_of_le}
use mathlib.Core.Path.{◌≡◌, refl, sym, ap, ap₂, ◌∙◌, subst}
use mathlib.Core.Logic.{◌⊎◌, ⊎_elim, inl, inr}
use mathlib.Core.Bool.{Bool, true, false, not, cond, true≢false, false≢true}
use mathlib.Core.List.Memᴰ
use mathlib.Core.List.{List, [], ◌∷◌, ◌++◌, map, append_assoc, Memᴰ}
use mathlib.Core.Option.{Option, none, some}
use Rattle.logic.specs.Search.{◌and◌, ◌or◌, from, keep, any, all, select, at, is_some, or_else, first_of, find, flat_map}

-- Booleans

pub bool_cases : (b : Bool) → (b ≡ true) ⊎ (b ≡ false)
bool_cases true = inl refl
bool_cases false = inr refl

pub true-false : {b : Bool} → b ≡ true → b ≡ false → ⊥
true-false p q = true≢false (sym p ∙ q)

pub not-true : {b : Bool} → not b ≡ true → b ≡ false
not-true {b = true} p = absurd (false≢true p)
not-true {b = false} p = refl

pub not_intro : {b : Bool} → b ≡ false → not b ≡ true
not_intro p = ap not p

pub not_of : {b : Bool} → (b ≡ true → ⊥) → b ≡ false
not_of {b = true} f = absurd (f refl)
not_of {b = false} f = refl

pub and_left : (a b : Bool) → a and b ≡ true → a ≡ true
unfolding ◌and◌
and_left true b p = refl
and_left false b p = p

pub and_right : (a b : Bool) → a and b ≡ true → b ≡ true
unfolding ◌and◌
and_right true b p = p
and_right false b p = absurd (false≢true p)

pub and_intro : {a b : Bool} → a ≡ true → b ≡ true → a and b ≡ true
unfolding ◌and◌
and_intro {a = true} p q = q
and_intro {a = false} p q = p

pub and-false_cases : (a b : Bool) → a and b ≡ false → (a ≡ false) ⊎ (b ≡ false)
unfolding ◌and◌
and-false_cases true b p = inr p
and-false_cases false b p = inl refl

pub or_cases : (a b : Bool) → a or b ≡ true → (a ≡ true) ⊎ (b ≡ true)
unfolding ◌or◌
or_cases true b p = inl refl
or_cases false b p = inr p

pub or_left : {a : Bool} (b : Bool) → a ≡ true → a or b ≡ true
unfolding ◌or◌
or_left {a = true} b p = refl
or_left {a = false} b p = absurd (false≢true p)

pub or_right : (a : Bool) {b : Bool} → b ≡ true → a or b ≡ true
unfolding ◌or◌
or_right true p = refl
or_right false p = p

pub and-false : (a : Bool) → a and false ≡ false
unfolding ◌and◌
and-false true = refl
and-false false = refl

pub and-true : (a : Bool) → a and true ≡ a
unfolding ◌and◌
and-true true = refl
and-true false = refl

pub or-false : (a : Bool) → a or false ≡ a
unfolding ◌or◌
or-false true = refl
or-false false = refl

pub neither : (a b : Bool) → a or b ≡ false → (a ≡ false) × (b ≡ false)
unfolding ◌or◌
neither true b p = absurd (true≢false p)
neither false b p = (refl, p)

-- Searches

pub none-some : {A : Type 0} {a : A} → Path (Option A) none (some a) → ⊥
none-some e = let z : ◌≡◌ {A = ℕ} 0 1 = cc in omega arith

pub keep_some : {A : Type 0} (b : Bool) {a c : A} → keep b a ≡ some c → (b ≡ true) × (a ≡ c)
unfolding keep
keep_some true e = (refl, cc)
keep_some false e = absurd (none-some e)

pub keep-none : {A : Type 0} (b : Bool) (a : A) → keep b a ≡ none → b ≡ false
unfolding keep
keep-none true a e = absurd (none-some (sym e))
keep-none false a e = refl

pub keep-true : {A : Type 0} {b : Bool} (a : A) → b ≡ true → keep b a ≡ some a
unfolding keep
keep-true a e = rw e

pub keep-false : {A : Type 0} {b : Bool} (a : A) → b ≡ false → keep b a ≡ none
unfolding keep
keep-false a e = rw e

pub is_some-true : {A : Type 0} (o : Option A) → is_some o ≡ true → (a : A) × (o ≡ some a)
unfolding is_some
is_some-true none h = absurd (false≢true h)
is_some-true (some a) h = (a, refl)

pub is_some-false : {A : Type 0} (o : Option A) → is_some o ≡ false → o ≡ none
unfolding is_some
is_some-false none h = refl
is_some-false (some a) h = absurd (true≢false h)

module _ {A : Type 0} (p : A → Bool) where
  pub any-true : (xs : List A) → any p xs ≡ true → (x : A) × Memᴰ x xs × (p x ≡ true)
  unfolding any
  any-true [] h = absurd (false≢true h)
  any-true (x ∷ xs) h =
      ⊎_elim (λ e. (x, Memᴰ.head refl, e)) (λ e. let r = any-true xs e in (r.0, Memᴰ.tail r.1, r.2)) (or_cases (p x) (any p xs) h)

  pub any_intro : (x : A) {xs : List A} → Memᴰ x xs → p x ≡ true → any p xs ≡ true
  unfolding any
  any_intro x (Memᴰ.head {x = y} {xs = xs} e) h = or_left (any p xs) (ap p (sym e) ∙ h)
  any_intro x (Memᴰ.tail {x = y} {xs = xs} m) h = or_right (p y) (any_intro x m h)

  pub any_false : {xs : List A} (x : A) → any p xs ≡ false → Memᴰ x xs → p x ≡ false
  any_false x h m = not_of (λ e. true-false (any_intro x m e) h)

  pub all_true : (x : A) {xs : List A} → all p xs ≡ true → Memᴰ x xs → p x ≡ true
  unfolding all
  all_true x h (Memᴰ.head {x = y} {xs = xs} e) = ap p e ∙ and_left (p y) (all p xs) h
  all_true x h (Memᴰ.tail {x = y} {xs = xs} m) = all_true x (and_right (p y) (all p xs) h) m

  pub all_intro : (xs : List A) → ((x : A) → Memᴰ x xs → p x ≡ true) → all p xs ≡ true
  unfolding all
  all_intro [] h = refl
  all_intro (x ∷ xs) h = and_intro (h x (Memᴰ.head refl)) (all_intro xs (λ y m. h y (Memᴰ.tail m)))

  pub all_append : (xs ys : List A) → all p xs ≡ true → all p ys ≡ true → all p (xs ++ ys) ≡ true
  all_append xs ys h k = all_intro (xs ++ ys) (λ x m. ⊎_elim (all_true x h) (all_true x k) (Memᴰ.append_cases xs m))

  pub all-false : (xs : List A) → all p xs ≡ false → (x : A) × Memᴰ x xs × (p x ≡ false)
  unfolding all
  all-false [] h = absurd (true≢false h)
  all-false (x ∷ xs) h =
      ⊎_elim (λ e. (x, Memᴰ.head refl, e)) (λ e. let r = all-false xs e in (r.0, Memᴰ.tail r.1, r.2)) (and-false_cases (p x) (all p xs) h)

  pub select-mem : (x : A) (xs : List A) → Memᴰ x (select p xs) → Memᴰ x xs × (p x ≡ true)
  unfolding select
  select-mem x [] m = absurd (Memᴰ.not-nil m)
  select-mem x (y ∷ ys) m = go (p y) refl (λ n. select-mem x ys n) m
    where
      go : (b : Bool) → p y ≡ b → (Memᴰ x (select p ys) → Memᴰ x ys × (p x ≡ true)) → Memᴰ x (cond b (y ∷ select p ys) (select p ys)) → Memᴰ x (y ∷ ys) × (p x ≡ true)
      go true e ih m = ⊎_elim (λ q. (Memᴰ.head q, ap p q ∙ e)) (λ n. let r = ih n in (Memᴰ.tail r.0, r.1)) (Memᴰ.cases_cons m)
      go false e ih m = let r = ih m in (Memᴰ.tail r.0, r.1)

  pub select_intro : (x : A) {xs : List A} → Memᴰ x xs → p x ≡ true → Memᴰ x (select p xs)
  unfolding select
  select_intro x (Memᴰ.head {x = y} {xs = xs} e) h = rw (ap p (sym e) ∙ h) (Memᴰ.head e)
  select_intro x (Memᴰ.tail {x = y} {xs = xs} m) h = go (p y) (select_intro x m h)
    where
      go : (b : Bool) → Memᴰ x (select p xs) → Memᴰ x (cond b (y ∷ select p xs) (select p xs))
      go true n = Memᴰ.tail n
      go false n = n

pub any_alike : {A : Type 0} (p q : A → Bool) (xs : List A) → ((x : A) → Memᴰ x xs → p x ≡ q x) → any p xs ≡ any q xs
unfolding any
any_alike p q [] h = refl
any_alike p q (x ∷ xs) h = ap₂ (λ (a b : Bool). a or b) (h x (Memᴰ.head refl)) (any_alike p q xs (λ y m. h y (Memᴰ.tail m)))

pub or_else_cases : {A : Type 0} (o o' : Option A) (a : A) → or_else o o' ≡ some a → (o ≡ some a) ⊎ ((o ≡ none) × (o' ≡ some a))
unfolding or_else
or_else_cases none o' a h = inr (refl, h)
or_else_cases (some b) o' a h = inl h

or_else_assoc : {A : Type 0} (o o' o'' : Option A) → or_else o (or_else o' o'') ≡ or_else (or_else o o') o''
unfolding or_else
or_else_assoc none o' o'' = refl
or_else_assoc (some a) o' o'' = refl

pub or_else-none : {A : Type 0} (o o' : Option A) → or_else o o' ≡ none → (o ≡ none) × (o' ≡ none)
unfolding or_else
or_else-none none o' h = (refl, h)
or_else-none (some b) o' h = absurd (none-some (sym h))

module _ {A B : Type 0} (f : A → Option B) where
  pub first_of-some : (xs : List A) (b : B) → first_of f xs ≡ some b → (x : A) × Memᴰ x xs × (f x ≡ some b)
  unfolding first_of
  first_of-some [] b h = absurd (none-some h)
  first_of-some (x ∷ xs) b h =
      ⊎_elim (λ e. (x, Memᴰ.head refl, e)) (λ e. let r = first_of-some xs b e.1 in (r.0, Memᴰ.tail r.1, r.2))
      (or_else_cases (f x) (first_of f xs) b h)

  pub first_of-none : (x : A) {xs : List A} → first_of f xs ≡ none → Memᴰ x xs → f x ≡ none
  unfolding first_of
  first_of-none x h (Memᴰ.head {x = y} {xs = xs} e) = ap f e ∙ (or_else-none (f y) (first_of f xs) h).0
  first_of-none x h (Memᴰ.tail {x = y} {xs = xs} m) = first_of-none x (or_else-none (f y) (first_of f xs) h).1 m

  -- a search that finds nothing, from each element
  pub first_of_empty : (xs : List A) → ((x : A) → Memᴰ x xs → f x ≡ none) → first_of f xs ≡ none
  unfolding first_of or_else
  first_of_empty [] h = refl
  first_of_empty (x ∷ xs) h = rw (h x (Memᴰ.head refl)) (first_of_empty xs (λ y m. h y (Memᴰ.tail m)))

  -- a search passes over elements that answer nothing
  pub first_of-append : (xs ys : List A) → first_of f (xs ++ ys) ≡ or_else (first_of f xs) (first_of f ys)
  unfolding first_of or_else
  first_of-append [] ys = refl
  first_of-append (x ∷ xs) ys = rw (first_of-append xs ys) (or_else_assoc (f x) (first_of f xs) (first_of f ys))

  pub first_of_skip : (xs ys : List A) → ((x : A) → Memᴰ x xs → f x ≡ none) → first_of f (xs ++ ys) ≡ first_of f ys
  unfolding first_of or_else
  first_of_skip [] ys h = refl
  first_of_skip (x ∷ xs) ys h = rw (h x (Memᴰ.head refl)) (first_of_skip xs ys (λ y m. h y (Memᴰ.tail m)))

-- searches that answer alike on what they meet
pub first_of_alike : {A B : Type 0} (f g : A → Option B) (xs : List A) → ((x : A) → Memᴰ x xs → f x ≡ g x) → first_of f xs ≡ first_of g xs
unfolding first_of
first_of_alike f g [] h = refl
first_of_alike f g (x ∷ xs) h = ap₂ or_else (h x (Memᴰ.head refl)) (first_of_alike f g xs (λ y m. h y (Memᴰ.tail m)))

module _ {A : Type 0} (p : A → Bool) where
  pub find-some : (xs : List A) (a : A) → find p xs ≡ some a → Memᴰ a xs × (p a ≡ true)
  unfolding find
  find-some xs a h = go (first_of-some (λ x. keep (p x) x) xs a h)
    where
      go : (x : A) × Memᴰ x xs × (keep (p x) x ≡ some a) → Memᴰ a xs × (p a ≡ true)
      go r = let k = keep_some (p r.0) r.2 in (subst (λ (y : A). Memᴰ y xs) k.1 r.1, subst (λ (y : A). p y ≡ true) k.1 k.0)

  pub find_none : {xs : List A} (a : A) → find p xs ≡ none → Memᴰ a xs → p a ≡ false
  unfolding find
  find_none a h m = keep-none (p a) a (first_of-none (λ x. keep (p x) x) a h m)

-- Lists of numbers, and lists made of lists

pub from-mem : (k i x : ℕ) → Memᴰ x (from k i) → (i ≤ x) × (x < i + k)
unfolding from
from-mem zero i x m = absurd (Memᴰ.not-nil m)
from-mem (suc k) i x m = ⊎_elim (λ e. (omega arith, omega arith)) (λ n. let r = from-mem k (suc i) x n in (omega arith, omega arith)) (Memᴰ.cases_cons m)

pub from_intro : (k i x : ℕ) → i ≤ x → x < i + k → Memᴰ x (from k i)
unfolding from
from_intro zero i x l h = absurd (omega arith)
from_intro (suc k) i x l h = ⊎_elim (λ e. Memᴰ.head (sym e)) (λ lt. Memᴰ.tail (from_intro k (suc i) x lt (omega arith))) (eq-or-lt_of_le l)

-- what a search of ascending numbers finds is the lowest
pub find_lowest : (p : ℕ → Bool) (k i x : ℕ) → find p (from k i) ≡ some x → (j : ℕ) → i ≤ j → j < x → p j ≡ false
unfolding find first_of from
find_lowest p zero i x h j l r = absurd (none-some h)
find_lowest p (suc k) i x h j l r =
    ⊎_elim
    (λ e. let q = keep_some (p i) e in absurd (omega (arith, q.1)))
    (λ e. ⊎_elim (λ q. ap p (sym q) ∙ keep-none (p i) i e.0) (λ q. find_lowest p k (suc i) x e.1 j q r) (eq-or-lt_of_le l))
    (or_else_cases (keep (p i) i) (find p (from k (suc i))) x h)

pub flat_map-append : {A B : Type 0} (g : A → List B) (xs ys : List A) → flat_map g (xs ++ ys) ≡ flat_map g xs ++ flat_map g ys
unfolding flat_map
flat_map-append g [] ys = refl
flat_map-append {B} g (x ∷ xs) ys = ap (λ (zs : List B). g x ++ zs) (flat_map-append g xs ys) ∙ sym (append_assoc (g x) (flat_map g xs) (flat_map g ys))

module _ {A B : Type 0} (f : A → List B) where
  pub flat_map-mem : (b : B) (xs : List A) → Memᴰ b (flat_map f xs) → (x : A) × Memᴰ x xs × Memᴰ b (f x)
  unfolding flat_map
  flat_map-mem b [] m = absurd (Memᴰ.not-nil m)
  flat_map-mem b (x ∷ xs) m = ⊎_elim (λ n. (x, Memᴰ.head refl, n)) (λ n. let r = flat_map-mem b xs n in (r.0, Memᴰ.tail r.1, r.2)) (Memᴰ.append_cases (f x) m)

  pub flat_map_intro : (x : A) {xs : List A} (b : B) → Memᴰ x xs → Memᴰ b (f x) → Memᴰ b (flat_map f xs)
  unfolding flat_map
  flat_map_intro x b (Memᴰ.head {x = y} {xs = xs} e) n = Memᴰ.append_left (flat_map f xs) (subst (λ (z : A). Memᴰ b (f z)) e n)
  flat_map_intro x b (Memᴰ.tail {x = y} {xs = xs} m) n = Memᴰ.append_right (f y) (flat_map_intro x b m n)

module _ {A B : Type 0} (f : A → B) where
  pub map-mem : (b : B) (xs : List A) → Memᴰ b (map f xs) → (x : A) × Memᴰ x xs × (b ≡ f x)
  map-mem b [] m = absurd (Memᴰ.not-nil m)
  map-mem b (x ∷ xs) m = ⊎_elim (λ e. (x, Memᴰ.head refl, e)) (λ n. let r = map-mem b xs n in (r.0, Memᴰ.tail r.1, r.2)) (Memᴰ.cases_cons m)

  pub map_intro : (x : A) {xs : List A} → Memᴰ x xs → Memᴰ (f x) (map f xs)
  map_intro x (Memᴰ.head {x = y} {xs = xs} e) = Memᴰ.head (ap f e)
  map_intro x (Memᴰ.tail {x = y} {xs = xs} m) = Memᴰ.tail (map_intro x m)

-- an element of a list stands at its place in a longer one too
pub at_left : {A : Type 0} (xs ys : List A) (i : ℕ) (a : A) → at xs i ≡ some a → at (xs ++ ys) i ≡ some a
unfolding at
at_left xs ys zero a h = absurd (none-some h)
at_left [] ys (suc i) a h = absurd (none-some h)
at_left (x ∷ xs) ys (suc zero) a h = h
at_left (x ∷ xs) ys (suc (suc i)) a h = at_left xs ys (suc i) a h

-- Tests and searches over finite lists. Every definition of this crate is written with these. What a `let` binds is computed only
-- where it is read, so that a search stops at what it finds.
use Rattle.std.specs.Prelude.{ℕ, zero, suc, Bool, true, false, cond, List, [], ◌∷◌, ◌++◌}
use Rattle.std.proofs.Math.Option.{Option, none, some}

infixl 35 ◌and◌
infixl 30 ◌or◌
unfoldable pub ◌and◌ : Bool → Bool → Bool
true and b = b
false and b = false

unfoldable pub ◌or◌ : Bool → Bool → Bool
true or b = true
false or b = b

-- the k numbers from i on, ascending
unfoldable pub from : ℕ → ℕ → List ℕ
from zero i = []
from (suc k) i = i ∷ from k (suc i)

-- a where the test holds
unfoldable pub keep : {A : Type 0} → Bool → A → Option A
keep true a = some a
keep false a = none

module _ {A : Type 0} where
  -- some element passes the test; every element does
  unfoldable pub any : (A → Bool) → List A → Bool
  any p [] = false
  any p (x ∷ xs) = let rest : Bool = any p xs in p x or rest

  unfoldable pub all : (A → Bool) → List A → Bool
  all p [] = true
  all p (x ∷ xs) = let rest : Bool = all p xs in p x and rest

  -- the elements that pass the test, in order
  unfoldable pub select : (A → Bool) → List A → List A
  select p [] = []
  select p (x ∷ xs) = cond (p x) (x ∷ select p xs) (select p xs)

  -- the element at a place counted from 1
  unfoldable pub at : List A → ℕ → Option A
  at xs zero = none
  at [] (suc i) = none
  at (x ∷ xs) (suc zero) = some x
  at (x ∷ xs) (suc (suc i)) = at xs (suc i)

  -- where there is an element, it passes the test
  unfoldable pub holds_of : Option A → (A → Bool) → Bool
  holds_of none p = false
  holds_of (some a) p = p a

  unfoldable pub is_some : Option A → Bool
  is_some none = false
  is_some (some a) = true

  unfoldable pub or_else : Option A → Option A → Option A
  or_else none o = o
  or_else (some a) o = some a

module _ {A B : Type 0} where
  -- the first answer that f gives along a list
  unfoldable pub first_of : (A → Option B) → List A → Option B
  first_of f [] = none
  first_of f (x ∷ xs) = let rest : Option B = first_of f xs in or_else (f x) rest

  unfoldable pub flat_map : (A → List B) → List A → List B
  flat_map f [] = []
  flat_map f (x ∷ xs) = f x ++ flat_map f xs

-- the first element that passes the test
unfoldable pub find : {A : Type 0} → (A → Bool) → List A → Option A
find p = first_of (λ a. keep (p a) a)

-- What is asked for, against all lists: the smallest order list that keeps every pair, and the shortest ring (02, R-6).
use Rattle.std.specs.Prelude.{ℕ, suc, ◌≤◌, ◌≡◌, Bool, true, false, not, cond, List, [], ◌∷◌, length, eqb, ltb}
use Rattle.logic.specs.Search.{◌and◌, ◌or◌, any, all}
use Rattle.logic.specs.Query.{is_order}
use Rattle.ordering.specs.Sheet.{Pair, paired}

-- how many numbers of a list stand before r
unfoldable pub place_of : List ℕ → ℕ → ℕ
place_of [] r = 0
place_of (x ∷ xs) r = let rest : ℕ = suc (place_of xs r) in cond (eqb x r) 0 rest

-- "keeps every pair": the earlier rule stands before the later
unfoldable pub keeps : List Pair → List ℕ → Bool
keeps ps order = all (λ p. ltb (place_of order p.earlier) (place_of order p.later)) ps

-- "compared number by number"
unfoldable pub smaller : List ℕ → List ℕ → Bool
smaller [] ys = false
smaller (x ∷ xs) [] = false
smaller (x ∷ xs) (y ∷ ys) = let rest : Bool = smaller xs ys in ltb x y or (eqb x y and rest)

-- "the smallest order list that keeps every pair"
pub record SmallestOrder (ps : List Pair) (order : List ℕ) : Type 0 where
  pub is_order_lem : is_order order ≡ true
  pub keeps_all : keeps ps order ≡ true
  pub smallest : (l : List ℕ) → is_order l ≡ true → keeps ps l ≡ true → smaller l order ≡ false

-- ""none" exactly if no list keeps them all"
abbrev pub NoOrder : List Pair → Type 0
NoOrder ps = (l : List ℕ) → is_order l ≡ true → keeps ps l ≡ false

-- pairs lead from a through a list of numbers to z
unfoldable pub linked : List Pair → ℕ → List ℕ → ℕ → Bool
linked ps a [] z = paired ps a z
linked ps a (x ∷ xs) z = let rest : Bool = linked ps x xs z in paired ps a x and rest

-- "each once"
unfoldable pub each_once : List ℕ → Bool
each_once [] = true
each_once (x ∷ xs) = let rest : Bool = each_once xs in not (any (eqb x) xs) and rest

-- A "ring of pairs as rule numbers": pairs lead from each number to the next and from the last to the first. "A rule paired with
-- itself is a ring of one."
unfoldable pub is_ring : List Pair → List ℕ → Bool
is_ring ps [] = false
is_ring ps (x ∷ xs) = linked ps x xs x and each_once (x ∷ xs)

-- "from its lowest"
unfoldable pub from_lowest : List ℕ → Bool
from_lowest [] = true
from_lowest (x ∷ xs) = all (ltb x) xs

-- "the shortest ring of pairs .. from its lowest ..; among equals the smallest likewise"
pub record ShortestRing (ps : List Pair) (ring : List ℕ) : Type 0 where
  pub is_ring_lem : is_ring ps ring ≡ true
  pub from_lowest_lem : from_lowest ring ≡ true
  pub shortest : (l : List ℕ) → is_ring ps l ≡ true → length ring ≤ length l
  pub smallest : (l : List ℕ) → is_ring ps l ≡ true → from_lowest l ≡ true → length l ≡ length ring → smaller l ring ≡ false

-- How the order list and the ring are found. That they are what `Kept` asks for is a theorem (proofs/Promised).
use Rattle.std.specs.Prelude.{ℕ, zero, suc, ◌-◌, Bool, not, List, [], ◌∷◌, ◌++◌, eqb}
use Rattle.std.proofs.Math.Option.{Option, none, some, Option-elim}
use Rattle.logic.specs.Search.{◌and◌, ◌or◌, from, any, all, find, first_of}
use Rattle.ordering.specs.Sheet.{Pair, paired}

-- a pair does not hold r back: r is not its later rule, or its earlier one is placed
unfoldable pub free : List ℕ → ℕ → Pair → Bool
free placed r p = not (eqb p.later r) or any (eqb p.earlier) placed

-- r can stand next after the numbers placed so far: it is none of them, and no pair holds it back
unfoldable pub ready : List Pair → List ℕ → ℕ → Bool
ready ps placed r = let unheld : Bool = all (free placed r) ps in not (any (eqb r) placed) and unheld

unfoldable pub next_rule : List Pair → List ℕ → Option ℕ
next_rule ps placed = find (ready ps placed) (from 8 1)

-- the list with k numbers more, each the lowest that can stand next
unfoldable pub grow : List Pair → ℕ → List ℕ → Option (List ℕ)
grow ps zero placed = some placed
grow ps (suc k) placed = Option-elim (next_rule ps placed) none (λ r. grow ps k (placed ++ (r ∷ [])))

-- k pairs lead from a to z, through any numbers
unfoldable pub leads : List Pair → ℕ → ℕ → ℕ → Bool
leads ps zero a z = eqb a z
leads ps (suc k) a z = any (λ p. let rest : Bool = leads ps k p.later z in eqb p.earlier a and rest) ps

-- a pair leads from a to r, and k pairs from there to z
unfoldable pub onward : List Pair → ℕ → ℕ → ℕ → ℕ → Bool
onward ps z k a r = let rest : Bool = leads ps k r z in paired ps a r and rest

unfoldable pub next_on : List Pair → ℕ → ℕ → ℕ → ℕ
next_on ps z k a = Option-elim (find (onward ps z k a) (from 8 1)) 0 (λ r. r)

-- k numbers after a, each the lowest from which the rest of the way leads to z
unfoldable pub follow : List Pair → ℕ → ℕ → ℕ → List ℕ
follow ps z zero a = []
follow ps z (suc k) a = let r : ℕ = next_on ps z (suc k) a in r ∷ follow ps z k r

-- the ring of k numbers from the lowest start from which k pairs lead back, and the first that there is
unfoldable pub ring_start : List Pair → ℕ → Option ℕ
ring_start ps k = find (λ s. leads ps k s s) (from 8 1)

unfoldable pub ring_of : List Pair → ℕ → Option (List ℕ)
ring_of ps k = Option-elim (ring_start ps k) none (λ s. some (s ∷ follow ps s (k - 1) s))

unfoldable pub shown_ring : List Pair → List ℕ
shown_ring ps = Option-elim (first_of (ring_of ps) (from 8 1)) [] (λ ring. ring)

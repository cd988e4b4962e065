-- The bytes of an entry, by the kind of its section, and the lowest one that meets a refusal.
use Rattle.std.specs.Prelude.{ℕ, ◌+◌, ◌≡◌, Bool, true, ◌&&◌, ◌||◌, List, [], ◌∷◌, get_or, drop, eqb}
use Rattle.std.specs.Prelude as Found
use Rattle.std.proofs.Math.Option.{Option, none, some}
use Rattle.logic.specs.Search.{from, keep, flat_map}
use Rattle.logic.specs.Query.{Role, entry_role, sign_role, term_role, number_role, count_role, role_fault}
use Rattle.byte_tests.specs.Meets.{counted, meets}
use Rattle.entries.specs.declared.Kind.{Kind}
use Rattle.entries.specs.declared.Kind.TheVariants as kind

-- the bytes of an entry
abbrev pub width_of : Kind → ℕ
width_of kind.Terms = 1
width_of kind.Pairs = 3
width_of kind.Fields = 3
width_of kind.Booleans = 2
width_of kind.LinkedTerms = 2
width_of kind.LinkedPairs = 4

-- the roles of the bytes of entry i, in a query of n terms
abbrev pub roles_at : Kind → ℕ → ℕ → List Role
roles_at kind.Terms n i = entry_role i ∷ []
roles_at kind.Pairs n i = sign_role ∷ term_role n ∷ term_role n ∷ []
roles_at kind.Fields n i = sign_role ∷ number_role ∷ term_role n ∷ []
roles_at kind.Booleans n i = sign_role ∷ number_role ∷ []
roles_at kind.LinkedTerms n i = count_role ∷ entry_role i ∷ []
roles_at kind.LinkedPairs n i = sign_role ∷ count_role ∷ term_role n ∷ term_role n ∷ []

-- some byte of an entry is held to refusal k; 0 is none, and stands for a byte that is held to nothing
abbrev pub concerned : Kind → ℕ → Bool
concerned kind.Terms k = eqb 5 k
concerned kind.Pairs k = eqb 6 k || eqb 7 k
concerned kind.Fields k = (eqb 6 k || eqb 7 k) || eqb 8 k
concerned kind.Booleans k = eqb 6 k || eqb 8 k
concerned kind.LinkedTerms k = eqb 0 k || eqb 5 k
concerned kind.LinkedPairs k = (eqb 0 k || eqb 6 k) || eqb 7 k

-- the place, where its byte meets refusal k
unfoldable pub fault_at : Role → ℕ → List ℕ → ℕ → Option ℕ
fault_at role k bytes place = keep (meets role k (get_or bytes place 0)) place

-- the lowest byte that meets refusal k, among `count` entries from a place on
unfoldable pub section_fault : ℕ → Kind → ℕ → ℕ → ℕ → List ℕ → Option ℕ
section_fault k kind n at count bytes = role_fault k at (flat_map (roles_at kind n) (from count 1)) (drop at bytes)

-- the place that was found
abbrev pub found_of : Found.Option ℕ → Option ℕ
found_of (Found.Some place) = some place
found_of Found.None = none

-- the bytes of a boolean literal, and of a literal with two numbers from `left` on, are allowed
abbrev pub flag_allowed : ℕ → List ℕ → ℕ → ℕ → Bool
flag_allowed most bytes at left = sign_role.allows (get_or bytes at 0) && counted most (get_or bytes left 0)

abbrev pub literal_allowed : ℕ → ℕ → List ℕ → ℕ → ℕ → Bool
literal_allowed most n bytes at left = flag_allowed most bytes at left && counted n (get_or bytes (left + 1) 0)

-- where the test passes, no byte meets a refusal, whichever
abbrev pub Passes : Bool → (ℕ → Option ℕ) → Type 0
Passes r fault = r ≡ true → (k : ℕ) → fault k ≡ none

-- The code's answers in the words of the definitions.
use Rattle.std.specs.Prelude.{ℕ, ◌+◌, ◌*◌, ◌≤◌, ◌<◌, ◌≡◌, true, List, [], ◌∷◌, length, get_or, take, drop, Result, Ok, Err}
use Rattle.std.proofs.Math.Option.{Option, none, some}
use Rattle.logic.specs.Search.{from, flat_map}
use Rattle.logic.specs.Query.{Role, sign_role, term_role, faulty, layout, layout_of, role_fault, first_byte, decode}
use Rattle.logic.specs.Calls.{Input, refused, refusal_of, accepts}
use Rattle.query.specs.LaysOut.{LaysOut}
use Rattle.between_search.specs.Bytes.{between_section, triples, decode_six, six_checks}
use Rattle.refusals.specs.declared.Refusal.{Refusal}
use Rattle.refusals.specs.Numbers.{number_of}
use Rattle.between_checks.specs.declared.SixLayout.{SixLayout}

-- the bytes of a between literal, in a query of n terms
abbrev pub triple_roles : ℕ → ℕ → List Role
triple_roles n i = sign_role ∷ term_role n ∷ term_role n ∷ term_role n ∷ []

-- the lowest byte that meets refusal k, among `count` between literals from a place on
unfoldable pub sixth_fault : ℕ → ℕ → ℕ → ℕ → List ℕ → Option ℕ
sixth_fault k n at count bytes = role_fault k at (flat_map (triple_roles n) (from count 1)) (drop at bytes)

-- the first of the refusals below a limit that the sixth section meets, with no other before it; or none of them
abbrev pub SixthBelow : {A : Type 0} → Result A Refusal → ℕ → ℕ → ℕ → List ℕ → ℕ → Type 0
SixthBelow (Err e) n at count bytes limit =
    let k : ℕ = number_of e.fault in
    (5 ≤ k) × (k ≤ 8) × (k < limit) × (sixth_fault k n at count bytes ≡ some e.place) × ((j : ℕ) → 6 ≤ j → j < k → sixth_fault j n at count bytes ≡ none)
SixthBelow (Ok a) n at count bytes limit = (j : ℕ) → 6 ≤ j → j < limit → j ≤ 7 → sixth_fault j n at count bytes ≡ none

-- refusals 2 to 4 of the sixth section, or its literals, which end where the query does
abbrev pub SixthRead : Result ℕ Refusal → List ℕ → ℕ → Type 0
SixthRead (Err e) bytes at = (n : ℕ) → layout (between_section n ∷ []) at (drop at bytes) ≡ faulty (number_of e.fault) e.place
SixthRead (Ok count) bytes at = (get_or bytes at 0 ≡ count) × (count ≤ 60) × (at + 1 + count * 4 ≡ length bytes)

-- the first five sections end at a place, where the count of the sixth stands
pub record Sixth (bytes : List ℕ) (at count : ℕ) : Type 0 where
  pub follows : layout_of bytes ≡ faulty 4 at
  pub counted : at < length bytes
  pub count_is : get_or bytes at 0 ≡ count
  pub within : count ≤ 60
  pub ends : at + 1 + count * 4 ≡ length bytes

-- Six sections that pass refusals 2 to 8 and 26: what they say is what the first five and the between literals say.
pub record SixSections (l : SixLayout) (bytes : List ℕ) : Type 0 where
  pub sixth : Sixth bytes l.at l.count
  pub laid : LaysOut l.base (take l.at bytes)
  pub passes : accepts (take l.at bytes) ≡ true
  pub terms_first : l.base.terms ≡ first_byte bytes
  pub says : decode_six bytes ≡ record { base = decode (take l.at bytes); betweens = triples (drop (l.at + 1) bytes) }

-- refusals 2 to 8 and 26 of any call with these query bytes
abbrev pub SixCheckedAs : Result SixLayout Refusal → List ℕ → Type 0
SixCheckedAs (Err e) bytes = (i : Input) → i.query ≡ bytes → refusal_of six_checks i ≡ some (refused (number_of e.fault) e.place)
SixCheckedAs (Ok l) bytes = ((i : Input) → i.query ≡ bytes → refusal_of six_checks i ≡ none) × SixSections l bytes

-- The promise of the call: what each answer and the lent bytes mean, against all lists (02, R-6).
use Rattle.std.specs.Prelude.{ℕ, ◌+◌, ◌*◌, ◌≤◌, ◌<◌, ◌≡◌, ◌⊎◌, List, length, get_or, take, replicate}
use Rattle.std.proofs.Math.Option.{none}
use Rattle.logic.specs.Calls.{Input, order_check, padded}
use Rattle.ordering.specs.Sheet.{count_of, pairs}
use Rattle.ordering.specs.Kept.{SmallestOrder, ShortestRing, NoOrder}
use Rattle.ordering.specs.Calls.{Answer, order, ring, refused, Outcome, order_call}

-- "A sheet is a count (0 to 28) and that many pairs": what 15 asks
pub record WholeSheet (sheet : List ℕ) : Type 0 where
  pub count_within : count_of sheet ≤ 28
  pub length_is : length sheet ≡ 1 + 2 * count_of sheet

-- each byte behind the count is a "rule number" from 1 to 8: what 16 asks
abbrev pub RuleNumbers : List ℕ → Type 0
RuleNumbers sheet = (i : ℕ) → 1 ≤ i → i < length sheet → (1 ≤ get_or sheet i 0) × (get_or sheet i 0 ≤ 8)

-- Nothing is refused of the sheet and the buffer.
pub record Passes (sheet : List ℕ) (room : ℕ) : Type 0 where
  pub whole : WholeSheet sheet
  pub numbered : RuleNumbers sheet
  pub roomy : 8 ≤ room

-- refusal k stands, and none before it
abbrev pub StandsFirst : ℕ → List ℕ → ℕ → Type 0
StandsFirst k sheet room =
    ((k ≡ 15) × (WholeSheet sheet → ⊥))
    ⊎ (((k ≡ 16) × WholeSheet sheet × (RuleNumbers sheet → ⊥))
    ⊎ ((k ≡ 14) × WholeSheet sheet × RuleNumbers sheet × (room < 8)))

abbrev pub Means : List ℕ → ℕ → Answer → List ℕ → Type 0
Means sheet room order lent = Passes sheet room × ((l : List ℕ) × (lent ≡ padded room l) × SmallestOrder (pairs sheet) l)
Means sheet room ring lent =
    Passes sheet room × NoOrder (pairs sheet) × ((l : List ℕ) × (lent ≡ padded room l) × ShortestRing (pairs sheet) l)
Means sheet room (refused k place) lent = StandsFirst k sheet room × (place ≡ 0) × (lent ≡ replicate room 0)

-- the promise
pub record Promised (sheet : List ℕ) (room : ℕ) (o : Outcome) : Type 0 where
  pub means : Means sheet room o.answer o.lent

-- An order that is answered passes check 1 of every call that it is given to.
abbrev pub PassesCheckOne : Type 0
PassesCheckOne =
    (sheet : List ℕ) (room : ℕ)
    → (order_call sheet room).answer ≡ order
    → (i : Input)
    → i.order ≡ take 8 (order_call sheet room).lent
    → order_check.place i ≡ none

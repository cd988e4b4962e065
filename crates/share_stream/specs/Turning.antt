-- What the code of a turn on the bytes that are held leaves.
use Rattle.std.specs.Prelude.{ℕ, min, ◌≡◌, List, [], ◌++◌, length, take, drop, Option, Some, None, is_some, IfSome}
use Rattle.sharing.specs.Output.{first_turn, first_length}
use Rattle.shares.specs.Taking.{Takes}

-- A turn on the bytes that stand first, and how many of them it takes, if a query may follow.
pub record TakesFirst (order counts bytes before after : List ℕ) (r : ℕ) (left : List ℕ) (taken : Option ℕ) : Type 0 where
  pub takes : Takes (first_turn order counts bytes) before after r left (is_some taken)
  pub passes : IfSome taken (λ n. n ≡ min (length bytes) (first_length bytes))

-- the bytes that turns leave, the order list first, and none where no query may follow
abbrev pub left_by : List ℕ → Option ℕ → List ℕ
left_by held None = []
left_by held (Some at) = take 8 held ++ drop at held

-- the bytes that are kept, and none where no query may follow
abbrev pub kept_of : List ℕ → Option ℕ → List ℕ
kept_of held None = []
kept_of held (Some kept) = take kept held

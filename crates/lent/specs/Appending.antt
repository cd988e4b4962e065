-- What is written into lent bytes.
use Rattle.std.specs.Prelude.{ℕ, ◌≡◌, List, ◌++◌, length}
use Rattle.logic.specs.Calls.{padded}

-- Behind the first `at` bytes, which zeros follow, these bytes are written.
abbrev pub Appends : List ℕ → List ℕ → ℕ → List ℕ → Type 0
Appends old new at bytes =
    (front : List ℕ) → length front ≡ at → old ≡ padded (length old) front → new ≡ padded (length old) (front ++ bytes)

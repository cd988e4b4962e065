-- Nil, as the code reads it from the entries of section 1.
use Rattle.std.specs.Prelude.{ℕ, ◌+◌, ◌-◌, ◌≤◌, ◌≡◌, List, [], ◌∷◌, Option, Some, None}
use Rattle.logic.specs.Search.{select, from}
use Rattle.logic.specs.Query.{Entries, names_nil}
use Rattle.rows.specs.declared.Term.{Term}

-- those of n terms from t on that name nil, ascending
unfoldable pub nil_from : Entries → ℕ → ℕ → List ℕ
nil_from entries n t = select (names_nil entries) (from (n + 1 - t) t)

-- the first such term of all, or there is none
abbrev pub FirstNil : Entries → ℕ → Option Term → Type 0
FirstNil entries n (Some t) = (t.0 ≤ n) × (nil_from entries n 1 ≡ t.0 ∷ nil_from entries n (t.0 + 1))
FirstNil entries n None = nil_from entries n 1 ≡ []

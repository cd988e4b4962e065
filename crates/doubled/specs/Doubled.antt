-- Doubled successors, read off the rows of the links.
use Rattle.std.specs.Prelude.{ℕ, Bool, cond, List}
use Rattle.std.proofs.Math.Option.{Option}
use Rattle.logic.specs.Search.{first_of}
use Rattle.logic.specs.Facts.{link_numbers, terms, first_two, successors}
use Rattle.facts.specs.Path.{links_by}

-- the two lowest successors of a term, by the first link that has two, of a single link or of three: "by lowest term, then link" (02, R-11)
unfoldable pub two_in : ℕ → Bool → List ℕ → ℕ → Option (ℕ × ℕ)
two_in n single link t = first_of (λ k. first_two (successors n (links_by link k) t)) (link_numbers (cond single 1 3))

-- what is doubled
unfoldable pub doubled_in : ℕ → Bool → List ℕ → Option (ℕ × ℕ)
doubled_in n single link = first_of (two_in n single link) (terms n)

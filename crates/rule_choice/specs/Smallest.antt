-- The search for the smallest triple, one number after the other.
use Rattle.std.specs.Prelude.{ℕ, ◌+◌, ◌-◌, Bool}
use Rattle.std.proofs.Math.Option.{Option, none, Option-elim}
use Rattle.logic.specs.Search.{from, keep, first_of}
use Rattle.logic.specs.Facts.{Graph, link_numbers}
use Rattle.logic.specs.Rules.{Rule, Triple, triple, Move, move, rule_of, triples}
use Rattle.rules.specs.Allowed.{allowed}

module _ (n : ℕ) (alive : ℕ → Bool) (g : Graph) (r : Rule) where
  -- the smallest triple that begins with x and y, with x, or with any number
  unfoldable pub in_third : ℕ → ℕ → Option Triple
  in_third x y = first_of (λ z. keep (allowed n alive g (move 1 r (triple x y z))) (triple x y z)) (from (n + 1 - 0) 0)

  unfoldable pub in_second : ℕ → Option Triple
  in_second x = first_of (in_third x) (from (n + 1 - 0) 0)

  unfoldable pub in_first : Option Triple
  in_first = first_of in_second (from (n + 1 - 0) 0)

-- a rule by link i at the smallest triple, as `choose` looks for it; and the rule that has number k
unfoldable pub move_at : ℕ → ℕ → (ℕ → Bool) → Graph → Rule → Option Move
move_at i n alive g r = first_of (λ t. keep (allowed n alive g (move i r t)) (move i r t)) (triples n)

unfoldable pub tried_at : ℕ → ℕ → (ℕ → Bool) → Graph → ℕ → Option Move
tried_at i n alive g k = Option-elim (rule_of k) none (move_at i n alive g)

-- "within a rule link 1 is tried first" (02, R-11): the rule that has number k, by the first of three links that allows it
unfoldable pub tried_by : ℕ → (ℕ → Bool) → (ℕ → Graph) → ℕ → Option Move
tried_by n alive g k = first_of (λ i. tried_at i n alive (g i) k) (link_numbers 3)

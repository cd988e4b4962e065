-- Each rule's share of all tallied rule lines, "as a fraction in lowest terms, 0/1 where there are none" (02, R-14).
use Rattle.std.specs.Prelude.{ℕ, zero, suc, ◌+◌, ◌*◌, ◌/◌, ◌%◌, cond, List, [], ◌∷◌, ◌++◌, map, eqb}
use Rattle.logic.specs.Search.{flat_map}
use Rattle.text.specs.Text.{ascii, decimal}

-- Euclid's greatest common divisor. Each remainder is a step, and there are no more of them than the second number.
unfoldable pub gcd_within : ℕ → ℕ → ℕ → ℕ
gcd_within zero a b = a
gcd_within (suc steps) a b =
    let rest : ℕ = gcd_within steps b (a % b) in
    cond (eqb b 0) a rest

unfoldable pub gcd : ℕ → ℕ → ℕ
gcd a b = gcd_within (suc b) a b

pub record Fraction : Type 0 where
  pub top : ℕ
  pub bottom : ℕ

-- a count's share of a total
unfoldable pub share : ℕ → ℕ → Fraction
share count total =
    let lowest : Fraction = record { top = count / gcd count total; bottom = total / gcd count total } in
    cond (eqb count 0) (record { top = 0; bottom = 1 }) lowest

-- "all tallied rule lines"
unfoldable pub total_of : List ℕ → ℕ
total_of [] = 0
total_of (c ∷ cs) = c + total_of cs

-- "each rule's share of all tallied rule lines, rule 1 first"
unfoldable pub shares_of : List ℕ → List Fraction
shares_of counts = map (λ c. share c (total_of counts)) counts

-- "one a line, as a fraction"
unfoldable pub fraction_text : Fraction → List ℕ
fraction_text f = decimal f.top ++ (ascii "/" ++ (decimal f.bottom ++ ascii "\n"))

unfoldable pub shares_text : List ℕ → List ℕ
shares_text counts = flat_map fraction_text (shares_of counts)

-- what fractions add up to
unfoldable pub sum_of : List Fraction → Fraction
sum_of [] = record { top = 0; bottom = 1 }
sum_of (f ∷ fs) = record { top = f.top * (sum_of fs).bottom + (sum_of fs).top * f.bottom; bottom = f.bottom * (sum_of fs).bottom }

-- What is claimed of shares: a greatest common divisor is one, a share is in lowest terms and is the count's part of the total, and shares
-- add up to exactly 1.
use Rattle.std.specs.Prelude.{ℕ, ◌*◌, ◌≤◌, ◌<◌, ◌≡◌, List}
use Rattle.std.specs.Int.{◌∣◌}
use Rattle.fractions.specs.Fractions.{Fraction, gcd, share, total_of, shares_of, sum_of}

-- g divides both, and whatever divides both divides g
pub record GreatestCommonDivisor (a b g : ℕ) : Type 0 where
  pub left : g ∣ a
  pub right : g ∣ b
  pub greatest : (d : ℕ) → d ∣ a → d ∣ b → d ∣ g

-- nothing but 1 divides both parts
pub record LowestTerms (f : Fraction) : Type 0 where
  pub positive : 0 < f.bottom
  pub lowest : (d : ℕ) → d ∣ f.top → d ∣ f.bottom → d ≡ 1

-- the fraction is exactly 1
pub record ExactlyOne (f : Fraction) : Type 0 where
  pub positive : 0 < f.bottom
  pub one : f.top ≡ f.bottom

pub record Claims : Type 0 where
  pub gcd_is : (a b : ℕ) → GreatestCommonDivisor a b (gcd a b)
  pub lowest_terms : (count total : ℕ) → count ≤ total → LowestTerms (share count total)
  pub part_of_total : (count total : ℕ) → count ≤ total → (share count total).top * total ≡ count * (share count total).bottom
  -- "With any rule line counted, the shares add up to exactly 1."
  pub shares_add_up : (counts : List ℕ) → 0 < total_of counts → ExactlyOne (sum_of (shares_of counts))

-- How a call's answer is one number for C (include/lemitsaka.h): below 65,536 it is the call's own answer, else a refusal.
use Rattle.std.specs.Prelude.{ℕ, ◌+◌, ◌*◌, ◌/◌, ◌%◌, ◌<◌, cond, eqb}

-- a refusal's number times 65,536, and its place
abbrev pub numbered_code : ℕ → ℕ → ℕ
numbered_code k place = k % 65536 * 65536 + place % 65536

-- A number's digits: two below 65,536, and what stands above them.
pub record Digits : Type 0 where
  pub high : ℕ
  pub middle : ℕ
  pub low : ℕ

-- a call's own answer, and a refusal's number and place
abbrev pub own : ℕ → Digits
own n = record { high = 0; middle = 0; low = n }

abbrev pub refusal : ℕ → ℕ → Digits
refusal k place = record { high = 0; middle = k; low = place }

-- two digits below one more: 1 says that they are of the second query
abbrev pub with_high : ℕ → ℕ → ℕ → Digits
with_high high middle low = record { high = high; middle = middle; low = low }

-- the number that C is answered
abbrev pub code : Digits → ℕ
code d = d.high * 4294967296 + numbered_code d.middle d.low

-- the digits that a number gives back to C: the lower two are what lemitsaka_refusal and lemitsaka_place take out of it
unfoldable pub digits_in : ℕ → Digits
digits_in r = record { high = r / 4294967296; middle = r / 65536 % 65536; low = r % 65536 }

-- an answer by its digits, from the call's own answers and its refusals
unfoldable pub read_back : {A : Type 0} → (ℕ → A) → (ℕ → ℕ → A) → Digits → A
read_back ours refused d = cond (eqb d.middle 0) (ours d.low) (refused d.middle d.low)

-- digits that a number holds
abbrev pub Fits : Digits → Type 0
Fits d = (d.middle < 65536) × (d.low < 65536)

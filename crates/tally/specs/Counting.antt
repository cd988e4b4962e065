-- A tally of eight counts, rule 1 first, and what a derivation adds to it (02, R-14).
use Rattle.std.specs.Prelude.{ℕ, suc, ◌+◌, ◌<◌, ◌≡◌, Bool, cond, List, [], ◌∷◌, replicate, get_or, eqb, leb}
use Rattle.logic.specs.Search.{all}
use Rattle.logic.specs.Facts.{Line, line}

-- "A rule line is the rule number and its triple" (01): the number that a line begins with
unfoldable pub kind_of : Line → ℕ
kind_of (line a b c d) = a

-- how many lines are of rule r. Clash lines (9) and join lines (10) are of no rule.
unfoldable pub rule_lines : ℕ → List Line → ℕ
rule_lines r [] = 0
rule_lines r (l ∷ ls) = cond (eqb (kind_of l) r) (suc (rule_lines r ls)) (rule_lines r ls)

-- the counts of rules r, r + 1 and so on, each with the lines of its rule added
unfoldable pub raised_from : ℕ → List ℕ → List Line → List ℕ
raised_from r [] ls = []
raised_from r (c ∷ cs) ls = (c + rule_lines r ls) ∷ raised_from (suc r) cs ls

unfoldable pub raised : List ℕ → List Line → List ℕ
raised counts ls = raised_from 1 counts ls

-- "28 a count would pass 4,294,967,295"
unfoldable pub fits : List ℕ → Bool
fits counts = all (λ c. leb c 4294967295) counts

-- what the call answers: 0, or the refusal's number; its place is 0
unfoldable pub refusal_of : List ℕ → List Line → ℕ
refusal_of counts ls = cond (fits (raised counts ls)) 0 28

-- "A tally of eight 32-bit counts is lent to the call for each result and changed there"; "the tally then stays unchanged"
unfoldable pub tallied : List ℕ → List Line → List ℕ
tallied counts ls = cond (fits (raised counts ls)) (raised counts ls) counts

-- what the call leaves in the tally, and answers
pub record Adds (counts : List ℕ) (ls : List Line) (after : List ℕ) (r : ℕ) : Type 0 where
  pub leaves : after ≡ tallied counts ls
  pub answers : r ≡ refusal_of counts ls

-- no lines yet
unfoldable pub no_lines : List ℕ
no_lines = replicate 8 0

-- For the code: sums count by count, and a bound of all counts.
unfoldable pub plus : List ℕ → List ℕ → List ℕ
plus [] ds = []
plus (c ∷ cs) [] = c ∷ cs
plus (c ∷ cs) (d ∷ ds) = (c + d) ∷ plus cs ds

abbrev pub Below : ℕ → List ℕ → Type 0
Below n counts = (k : ℕ) → get_or counts k 0 < n

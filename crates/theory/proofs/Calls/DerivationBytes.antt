-- The bytes of a derivation: how many they are, and that reading them gives the lines back.
use Prim.Native.Nat.{ℕ, ◌+◌, ◌*◌, ◌-◌, ◌/◌, ◌%◌, ◌≤◌}
use native.Mathlib.Omega.{arith}
use mathlib.Core.Path.{◌≡◌, refl, sym, ap, ◌∙◌, subst}
use mathlib.Core.List.{List, [], ◌∷◌, ◌++◌}
use lib.ListN.{length, replicate}
use Rattle.logic.specs.Search.{flat_map}
use Rattle.logic.specs.Facts.{Line, line}
use Rattle.logic.specs.Derivation.{line_bytes, derivation_bytes, lines_from, lines_in}
use Rattle.logic.specs.Calls.{padded}
use Rattle.theory.proofs.Calls.CallLaws.{padded-length}

pub lines_length : (ls : List Line) → length (flat_map line_bytes ls) ≡ 4 * length ls
unfolding flat_map line_bytes
lines_length [] = refl
lines_length (line a b c d ∷ ls) = let ih = lines_length ls in omega arith

pub derivation_length : (ls : List Line) → length (derivation_bytes ls) ≡ 2 + 4 * length ls
unfolding derivation_bytes
derivation_length ls = omega (arith, lines_length ls)

-- a derivation that fits fills what is lent
pub derivation_fits : (room : ℕ) (ls : List Line) → 2 + 4 * length ls ≤ room → length (padded room (derivation_bytes ls)) ≡ room
derivation_fits room ls l = padded-length room (derivation_bytes ls) (subst (λ (k : ℕ). k ≤ room) (sym (derivation_length ls)) l)

lines_from_written : (ls : List Line) (rest : List ℕ) → lines_from (length ls) (flat_map line_bytes ls ++ rest) ≡ ls
unfolding lines_from flat_map line_bytes
lines_from_written [] rest = refl
lines_from_written (line a b c d ∷ ls) rest = ap (λ (ms : List Line). line a b c d ∷ ms) (lines_from_written ls rest)

-- the lines written are the lines read, whatever follows them
pub lines_read : (ls : List Line) (rest : List ℕ) → lines_in (derivation_bytes ls ++ rest) ≡ ls
unfolding lines_in derivation_bytes
lines_read ls rest =
    let e : 256 * (length ls / 256) + length ls % 256 ≡ length ls = omega arith in
    ap (λ (k : ℕ). lines_from k (flat_map line_bytes ls ++ rest)) e ∙ lines_from_written ls rest

pub lines_padded : (room : ℕ) (ls : List Line) → lines_in (padded room (derivation_bytes ls)) ≡ ls
unfolding padded
lines_padded room ls = lines_read ls (replicate (room - length (derivation_bytes ls)) 0)

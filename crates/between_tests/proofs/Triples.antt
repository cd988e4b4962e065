-- The between literals as a list of what is read in place.
use Prim.Native.Nat.{ℕ, zero, suc, ◌+◌, ◌*◌, ◌≤◌}
use native.Mathlib.Nat.{sub-zero, add_assoc}
use native.Mathlib.Omega.{arith}
use mathlib.Core.Path.{◌≡◌, refl, sym, ap, ◌∙◌}
use mathlib.Core.List.{List, ◌∷◌, map}
use lib.ListN.{length, get_or, drop, drop_of_length-le}
use Rattle.logic.specs.Search.{from}
use Rattle.query.proofs.Literals.{listed}
use Rattle.entries.proofs.Loops.{drop_next}
use Rattle.between.specs.Meaning.{BetweenLiteral}
use Rattle.between_search.specs.Bytes.{triples}
use Rattle.between_tests.specs.Tables.{triple_in}

drop_four : (bytes : List ℕ) (place : ℕ) → place + 4 ≤ length bytes →
    drop place bytes ≡ get_or bytes place 0 ∷ get_or bytes (place + 1) 0 ∷ get_or bytes (place + 2) 0 ∷ get_or bytes (place + 3) 0 ∷ drop (place + 4) bytes
drop_four bytes place h =
    drop_next bytes place (omega arith)
    ∙ ap (λ (xs : List ℕ). get_or bytes place 0 ∷ xs) (drop_next bytes (place + 1) (omega arith) ∙ rw add_assoc
    (ap (λ (xs : List ℕ). get_or bytes (place + 1) 0 ∷ xs) (drop_next bytes (place + 2) (omega arith) ∙ rw add_assoc
    (ap (λ (xs : List ℕ). get_or bytes (place + 2) 0 ∷ xs) (drop_next bytes (place + 3) (omega arith) ∙ rw add_assoc refl)))))

module _ (bytes : List ℕ) where
  triples-from : (count j : ℕ) → 4 * j + 4 * count ≡ length bytes → triples (drop (4 * j) bytes) ≡ map (triple_in bytes) (from count j)
  unfolding triples from
  triples-from zero j h = rw (drop_of_length-le bytes {i = 4 * j} (omega arith))
  triples-from (suc count) j h =
      rw (drop_four bytes (4 * j) (omega arith), place)
      (ap (λ (ls : List BetweenLiteral). triple_in bytes j ∷ ls) (triples-from count (suc j) (omega arith)))
    where
      place : 4 * j + 4 ≡ 4 * suc j
      place = omega arith

  pub triples_are : (count : ℕ) → 4 * count ≡ length bytes → triples bytes ≡ listed (triple_in bytes) count 0
  unfolding listed
  triples_are count h = triples-from count 0 (omega arith) ∙ ap (λ (m : ℕ). map (triple_in bytes) (from m 0)) (sym (sub-zero count))

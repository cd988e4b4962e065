-- How long the bytes of a query are. Assumes nothing.
use Prim.Native.Nat.{ℕ, suc, ◌+◌, ◌*◌, ◌≤◌}
use native.Mathlib.Omega.{arith}
use mathlib.Core.Path.{◌≡◌, refl, ap, ◌∙◌}
use mathlib.Core.List.{List, [], ◌∷◌, ◌++◌}
use lib.ListN.{length, length-append}
use Rattle.logic.specs.Query.{Literal, Query, term_count}
use Rattle.theory.proofs.Basics.Count.{length-flat_map}
use Rattle.encoding.specs.QueryBytes.{literal_bytes, section_bytes, encode}
use Rattle.encoding.proofs.Encoded.{Limits}

section_length : (ls : List Literal) → length (section_bytes ls) ≡ 1 + length ls * 3
unfolding section_bytes literal_bytes
section_length ls = ap suc (length-flat_map literal_bytes 3 (λ l. refl) ls) ∙ omega arith

-- a section, and what stands behind it
behind : (ls : List Literal) (rest : List ℕ) → length (section_bytes ls ++ rest) ≡ 1 + 3 * length ls + length rest
behind ls rest = omega (arith, length-append (section_bytes ls) rest, section_length ls)

pub encode-length : (q : Query) → length (encode q) ≡ term_count q + 3 * length q.equalities + 3 * length q.reachability + 3 * length q.fields + 5
unfolding encode term_count
encode-length q =
    let fifth : List ℕ = 0 ∷ [] in
    let fourth = behind q.fields fifth in
    let third = behind q.reachability (section_bytes q.fields ++ fifth) in
    let second = behind q.equalities (section_bytes q.reachability ++ (section_bytes q.fields ++ fifth)) in
    omega (arith, length-append q.entries.terms (section_bytes q.equalities ++ (section_bytes q.reachability ++ (section_bytes q.fields ++ fifth))), second, third, fourth)

-- the longest query has 561 bytes
pub encode_within : (q : Query) → Limits q → length (encode q) ≤ 561
encode_within q l = omega (arith, encode-length q, l.terms, l.equalities, l.reachability, l.fields)

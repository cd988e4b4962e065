-- FNV-1a, 32 bits, from its public description (Fowler, Noll, Vo): "hash = offset_basis; for each octet_of_data to be hashed: hash = hash
-- xor octet_of_data; hash = hash * FNV_prime; return hash". 02, R-14 names the two numbers: "offset 2166136261, prime 16777619, wrapping".
use Rattle.std.specs.Prelude.{ℕ, ◌*◌, ◌%◌, ◌^◌, List, [], ◌∷◌}
use Rattle.std.specs.Int.Bits.{bit_xor}

-- "wrapping": the product modulo 2 to the 32
abbrev pub wrapping_product : ℕ → ℕ → ℕ
wrapping_product a b = (a * b) % 2 ^ 32

-- one octet: first the exclusive or, then the product (FNV-1 has them the other way round). The octet stands first, so that it computes.
unfoldable pub marked : ℕ → ℕ → ℕ
marked hash octet = wrapping_product (bit_xor octet hash) 16777619

-- all octets, from a hash on
unfoldable pub mark_from : ℕ → List ℕ → ℕ
mark_from hash [] = hash
mark_from hash (octet ∷ octets) = mark_from (marked hash octet) octets

unfoldable pub mark_of : List ℕ → ℕ
mark_of octets = mark_from 2166136261 octets

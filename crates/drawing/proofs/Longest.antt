-- The longest text: 16 nodes, 16 terms of one node, and numbers of two and three digits.
use Prim.Native.Nat.{ℕ, zero, suc, ◌+◌, ◌-◌, ◌≤◌, ◌<◌}
use native.Mathlib.Omega.{arith}
use mathlib.Core.Path.{◌≡◌, refl, sym, ◌∙◌}
use mathlib.Core.Bool.{true, false}
use mathlib.Core.List.{List, [], ◌∷◌, ◌++◌}
use lib.ListN.{length, get_or, replicate, length-append}
use lib.Dec.{ltb}
use borrow.Author.Tests.{ltb-true}
use Rattle.logic.specs.Search.{◌and◌, from, all, select, flat_map}
use Rattle.logic.specs.Shown.{size_in, node_in, is_node, well_formed}
use Rattle.theory.proofs.Basics.Search.{and_left, and_right, from-mem}
use Rattle.theory.proofs.Completeness.Placed.{length_from}
use Rattle.text.specs.Text.{decimal_within, decimal}
use Rattle.text.proofs.Digits.{decimal_byte}
use Rattle.drawing.specs.Text.{count_in, link_in, datum_in, booleans_in, report_size, closing, newline, label_open, label_close}
use Rattle.drawing.specs.Text.{arrow, line_end, slash, listed, terms_at, comment_line, node_line, arrow_line, text}
use Rattle.drawing.specs.Claims.{Report, longest}
use Rattle.drawing.proofs.Numbers.{decimal-pair}
use Rattle.drawing.proofs.Sums.{total, total-add, total_most, total_one, total_same, partition, length_flat}
use Rattle.drawing.proofs.Formed.{Formed, formed}

abbrev digits : ℕ → ℕ
digits x = length (decimal x)

-- How long a list of terms is: its digits, and a blank before each but the first

listed_more : (ts : List ℕ) → length (listed false ts) ≡ total digits ts + length ts
unfolding listed total
listed_more [] = refl
listed_more (t ∷ ts) = omega (arith, length-append (decimal t) (listed false ts), listed_more ts)

listed-length : (ts : List ℕ) → length (listed true ts) ≡ total digits ts + (length ts - 1)
unfolding listed total
listed-length [] = refl
listed-length (t ∷ ts) = omega (arith, length-append (decimal t) (listed false ts), listed_more ts)

-- a blank fewer than there are elements, in each list and in all
total_fewer : (g : ℕ → ℕ) (vs : List ℕ) → total (λ v. g v - 1) vs ≤ total g vs - 1
unfolding total
total_fewer g [] = omega arith
total_fewer g (v ∷ vs) = omega (arith, total_fewer g vs)

-- a sum over fewer numbers
total_fewest : (w : ℕ → ℕ) (k j i : ℕ) → k ≤ j → total w (from k i) ≤ total w (from j i)
unfolding total from
total_fewest w zero j i h = omega arith
total_fewest w (suc k) zero i h = absurd (omega arith)
total_fewest w (suc k) (suc j) i h = omega (arith, total_fewest w k j (suc i) (omega arith))

-- Sums over 16 numbers, by computation

sixteen_digits : total digits (from 16 1) ≡ 23
unfolding total from decimal decimal_within
sixteen_digits = refl

sixteen_nodes : total (λ v. digits v + 17) (from 16 1) ≡ 295
unfolding total from decimal decimal_within
sixteen_nodes = refl

sixteen_arrows : total (λ v. digits v + 8) (from 16 1) ≡ 151
unfolding total from decimal decimal_within
sixteen_arrows = refl

module _ (bytes : List ℕ) (below : (i : ℕ) → get_or bytes i 0 < 256) (f : Formed bytes) where
  comment_most : length (comment_line bytes) ≤ 7
  unfolding comment_line booleans_in
  comment_most =
      let b : ℕ = booleans_in bytes in
      omega (arith, length-append (decimal b) newline, decimal_byte b (below (size_in bytes + count_in bytes + size_in bytes + 4)))

  node_length : (v : ℕ) → length (node_line bytes v) ≤ (digits v + 17) + (total digits (terms_at bytes v) + (length (terms_at bytes v) - 1))
  unfolding node_line datum_in
  node_length v =
      let ts : List ℕ = terms_at bytes v in
      let datum : List ℕ = decimal (datum_in bytes v) ++ label_close in
      omega (
        arith,
        length-append (decimal v) (label_open ++ (listed true ts ++ (slash ++ datum))),
        length-append (listed true ts) (slash ++ datum),
        length-append (decimal (datum_in bytes v)) label_close,
        listed-length ts,
        decimal_byte (datum_in bytes v) (below (size_in bytes + count_in bytes + 2 + v)),
      )

  arrow-length : (v : ℕ) → link_in bytes v ≤ 16 → length (arrow_line bytes v) ≤ digits v + 8
  unfolding arrow_line
  arrow-length v h =
      omega (
        arith,
        length-append (decimal v) (arrow ++ (decimal (link_in bytes v) ++ line_end)),
        length-append (decimal (link_in bytes v)) line_end,
        decimal-pair (link_in bytes v) (omega arith),
      )

  -- each term stands in exactly one label
  terms_once : (w : ℕ → ℕ) → total (λ v. total w (terms_at bytes v)) (from (size_in bytes) 1) ≡ total w (from (count_in bytes) 1)
  unfolding terms_at
  terms_once w = partition w (node_in bytes) (size_in bytes) (from (count_in bytes) 1) (λ t m. let k = from-mem (count_in bytes) 1 t m in f.term_node t k.0 (omega arith))

  blanks_most : total (λ v. length (terms_at bytes v) - 1) (from (size_in bytes) 1) ≤ 15
  blanks_most =
      let vs : List ℕ = from (size_in bytes) 1 in
      let ones : total (λ v. length (terms_at bytes v)) vs ≡ count_in bytes = total_same (λ v. length (terms_at bytes v))
      (λ v. total (λ t. 1) (terms_at bytes v)) vs (λ v. sym (total_one (terms_at bytes v))) ∙ terms_once (λ t. 1) ∙ total_one (from (count_in bytes) 1)
      ∙ length_from (count_in bytes) 1 in
      omega (arith, total_fewer (λ v. length (terms_at bytes v)) vs, f.few_terms)

  nodes_most : length (flat_map (node_line bytes) (from (size_in bytes) 1)) ≤ 333
  nodes_most =
      let vs : List ℕ = from (size_in bytes) 1 in
      let line : ℕ → ℕ = λ v. digits v + 17 in
      let names : ℕ → ℕ = λ v. total digits (terms_at bytes v) in
      let blanks : ℕ → ℕ = λ v. length (terms_at bytes v) - 1 in
      omega (
        arith,
        length_flat (node_line bytes) vs,
        total_most (λ v. length (node_line bytes v)) (λ v. line v + (names v + blanks v)) vs (λ v m. node_length v),
        total-add line (λ v. names v + blanks v) vs,
        total-add names blanks vs,
        total_fewest line (size_in bytes) 16 1 f.few_nodes,
        sixteen_nodes,
        terms_once digits,
        total_fewest digits (count_in bytes) 16 1 f.few_terms,
        sixteen_digits,
        blanks_most,
      )

  arrows_most : length (flat_map (arrow_line bytes) (from (size_in bytes) 1)) ≤ 151
  arrows_most =
      let vs : List ℕ = from (size_in bytes) 1 in
      let line : ℕ → ℕ = λ v. digits v + 8 in
      omega (
        arith,
        length_flat (arrow_line bytes) vs,
        total_most (λ v. length (arrow_line bytes v)) line vs (λ v m. let k = from-mem (size_in bytes) 1 v m in arrow-length v (omega (arith, f.link_node v k.0 (omega arith), f.few_nodes))),
        total_fewest line (size_in bytes) 16 1 f.few_nodes,
        sixteen_arrows,
      )

pub text_longest : (a : List ℕ) → Report a → length (text a) ≤ longest
unfolding text
text_longest a r =
    let f = formed a r.formed in
    let vs : List ℕ = from (size_in a) 1 in
    let ends : List ℕ = flat_map (arrow_line a) vs ++ closing in
    omega (
      arith,
      length-append (comment_line a) (flat_map (node_line a) vs ++ ends),
      length-append (flat_map (node_line a) vs) ends,
      length-append (flat_map (arrow_line a) vs) closing,
      comment_most a r.below f,
      nodes_most a r.below f,
      arrows_most a r.below f,
    )

-- A report whose text is as long

all-below : (xs : List ℕ) → all (λ b. ltb b 256) xs ≡ true → (i : ℕ) → get_or xs i 0 < 256
unfolding all
all-below [] h i = omega arith
all-below (x ∷ xs) h zero = ltb-true x 256 (and_left (ltb x 256) (all (λ b. ltb b 256) xs) h)
all-below (x ∷ xs) h (suc i) = all-below xs (and_right (ltb x 256) (all (λ b. ltb b 256) xs) h) i

abbrev crowded : List ℕ
crowded = (16 ∷ replicate 16 16) ++ ((16 ∷ replicate 16 16) ++ ((16 ∷ replicate 16 255) ++ (1 ∷ 255 ∷ [])))

pub longest_reached : (a : List ℕ) × Report a × (length (text a) ≡ longest)
unfolding text comment_line node_line arrow_line listed terms_at count_in link_in datum_in booleans_in report_size size_in node_in is_node well_formed from all select flat_map ◌and◌ decimal decimal_within
longest_reached = (crowded, record { below = all-below crowded refl; formed = refl }, refl)

-- Laws of the loops over terms and over literals. Assumes nothing.
use Prim.Native.Nat.{ℕ, zero, suc, ◌+◌, ◌*◌, ◌≤◌, ◌<◌}
use native.Mathlib.Omega.{arith}
use mathlib.Core.Path.{◌≡◌, refl, sym, ap, ◌∙◌}
use mathlib.Core.List.{List, [], ◌∷◌, ◌++◌}
use lib.ListN.{length, get_or, drop}
use lib.Seq.{drop-length}
use Rattle.logic.specs.Search.{◌or◌, flat_map}
use Rattle.theory.proofs.Basics.Compare.{eqb-false}
use Rattle.theory.proofs.Basics.Count.{length-flat_map}
use Rattle.text.proofs.Writing.{left_first}
use Rattle.rewriter.specs.Bytes.{cut}
use Rattle.rewriter.proofs.Loops.{cut_long}
use Rattle.link_rewriting.specs.LinkedQuery.{link_before, entry_bytes}
use Rattle.link_rewriter.specs.Bytes.{with_links}

-- the link before a byte, by what the byte is
pub before_variable : (b : ℕ) → b ≡ 0 → 0 ≡ link_before b
unfolding link_before ◌or◌
before_variable b e = sym (ap link_before e)

pub before_nil : (b : ℕ) → b ≡ 255 → 0 ≡ link_before b
unfolding link_before ◌or◌
before_nil b e = sym (ap link_before e)

pub before_other : (b : ℕ) → (b ≡ 0 → ⊥) → (b ≡ 255 → ⊥) → 1 ≡ link_before b
unfolding link_before ◌or◌
before_other b z n = rw (eqb-false b 0 z, eqb-false b 255 n)

-- the terms from i on
pub terms_next : (terms : List ℕ) (i : ℕ) → i < length terms →
    flat_map entry_bytes (drop i terms) ≡ (link_before (get_or terms i 0) ∷ []) ++ ((get_or terms i 0 ∷ []) ++ flat_map entry_bytes (drop (i + 1) terms))
unfolding flat_map entry_bytes
terms_next terms i h = ap (flat_map entry_bytes) (left_first terms i h)

pub terms_end : (terms : List ℕ) (i : ℕ) → length terms ≤ i → i ≤ length terms → flat_map entry_bytes (drop i terms) ≡ []
unfolding flat_map
terms_end terms i h l =
    let e : i ≡ length terms = omega arith in
    ap (λ (k : ℕ). flat_map entry_bytes (drop k terms)) e ∙ ap (flat_map entry_bytes) (drop-length terms)

terms_long : (terms : List ℕ) → length (flat_map entry_bytes terms) ≡ 2 * length terms
unfolding entry_bytes
terms_long terms = length-flat_map entry_bytes 2 (λ b. refl) terms ∙ omega arith

module _ (bytes : List ℕ) (count : ℕ) (long : length bytes ≡ 3 * count) where
  -- the literals from k on
  abbrev pub left : ℕ → List ℕ
  left k = with_links (drop (3 * k) bytes)

  three_first : (k : ℕ) → k < count → drop (3 * k) bytes ≡ get_or bytes (3 * k) 0 ∷ get_or bytes (3 * k + 1) 0 ∷ get_or bytes (3 * k + 2) 0 ∷ drop (3 * (k + 1)) bytes
  three_first k h =
      first (3 * k) (omega arith)
      ∙ ap (λ (xs : List ℕ). get_or bytes (3 * k) 0 ∷ xs)
      (first (3 * k + 1) (omega arith)
      ∙ ap (λ (xs : List ℕ). get_or bytes (3 * k + 1) 0 ∷ xs)
      (at (3 * k + 1 + 1) (3 * k + 2) (omega arith) ∙ first (3 * k + 2) (omega arith)
      ∙ ap (λ (xs : List ℕ). get_or bytes (3 * k + 2) 0 ∷ xs) (at (3 * k + 2 + 1) (3 * (k + 1)) (omega arith))))
    where
      first : (i : ℕ) → i < length bytes → drop i bytes ≡ get_or bytes i 0 ∷ drop (i + 1) bytes
      first i l = left_first bytes i l

      at : (i j : ℕ) → i ≡ j → drop i bytes ≡ drop j bytes
      at i j e = ap (λ (k : ℕ). drop k bytes) e

  pub left-next : (k : ℕ) → k < count → left k ≡ (get_or bytes (3 * k) 0 ∷ 1 ∷ get_or bytes (3 * k + 1) 0 ∷ get_or bytes (3 * k + 2) 0 ∷ []) ++ left (k + 1)
  unfolding with_links
  left-next k h = ap with_links (three_first k h)

  pub left_end : (k : ℕ) → count ≤ k → k ≤ count → left k ≡ []
  unfolding with_links
  left_end k h l =
      let e : 3 * k ≡ length bytes = omega arith in
      ap (λ (i : ℕ). with_links (drop i bytes)) e ∙ ap with_links (drop-length bytes)

-- how long literals are with their links
literals_long : (count : ℕ) (bytes : List ℕ) → length bytes ≡ 3 * count → length (with_links bytes) ≡ 4 * count
unfolding with_links
literals_long count [] h = omega arith
literals_long count (s ∷ []) h = absurd (omega arith)
literals_long count (s ∷ a ∷ []) h = absurd (omega arith)
literals_long zero (s ∷ a ∷ b ∷ rest) h = absurd (omega arith)
literals_long (suc count) (s ∷ a ∷ b ∷ rest) h = omega (arith, literals_long count rest (omega arith))

-- of the parts of a query
pub entries_long : (bytes : List ℕ) (n : ℕ) → n + 1 ≤ length bytes → length (flat_map entry_bytes (cut bytes 1 (n + 1))) ≡ 2 * n
entries_long bytes n h = omega (arith, terms_long (cut bytes 1 (n + 1)), cut_long bytes 1 (n + 1) (omega arith) h)

pub part_long : (bytes : List ℕ) (i count : ℕ) → i + 3 * count ≤ length bytes → length (cut bytes i (i + 3 * count)) ≡ 3 * count
part_long bytes i count h = cut_long bytes i (i + 3 * count) (omega arith) h ∙ omega arith

pub links_long : (bytes : List ℕ) (i count : ℕ) → i + 3 * count ≤ length bytes → length (with_links (cut bytes i (i + 3 * count))) ≡ 4 * count
links_long bytes i count h = literals_long count (cut bytes i (i + 3 * count)) (part_long bytes i count h)

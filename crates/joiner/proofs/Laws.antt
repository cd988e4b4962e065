-- Literals, entries and pairs as a loop meets them: what is left, one at a time. Assumes nothing.
use Prim.Native.Nat.{ℕ, zero, suc, ◌+◌, ◌-◌, ◌*◌, ◌≤◌, ◌<◌}
use native.Mathlib.Omega.{arith}
use native.Mathlib.Nat.{sub-zero}
use mathlib.Core.Path.{◌≡◌, refl, ap, ◌∙◌}
use mathlib.Core.Bool.{Bool, true, false, ◌&&◌}
use mathlib.Core.List.{List, [], ◌∷◌, ◌++◌, map}
use lib.ListN.{length, get_or, take, drop, length-map, length-drop, drop_of_length-le}
use lib.Seq.{length-take-le}
use lib.Dec.{ltb, leb}
use Rattle.logic.specs.Search.{◌and◌, ◌or◌, from, all, flat_map}
use Rattle.logic.specs.Query.{Literal, literals}
use Rattle.theory.proofs.Basics.Count.{length-flat_map}
use Rattle.theory.proofs.Basics.Compare.{eqb-false}
use Rattle.query.specs.LaysOut.{literal_in}
use Rattle.query.proofs.Literals.{listed, listed_end, listed_next, listed-mem, listed-length, literals_are}
use Rattle.entries.proofs.Loops.{drop_next}
use Rattle.joining.specs.Pairs.{Pair, pairs, pairs_of, has_terms}
use Rattle.encoding.specs.QueryBytes.{sign_byte, literal_bytes}
use Rattle.joining.specs.Joined.{raised_entry, raised, pair_literal}
use Rattle.rows.proofs.Selections.{and_both}
use Rattle.joiner.specs.Bytes.{Small, SmallEntries, SmallPairs, pair_of}

-- What is left of a list that is read by its places, as bytes
module _ {A : Type 0} (b : A → List ℕ) (f : ℕ → A) (count : ℕ) where
  abbrev pub rest : ℕ → List ℕ
  rest k = flat_map b (listed f count k)

  pub rest_next : (k : ℕ) → k < count → rest k ≡ b (f k) ++ rest (k + 1)
  unfolding flat_map
  rest_next k h = ap (flat_map b) (listed_next f count k h)

  pub rest_end : (k : ℕ) → count ≤ k → rest k ≡ []
  unfolding flat_map
  rest_end k h = ap (flat_map b) (listed_end f count k h)

map-map : {A B C : Type 0} (g : B → C) (f : A → B) (xs : List A) → map g (map f xs) ≡ map (λ x. g (f x)) xs
map-map g f [] = refl
map-map {C} g f (x ∷ xs) = ap (λ (ys : List C). g (f x) ∷ ys) (map-map g f xs)

listed-map : {A B : Type 0} (g : A → B) (f : ℕ → A) (count i : ℕ) → map g (listed f count i) ≡ listed (λ k. g (f k)) count i
unfolding listed
listed-map g f count i = map-map g f (from (count - i) i)

flat : (xs : List ℕ) → xs ≡ flat_map (λ e. e ∷ []) xs
unfolding flat_map
flat [] = refl
flat (x ∷ xs) = ap (λ (ys : List ℕ). x ∷ ys) (flat xs)

-- Literals

abbrev pub raised_at : List ℕ → ℕ → ℕ → ℕ → ℕ → Literal
raised_at bytes at i j k = raised i j (literal_in bytes at k)

module _ (bytes : List ℕ) (at count i j : ℕ) (fits : at + 3 * count ≤ length bytes) where
  pub literals-all : flat_map literal_bytes (map (raised i j) (literals (take (3 * count) (drop at bytes)))) ≡ rest literal_bytes (raised_at bytes at i j) count 0
  literals-all =
      ap (flat_map literal_bytes) (ap (map (raised i j)) (literals_are bytes at count fits) ∙ listed-map (raised i j) (literal_in bytes at) count 0)

  pub literal_small : Small i j (literals (take (3 * count) (drop at bytes))) → (k : ℕ) → k < count → (i + get_or bytes (at + 3 * k + 1) 0 < 256) × (j + get_or bytes (at + 3 * k + 2) 0 < 256)
  literal_small h k l = h (literal_in bytes at k) (rw (literals_are bytes at count fits) (listed-mem (literal_in bytes at) count k l))

pub literal-bytes : {plain : Bool} {left right : ℕ} (i j : ℕ) (l : Literal) → plain ≡ l.plain → left ≡ l.left → right ≡ l.right →
    sign_byte plain ∷ (i + left) ∷ (j + right) ∷ [] ≡ literal_bytes (raised i j l)
unfolding literal_bytes raised
literal-bytes i j l p e f = rw (p, e, f)

-- Entries

abbrev pub one : ℕ → List ℕ
one e = e ∷ []

abbrev pub entry_at : List ℕ → ℕ → ℕ → ℕ
entry_at bytes n t = raised_entry n (get_or bytes (t + 1) 0)

module _ (bytes : List ℕ) where
  entries_from : (count j : ℕ) → 1 + j + count ≤ length bytes → take count (drop (1 + j) bytes) ≡ map (λ t. get_or bytes (t + 1) 0) (from count j)
  unfolding from
  entries_from zero j h = refl
  entries_from (suc count) j h =
      ap (take (suc count)) (drop_next bytes (1 + j) (omega arith))
      ∙ ap (λ (xs : List ℕ). get_or bytes (1 + j) 0 ∷ take count xs) (ap (λ (m : ℕ). drop m bytes) step)
      ∙ ap (λ (m : ℕ). get_or bytes m 0 ∷ take count (drop (1 + suc j) bytes)) here
      ∙ ap (λ (xs : List ℕ). get_or bytes (j + 1) 0 ∷ xs) (entries_from count (suc j) (omega arith))
    where
      step : 1 + j + 1 ≡ 1 + suc j
      step = omega arith

      here : 1 + j ≡ j + 1
      here = omega arith

  module _ (count n : ℕ) (fits : count + 1 ≤ length bytes) where
    entries_are : take count (drop 1 bytes) ≡ listed (λ t. get_or bytes (t + 1) 0) count 0
    unfolding listed
    entries_are = rw (sub-zero count) (entries_from count 0 (omega arith))

    pub entries_all : map (raised_entry n) (take count (drop 1 bytes)) ≡ rest one (entry_at bytes n) count 0
    entries_all =
        ap (map (raised_entry n)) entries_are ∙ listed-map (raised_entry n) (λ t. get_or bytes (t + 1) 0) count 0
        ∙ flat (listed (entry_at bytes n) count 0)

    pub entry_small : SmallEntries n (take count (drop 1 bytes)) → (t : ℕ) → t < count → entry_at bytes n t < 256
    entry_small h t l = h (get_or bytes (t + 1) 0) (rw entries_are (listed-mem (λ t. get_or bytes (t + 1) 0) count t l))

pub raised_kept : (n e : ℕ) → e ≡ 0 → e ≡ raised_entry n e
unfolding raised_entry ◌or◌
raised_kept n e h = rw h

pub raised-nil : (n e : ℕ) → e ≡ 255 → e ≡ raised_entry n e
unfolding raised_entry ◌or◌
raised-nil n e h = rw h

pub raised_more : (n e : ℕ) → (e ≡ 0 → ⊥) → (e ≡ 255 → ⊥) → n + e ≡ raised_entry n e
unfolding raised_entry ◌or◌
raised_more n e h g = rw (eqb-false e 0 h, eqb-false e 255 g)

-- Pairs

abbrev pub pair_in : List ℕ → ℕ → Pair
pair_in bytes k = pair_of (get_or bytes (2 * k + 1) 0) (get_or bytes (2 * k + 2) 0)

module _ (bytes : List ℕ) where
  pairs-from : (count j : ℕ) → length bytes ≡ 1 + 2 * j + 2 * count → pairs (drop (2 * j + 1) bytes) ≡ map (pair_in bytes) (from count j)
  unfolding pairs from
  pairs-from zero j h = rw (drop_of_length-le bytes {i = 2 * j + 1} (omega arith))
  pairs-from (suc count) j h =
      ap pairs (drop_next bytes (2 * j + 1) (omega arith)
      ∙ ap (λ (xs : List ℕ). get_or bytes (2 * j + 1) 0 ∷ xs)
      (ap (λ (m : ℕ). drop m bytes) one ∙ drop_next bytes (2 * j + 2) (omega arith)
      ∙ ap (λ (xs : List ℕ). get_or bytes (2 * j + 2) 0 ∷ xs) (ap (λ (m : ℕ). drop m bytes) two)))
      ∙ ap (λ (ps : List Pair). pair_in bytes j ∷ ps) (pairs-from count (suc j) (omega arith))
    where
      one : 2 * j + 1 + 1 ≡ 2 * j + 2
      one = omega arith

      two : 2 * j + 2 + 1 ≡ 2 * suc j + 1
      two = omega arith

  module _ (count : ℕ) (long : length bytes ≡ 1 + 2 * count) where
    pub pairs_are : pairs_of bytes ≡ listed (pair_in bytes) count 0
    unfolding pairs_of listed
    pairs_are = rw (sub-zero count) (pairs-from count 0 (omega arith))

    pub pairs-all : (n : ℕ) → flat_map literal_bytes (map (pair_literal n) (pairs_of bytes)) ≡ rest literal_bytes (λ k. pair_literal n (pair_in bytes k)) count 0
    pairs-all n = ap (flat_map literal_bytes) (ap (map (pair_literal n)) pairs_are ∙ listed-map (pair_literal n) (pair_in bytes) count 0)

    pub pair_small : (n : ℕ) → SmallPairs n (pairs_of bytes) → (k : ℕ) → k < count → (get_or bytes (2 * k + 1) 0 < 256) × (n + get_or bytes (2 * k + 2) 0 < 256)
    pair_small n h k l = h (pair_in bytes k) (rw pairs_are (listed-mem (pair_in bytes) count k l))

pub pair-bytes : {a b : ℕ} (n : ℕ) (p : Pair) → a ≡ p.first → b ≡ p.second → sign_byte true ∷ a ∷ (n + b) ∷ [] ≡ literal_bytes (pair_literal n p)
unfolding literal_bytes pair_literal
pair-bytes n p e f = rw (e, f)

-- a test of the elements that are left
module _ {A : Type 0} (p : A → Bool) (f : ℕ → A) (count : ℕ) where
  pub test_end : (k : ℕ) → count ≤ k → all p (listed f count k) ≡ true
  unfolding all
  test_end k h = ap (all p) (listed_end f count k h)

  pub test_fails : (k : ℕ) → k < count → p (f k) ≡ false → all p (listed f count k) ≡ false
  unfolding all ◌and◌
  test_fails k h e = rw (listed_next f count k h, e)

  pub test_next : (k : ℕ) → k < count → p (f k) ≡ true → all p (listed f count k) ≡ all p (listed f count (k + 1))
  unfolding all ◌and◌
  test_next k h e = rw (listed_next f count k h, e)

pub has_terms_is : (n m a b : ℕ) → ltb 0 a && leb a n && (ltb 0 b && leb b m) ≡ has_terms n m (pair_of a b)
unfolding has_terms
has_terms_is n m a b =
    and_both (ltb 0 a && leb a n) (ltb 0 b && leb b m) ∙ ap (λ (x : Bool). x and (ltb 0 b && leb b m)) (and_both (ltb 0 a) (leb a n))
    ∙ ap (λ (x : Bool). ltb 0 a and leb a n and x) (and_both (ltb 0 b) (leb b m))

pub sign_plain : {plain : Bool} → plain ≡ true → 1 ∷ [] ≡ sign_byte plain ∷ []
unfolding sign_byte
sign_plain e = rw e

pub sign_negated : {plain : Bool} → plain ≡ false → 0 ∷ [] ≡ sign_byte plain ∷ []
unfolding sign_byte
sign_negated e = rw e

-- how many bytes are written
pub entries_long : (f : ℕ → ℕ) (count : ℕ) (bytes : List ℕ) → count + 1 ≤ length bytes → length (map f (take count (drop 1 bytes))) ≡ count
entries_long f count bytes h = length-map (take count (drop 1 bytes)) f ∙ length-take-le count (drop 1 bytes) (omega (arith, length-drop 1 bytes))

pub literals_long : (bytes : List ℕ) (at count i j : ℕ) → at + 3 * count ≤ length bytes → length (flat_map literal_bytes (map (raised i j) (literals (take (3 * count) (drop at bytes))))) ≡ count * 3
unfolding literal_bytes
literals_long bytes at count i j h =
    length-flat_map literal_bytes 3 (λ l. refl) (map (raised i j) (literals (take (3 * count) (drop at bytes))))
    ∙ ap (λ (k : ℕ). k * 3) (length-map (literals (take (3 * count) (drop at bytes))) (raised i j) ∙ ap length (literals_are bytes at count h) ∙ listed-length (literal_in bytes at) count)

pub pair_is : {a b i j : ℕ} → a ≡ i → b ≡ j → pair_of a b ≡ pair_of i j
pair_is e f = rw (e, f)

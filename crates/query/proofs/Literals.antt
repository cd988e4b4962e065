-- The literals of a section as a list of what is read in place: f 0, f 1, and so on. A loop over i meets f i and what is left.
use Prim.Native.Nat.{ℕ, zero, suc, ◌+◌, ◌-◌, ◌*◌, ◌≤◌, ◌<◌}
use native.Mathlib.Nat.{zero-add, add-zero, mul-zero, mul-suc, sub-zero, sub-eq-zero_of_le}
use native.Mathlib.Numerals.{add-one, one-add}
use native.Mathlib.Omega.{arith}
use mathlib.Core.Path.{◌≡◌, refl, sym, ap, ◌∙◌}
use mathlib.Core.Bool.{Bool, true, false}
use mathlib.Core.List.{List, [], ◌∷◌, map, Memᴰ}
use mathlib.Core.Option.{some}
use lib.ListN.{length, get_or, take, drop}
use lib.Seq.{get_or-drop, get_or-take}
use Rattle.logic.specs.Search.{◌or◌, from, any, at}
use Rattle.logic.specs.Query.{Entries, Query, entry_of, literals}
use Rattle.theory.proofs.Basics.Search.{from_intro, map_intro}
use Rattle.query.specs.declared.Layout.{Layout}
use Rattle.query.specs.LaysOut.{LaysOutAs, literal_in}
use Rattle.entries.proofs.Loops.{drop_three}
use Rattle.rows.proofs.Loops.{from_end, from_next}

-- Lists that are read by their places

module _ {A : Type 0} (f : ℕ → A) where
  -- the elements that f gives from i on, below count
  unfoldable pub listed : ℕ → ℕ → List A
  listed count i = map f (from (count - i) i)

  pub listed_end : (count i : ℕ) → count ≤ i → listed count i ≡ []
  unfolding listed
  listed_end count i h = ap (map f) (from_end count i h)

  pub listed_next : (count i : ℕ) → i < count → listed count i ≡ f i ∷ listed count (i + 1)
  unfolding listed
  listed_next count i h = ap (map f) (from_next count i h)

  mapped_length : (k i : ℕ) → length (map f (from k i)) ≡ k
  unfolding from
  mapped_length zero i = refl
  mapped_length (suc k) i = ap suc (mapped_length k (suc i))

  mapped_drop : (k i j : ℕ) → drop j (map f (from k i)) ≡ map f (from (k - j) (i + j))
  unfolding from
  mapped_drop k i zero = rw (sub-zero, add-zero)
  mapped_drop zero i (suc j) = rw (sub-eq-zero_of_le {n = zero} {m = suc j} (omega arith))
  mapped_drop (suc k) i (suc j) =
      mapped_drop k (suc i) j ∙ ap (λ (m : ℕ). map f (from m (suc i + j))) left ∙ ap (λ (m : ℕ). map f (from (suc k - suc j) m)) place
    where
      left : k - j ≡ suc k - suc j
      left = omega arith

      place : suc i + j ≡ i + suc j
      place = omega arith

  mapped_at : (k i j : ℕ) → j < k → at (map f (from k i)) (suc j) ≡ some (f (i + j))
  unfolding from at
  mapped_at zero i j h = absurd (omega arith)
  mapped_at (suc k) i zero h = rw add-zero
  mapped_at (suc k) i (suc j) h = mapped_at k (suc i) j (omega arith) ∙ ap (λ (m : ℕ). some (f m)) place
    where
      place : suc i + j ≡ i + suc j
      place = omega arith

  module _ (count : ℕ) where
    pub listed-mem : (i : ℕ) → i < count → Memᴰ (f i) (listed count 0)
    unfolding listed
    listed-mem i h = map_intro f i (from_intro (count - 0) 0 i (omega arith) (omega arith))

    pub listed-length : length (listed count 0) ≡ count
    unfolding listed
    listed-length = mapped_length (count - 0) 0 ∙ sub-zero count

    pub listed-drop : (i : ℕ) → drop i (listed count 0) ≡ listed count i
    unfolding listed
    listed-drop i = mapped_drop (count - 0) 0 i ∙ rw (sub-zero count, zero-add)

    pub listed_get_d : (i : ℕ) (d : A) → i < count → get_or (listed count 0) i d ≡ f i
    listed_get_d i d h = ap (λ (j : ℕ). get_or (listed count 0) j d) (sym (add-zero i)) ∙ sym (get_or-drop i (listed count 0) 0 d) ∙ rw (listed-drop i, listed_next count i h)

    pub listed_at : (i : ℕ) → i < count → at (listed count 0) (i + 1) ≡ some (f i)
    unfolding listed
    listed_at i h = rw add-one (mapped_at (count - 0) 0 i (omega arith) ∙ rw zero-add)

-- a test of the elements from i on, as a loop over i meets it
module _ {A : Type 0} (f : ℕ → A) (p : A → Bool) (count i : ℕ) where
  pub any-listed_end : count ≤ i → any p (listed f count i) ≡ false
  unfolding any
  any-listed_end h = rw (listed_end f count i h)

  pub any-listed_here : i < count → p (f i) ≡ true → any p (listed f count i) ≡ true
  unfolding any ◌or◌
  any-listed_here h e = rw (listed_next f count i h, e)

  pub any-listed_next : i < count → p (f i) ≡ false → any p (listed f count i) ≡ any p (listed f count (i + 1))
  unfolding any ◌or◌
  any-listed_next h e = rw (listed_next f count i h, e)

-- Sections

-- Bytes at `at` in entries of w bytes, of which g makes a list: it makes f j of entry j.
module _ {A : Type 0} (w : ℕ) (g : List ℕ → List A) (f : ℕ → A) (bytes : List ℕ) (at : ℕ) (nothing : g [] ≡ [])
    (entry : (j m : ℕ) → at + w * j + w ≤ length bytes → g (take (w + m) (drop (at + w * j) bytes)) ≡ f j ∷ g (take m (drop (at + w * j + w) bytes))) where
  split_from : (count j : ℕ) → at + w * j + w * count ≤ length bytes → g (take (w * count) (drop (at + w * j) bytes)) ≡ map f (from count j)
  unfolding from
  split_from zero j h = rw mul-zero nothing
  split_from (suc count) j h =
      rw size (entry j (w * count) (omega arith) ∙ ap (λ (ls : List A). f j ∷ ls) (rw place (split_from count (suc j) (omega (arith, place, size)))))
    where
      size : w * suc count ≡ w + w * count
      size = omega (arith, mul-suc w count)

      place : at + w * j + w ≡ at + w * suc j
      place = omega (arith, mul-suc w j)

  pub split_are : (count : ℕ) → at + w * count ≤ length bytes → g (take (w * count) (drop at bytes)) ≡ listed f count 0
  unfolding listed
  split_are count h =
      ap (λ (m : ℕ). g (take (w * count) (drop m bytes))) (sym front)
      ∙ split_from count 0 (rw front h)
      ∙ ap (λ (m : ℕ). map f (from m 0)) (sym (sub-zero count))
    where
      front : at + w * 0 ≡ at
      front = rw mul-zero (add-zero at)

module _ (bytes : List ℕ) (at count : ℕ) where
  pub literals_are : at + 3 * count ≤ length bytes → literals (take (3 * count) (drop at bytes)) ≡ listed (literal_in bytes at) count 0
  unfolding literals
  literals_are = split_are 3 literals (literal_in bytes at) bytes at refl (λ j m h. rw (drop_three bytes (at + 3 * j) h, one_more m)) count
    where
      one_more : (m : ℕ) → 3 + m ≡ suc (suc (suc m))
      one_more m = omega arith

-- What the query says, read in place

module _ {q : Query} (l : Layout) (bytes : List ℕ) (laid : LaysOutAs q l bytes) where
  pub equalities-listed : q.equalities ≡ listed (literal_in bytes l.equal_at) l.equal_count 0
  equalities-listed = laid.equal_are ∙ literals_are bytes l.equal_at l.equal_count laid.equal_fit

  pub reachability-listed : q.reachability ≡ listed (literal_in bytes l.reach_at) l.reach_count 0
  reachability-listed = laid.reach_are ∙ literals_are bytes l.reach_at l.reach_count laid.reach_fit

  pub fields-listed : q.fields ≡ listed (literal_in bytes l.field_at) l.field_count 0
  fields-listed = laid.field_are ∙ literals_are bytes l.field_at l.field_count laid.field_fit

  pub entry_is : (t : ℕ) → 1 ≤ t → t ≤ l.terms → get_or bytes t 0 ≡ entry_of q.entries t
  unfolding entry_of
  entry_is zero h u = absurd (omega arith)
  entry_is (suc t) h u =
      sym (ap (λ (es : Entries). get_or es.terms t 0) laid.entries_are ∙ get_or-take l.terms (drop 1 bytes) t 0 (omega arith) ∙ get_or-drop 1 bytes t 0 ∙ rw one-add)

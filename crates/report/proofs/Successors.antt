-- The successors of the nodes, written link by link.
use Prim.Native.Nat.{ℕ, zero, suc, ◌+◌, ◌-◌, ◌*◌, ◌≤◌, ◌<◌}
use native.Mathlib.Nat.{suc-mul, zero-mul}
use native.Mathlib.Omega.{arith}
use mathlib.Core.Path.{◌≡◌, refl, sym, ap, ap₂, ◌∙◌}
use mathlib.Core.Bool.{Bool}
use mathlib.Core.List.{List, [], ◌∷◌, ◌++◌, map, append_assoc, append-nil, Memᴰ}
use lib.ListN.{length, get_or, length-append, length-map}
use Rattle.logic.specs.Search.{from, flat_map}
use Rattle.logic.specs.Facts.{Facts, link_numbers}
use Rattle.logic.specs.Calls.{padded}
use Rattle.logic.specs.Shown.{shown_link}
use Rattle.rows.proofs.Loops.{from_end, from_next}
use Rattle.lent.specs.Appending.{Appends}
use Rattle.lent.proofs.Writing.{appends_none, appends_then}
use Rattle.completion.proofs.Completing.{shown-below}
use Rattle.heap_nodes.specs.Nodes.{node_of, marked, Numbers}
use Rattle.report.specs.Bytes.{successors_among}
use Rattle.heap_nodes.proofs.Nodes.{marked_below}

pub map_alike : (f g : ℕ → ℕ) (xs : List ℕ) → ((x : ℕ) → Memᴰ x xs → f x ≡ g x) → map f xs ≡ map g xs
map_alike f g [] h = refl
map_alike f g (x ∷ xs) h = ap₂ (λ (y : ℕ) (ys : List ℕ). y ∷ ys) (h x (Memᴰ.head refl)) (map_alike f g xs (λ y m. h y (Memᴰ.tail m)))

-- the bytes of one link are the successors along it
pub successors_are : (n : ℕ) (s : Facts) (marks : List Bool) (list : List ℕ) (i : ℕ) (bytes : List ℕ) → n ≤ 16 → Numbers list (marked marks n) →
    ((t : ℕ) → t ≤ n → get_or bytes t 0 ≡ node_of list (shown_link n s i t)) → map (λ t. get_or bytes t 0) (marked marks n) ≡ successors_among n s (marked marks n) i
unfolding successors_among
successors_are n s marks list i bytes h numbers linked =
    map_alike _ _ (marked marks n) (λ v m. linked v (marked_below marks n v m) ∙ numbers (shown_link n s i v) (omega (arith, shown-below n s i v)))

pub successors_length : (n : ℕ) (s : Facts) (ts : List ℕ) (i : ℕ) → length (successors_among n s ts i) ≡ length ts
unfolding successors_among
successors_length n s ts i = length-map ts _

-- rows of m bytes
module _ (row : ℕ → List ℕ) (m : ℕ) (sized : (i : ℕ) → length (row i) ≡ m) where
  length_from : (c i : ℕ) → length (flat_map row (from c i)) ≡ c * m
  unfolding flat_map from
  length_from zero i = sym (zero-mul m)
  length_from (suc c) i =
      omega (arith, length-append (row i) (flat_map row (from c (suc i))), sized i, length_from c (suc i), suc-mul c m)

  pub rows-length : (links : ℕ) → length (flat_map row (link_numbers links)) ≡ links * m
  unfolding link_numbers
  rows-length links = length_from links 1

-- such rows, written one behind the other: those of the numbers below k
module _ (row : ℕ → List ℕ) (links at : ℕ) where
  pub record PutRows (k to : ℕ) (old cur : List ℕ) : Type 0 where
    pub written : List ℕ
    pub appended : Appends old cur at written
    pub placed : to ≡ at + length written
    pub left : written ++ flat_map row (from (links + 1 - k) k) ≡ flat_map row (link_numbers links)
    pub same : length cur ≡ length old

  pub rows_none : (old : List ℕ) → PutRows 1 at old old
  unfolding link_numbers
  rows_none old =
      record {
        written = [];
        appended = appends_none old at;
        placed = omega arith;
        left = ap (λ (c : ℕ). flat_map row (from c 1)) one_less;
        same = refl;
      }
    where
      one_less : links + 1 - 1 ≡ links
      one_less = omega arith

  module _ (m : ℕ) (sized : (i : ℕ) → length (row i) ≡ m) where
    module _ (k to : ℕ) (old cur : List ℕ) (now : PutRows k to old cur) where
      rest_here : k ≤ links → flat_map row (from (links + 1 - k) k) ≡ row k ++ flat_map row (from (links + 1 - (k + 1)) (k + 1))
      unfolding flat_map
      rest_here h = ap (flat_map row) (from_next (links + 1) k (omega arith))

      -- how much is left to write
      sizes : to + length (flat_map row (from (links + 1 - k) k)) ≡ at + links * m
      sizes =
          omega (arith, ap length now.left, length-append now.written (flat_map row (from (links + 1 - k) k)), now.placed, rows-length row m sized links)

      pub rows_room : k ≤ links → at + links * m ≤ length old → to + m ≤ length cur
      rows_room h r =
          omega (arith, sizes, ap length (rest_here h), length-append (row k) (flat_map row (from (links + 1 - (k + 1)) (k + 1))), sized k, now.same)

      pub rows_here : k ≤ links → (new bytes : List ℕ) → bytes ≡ row k → length new ≡ length cur → Appends cur new to bytes → PutRows (k + 1) (to + m) old new
      rows_here h new bytes e l a =
          let rest : List ℕ = flat_map row (from (links + 1 - (k + 1)) (k + 1)) in
          record {
            written = now.written ++ bytes;
            appended = appends_then old cur new at to now.written bytes now.same now.placed now.appended a;
            placed = omega (arith, now.placed, length-append now.written bytes, ap length e, sized k);
            left = append_assoc now.written bytes rest
                ∙ ap (λ (ys : List ℕ). now.written ++ (ys ++ rest)) e
                ∙ ap (λ (ys : List ℕ). now.written ++ ys) (sym (rest_here h))
                ∙ now.left;
            same = l ∙ now.same;
          }

      pub rows_all : links < k → (to ≡ at + links * m) × Appends old cur at (flat_map row (link_numbers links))
      unfolding flat_map
      rows_all h =
          let none = ap (flat_map row) (from_end (links + 1) k (omega arith)) in
          let whole : now.written ≡ flat_map row (link_numbers links) = sym (append-nil now.written) ∙ ap (λ (ys : List ℕ). now.written ++ ys) (sym none) ∙ now.left in
          (omega (arith, sizes, ap length none), λ front e o. now.appended front e o ∙ ap (λ (ys : List ℕ). padded (length old) (front ++ ys)) whole)

-- a count and what it counts
pub counted_then : (a b c : List ℕ) (at next count count' : ℕ) (zs : List ℕ) → count ≡ count' → length b ≡ length a → next ≡ at + 1 →
    Appends a b at (count ∷ []) → Appends b c next zs → Appends a c at (count' ∷ zs)
counted_then a b c at next count count' zs is l n first rest =
    λ front e o. appends_then a b c at next (count ∷ []) zs l n first rest front e o ∙ ap (λ (k : ℕ). padded (length a) (front ++ (k ∷ zs))) is

-- Lines and terms as a loop meets them: what is left, one at a time.
use Prim.Native.Nat.{ℕ, ◌+◌, ◌-◌, ◌≤◌, ◌<◌}
use native.Mathlib.Omega.{arith}
use mathlib.Core.Path.{◌≡◌, sym, ap}
use mathlib.Core.Bool.{Bool, true, false}
use mathlib.Core.List.{List, [], ◌++◌, append_assoc}
use lib.ListN.{length, length-append}
use Rattle.logic.specs.Search.{from, select, flat_map}
use Rattle.text.specs.Text.{decimal}
use Rattle.text.proofs.Writing.{Part, part_more, part_place, writes_none}
use Rattle.rows.proofs.Loops.{from_end, from_next}
use Rattle.drawing.specs.Text.{blank, listed}

-- Lines

module _ (line : ℕ → List ℕ) (m : ℕ) where
  abbrev pub lines : ℕ → List ℕ
  lines v = flat_map line (from (m + 1 - v) v)

  pub lines_all : lines 1 ≡ flat_map line (from m 1)
  lines_all = ap (λ (k : ℕ). flat_map line (from k 1)) (less)
    where
      less : m + 1 - 1 ≡ m
      less = omega arith

  pub lines_next : (v : ℕ) → v ≤ m → lines v ≡ line v ++ lines (v + 1)
  unfolding flat_map
  lines_next v h = ap (flat_map line) (from_next (m + 1) v (omega arith))

  pub lines_end : (v : ℕ) → m < v → lines v ≡ []
  unfolding flat_map
  lines_end v h = ap (flat_map line) (from_end (m + 1) v (omega arith))

-- The terms of a label

module _ (named : ℕ → Bool) (n : ℕ) where
  abbrev pub terms : Bool → ℕ → List ℕ
  terms first t = listed first (select named (from (n + 1 - t) t))

  pub terms_all : terms true 1 ≡ listed true (select named (from n 1))
  terms_all = ap (λ (k : ℕ). listed true (select named (from k 1))) (less)
    where
      less : n + 1 - 1 ≡ n
      less = omega arith

  pub terms_here : (first : Bool) (t : ℕ) → t ≤ n → named t ≡ true → terms first t ≡ (blank first ++ decimal t) ++ terms false (t + 1)
  unfolding listed select
  terms_here first t h e = rw (from_next (n + 1) t (omega arith), e) (sym (append_assoc (blank first) (decimal t) (terms false (t + 1))))

  pub terms_skip : (first : Bool) (t : ℕ) → t ≤ n → named t ≡ false → terms first t ≡ terms first (t + 1)
  unfolding select
  terms_skip first t h e = rw (from_next (n + 1) t (omega arith), e)

  pub terms_end : (first : Bool) (t : ℕ) → n < t → terms first t ≡ []
  unfolding listed select
  terms_end first t h = ap (λ (ts : List ℕ). listed first (select named ts)) (from_end (n + 1) t (omega arith))

-- Loops of writers

pub part_start : {whole left : List ℕ} (a : List ℕ) (at : ℕ) → left ≡ whole → Part a at whole a at left
part_start a at e = record { done = []; wrote = writes_none a at; makes = e }

-- nothing to write
pub part_skip : {a b whole left rest : List ℕ} {at to : ℕ} → Part a at whole b to left → left ≡ rest → Part a at whole b to rest
part_skip p e = part_more p e (writes_none _ _)

-- what stands first in what is left has room where the whole has
pub part_room : {a b whole left : List ℕ} {at to limit : ℕ} (bytes rest : List ℕ) → Part a at whole b to left → left ≡ bytes ++ rest → at + length whole ≤ limit → to + length bytes ≤ limit
part_room bytes rest p e h = omega (arith, part_place p, ap length e, length-append bytes rest)

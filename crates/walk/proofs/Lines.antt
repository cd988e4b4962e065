-- Laws of the lines in a lent buffer.
use Prim.Native.Nat.{ℕ, ◌+◌, ◌*◌, ◌-◌, ◌≤◌, ◌<◌}
use native.Mathlib.Omega.{arith}
use mathlib.Core.Path.{◌≡◌, refl, sym, ap, ap₂, ◌∙◌}
use mathlib.Core.Logic.{⊎_elim}
use mathlib.Core.List.{List, [], ◌∷◌, ◌++◌, map}
use lib.ListN.{length, get_or, set, length-set}
use borrow.Author.Tests.{lt-ltb, le-ltb, le-leb, lt-leb}
use Rattle.logic.specs.Search.{from}
use Rattle.logic.specs.Facts.{Line, line, join_lines}
use Rattle.joins.specs.Pairs.{pair_at, pairs_of}
use Rattle.joins.specs.declared.Pairs.{Pairs}
use Rattle.rows.proofs.Loops.{from_end, from_next}
use Rattle.theory.proofs.Basics.Compare.{le_cases}
use Rattle.walk.specs.Lines.{counted, count_all, put_line, put_all}

pub counted_more : (c : ℕ) → c ≤ 16000 → counted c ≡ c + 1
unfolding counted
counted_more c h = rw (le-leb c 16000 h)

pub counted_full : (c : ℕ) → 16000 < c → counted c ≡ c
unfolding counted
counted_full c h = rw (lt-leb c 16000 h)

pub put_line_full : (b : List ℕ) (c w x y z : ℕ) → length b < 4 * c + 2 + 4 → put_line b c (line w x y z) ≡ b
unfolding put_line
put_line_full b c w x y z h = rw (lt-ltb (length b) (4 * c + 2 + 4) h)

pub put_line_put : (b : List ℕ) (c w x y z : ℕ) → 4 * c + 2 + 4 ≤ length b → put_line b c (line w x y z) ≡ set (set (set (set b (4 * c + 2) w) (4 * c + 2 + 1) x) (4 * c + 2 + 2) y) (4 * c + 2 + 3) z
unfolding put_line
put_line_put b c w x y z h = rw (le-ltb (length b) (4 * c + 2 + 4) h)

pub count_all-append : (c : ℕ) (ls ms : List Line) → count_all c (ls ++ ms) ≡ count_all (count_all c ls) ms
unfolding count_all
count_all-append c [] ms = refl
count_all-append c (l ∷ ls) ms = count_all-append (counted c) ls ms

pub put_all-append : (b : List ℕ) (c : ℕ) (ls ms : List Line) → put_all b c (ls ++ ms) ≡ put_all (put_all b c ls) (count_all c ls) ms
unfolding put_all count_all
put_all-append b c [] ms = refl
put_all-append b c (l ∷ ls) ms = put_all-append (put_line b c l) (counted c) ls ms

-- the count does not fall
pub counted_grows : (c : ℕ) → c ≤ counted c
counted_grows c = ⊎_elim (λ l. omega (arith, counted_more c l)) (λ l. omega (arith, counted_full c l)) (le_cases c 16000)

pub count_all_grows : (c : ℕ) (ls : List Line) → c ≤ count_all c ls
unfolding count_all
count_all_grows c [] = omega arith
count_all_grows c (l ∷ ls) = let g = counted_grows c in let h = count_all_grows (counted c) ls in omega arith

-- it stays below its stop, and the buffer as long as it is
pub counted_bound : (c : ℕ) → c ≤ 16001 → counted c ≤ 16001
counted_bound c h = ⊎_elim (λ l. omega (arith, counted_more c l)) (λ l. omega (arith, counted_full c l)) (le_cases c 16000)

pub count_all_bound : (c : ℕ) (ls : List Line) → c ≤ 16001 → count_all c ls ≤ 16001
unfolding count_all
count_all_bound c [] h = h
count_all_bound c (l ∷ ls) h = count_all_bound (counted c) ls (counted_bound c h)

pub put_line-length' : (b : List ℕ) (c : ℕ) (l : Line) → length (put_line b c l) ≡ length b
put_line-length' b c (line w x y z) =
    ⊎_elim
    (λ h. ap length (put_line_put b c w x y z h) ∙ simp length-set)
    (λ h. ap length (put_line_full b c w x y z h))
    (le_cases (4 * c + 2 + 4) (length b))

pub put_all-length' : (b : List ℕ) (c : ℕ) (ls : List Line) → length (put_all b c ls) ≡ length b
unfolding put_all
put_all-length' b c [] = refl
put_all-length' b c (l ∷ ls) = put_all-length' (put_line b c l) (counted c) ls ∙ put_line-length' b c l

-- what is counted where the stop is not met
pub count_all_small : (c : ℕ) (ls : List Line) → c + length ls ≤ 16001 → count_all c ls ≡ c + length ls
unfolding count_all
count_all_small c [] h = omega arith
count_all_small c (l ∷ ls) h =
    let e = counted_more c (omega arith) in
    let ih = count_all_small (counted c) ls (omega arith) in
    omega arith

pub count_all_large : (c : ℕ) (ls : List Line) → c ≤ 16001 → 16001 ≤ c + length ls → count_all c ls ≡ 16001
unfolding count_all
count_all_large c [] h k = omega arith
count_all_large c (l ∷ ls) h k =
    ⊎_elim
    (λ m. let e = counted_more c m in count_all_large (counted c) ls (omega arith) (omega arith))
    (λ m. let e = counted_full c m in count_all_large (counted c) ls (omega arith) (omega arith))
    (le_cases c 16000)

-- The lines of pairs, one after the other: what is left from pair i on comes out as the whole
module _ (p : Pairs) where
  -- the pairs from i on
  pub pairs_from : ℕ → List (ℕ × ℕ)
  pairs_from i = map (pair_at p.entries) (from (p.count - i) i)

  pub pairs_whole : pairs_of p ≡ pairs_from 0
  unfolding pairs_of pairs_from
  pairs_whole = ap (λ (k : ℕ). map (pair_at p.entries) (from k 0)) all
    where
      all : p.count ≡ p.count - 0
      all = omega arith

  pub pairs_end : (i : ℕ) → p.count ≤ i → pairs_from i ≡ []
  unfolding pairs_from
  pairs_end i h = ap (map (pair_at p.entries)) (from_end p.count i h)

  pub pairs_next : (i : ℕ) → i < p.count → pairs_from i ≡ pair_at p.entries i ∷ pairs_from (i + 1)
  unfolding pairs_from
  pairs_next i h = ap (map (pair_at p.entries)) (from_next p.count i h)

  -- after i pairs, the buffer and the count are those from which the others come out as the whole
  pub record PairsLeft (before : List ℕ) (first : ℕ) (i : ℕ) (bytes : List ℕ) (count : ℕ) : Type 0 where
    pub counts : count_all first (join_lines (pairs_of p)) ≡ count_all count (join_lines (pairs_from i))
    pub writes : put_all before first (join_lines (pairs_of p)) ≡ put_all bytes count (join_lines (pairs_from i))

  module _ (before : List ℕ) (first : ℕ) where
    pub left_begin : PairsLeft before first 0 before first
    left_begin = record { counts = ap (λ (ps : List (ℕ × ℕ)). count_all first (join_lines ps)) pairs_whole; writes = ap (λ (ps : List (ℕ × ℕ)). put_all before first (join_lines ps)) pairs_whole }

    module _ (i : ℕ) (bytes : List ℕ) (count : ℕ) (l : PairsLeft before first i bytes count) where
      pub left-next : (bytes' : List ℕ) (count' a b : ℕ) → i < p.count → a ≡ (pair_at p.entries i).0 → b ≡ (pair_at p.entries i).1 →
          bytes' ≡ put_line bytes count (line 10 a b 0) → count' ≡ counted count → PairsLeft before first (i + 1) bytes' count'
      unfolding join_lines count_all put_all
      left-next bytes' count' a b h ea er em ec =
          let eb = em ∙ ap₂ (λ (x y : ℕ). put_line bytes count (line 10 x y 0)) ea er in
          record {
            counts = l.counts ∙ ap (λ (ps : List (ℕ × ℕ)). count_all count (join_lines ps)) (pairs_next i h) ∙ ap (λ (c : ℕ). count_all c (join_lines (pairs_from (i + 1)))) (sym ec);
            writes = l.writes ∙ ap (λ (ps : List (ℕ × ℕ)). put_all bytes count (join_lines ps)) (pairs_next i h)
                ∙ ap₂ (λ (b : List ℕ) (c : ℕ). put_all b c (join_lines (pairs_from (i + 1)))) (sym eb) (sym ec);
          }

      pub left_end : p.count ≤ i → (count ≡ count_all first (join_lines (pairs_of p))) × (bytes ≡ put_all before first (join_lines (pairs_of p)))
      unfolding join_lines count_all put_all
      left_end h = (
        sym (l.counts ∙ ap (λ (ps : List (ℕ × ℕ)). count_all count (join_lines ps)) (pairs_end i h)),
        sym (l.writes ∙ ap (λ (ps : List (ℕ × ℕ)). put_all bytes count (join_lines ps)) (pairs_end i h)),
      )

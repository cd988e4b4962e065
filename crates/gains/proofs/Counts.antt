-- How many bits of a word are set, as how many numbers its row has.
use Prim.Native.Nat.{ℕ, zero, suc, ◌+◌, ◌/◌, ◌%◌, ◌^◌, ◌≤◌, ◌<◌}
use native.Mathlib.Nat.{zero-add, suc-add, pow-suc}
use native.Mathlib.Omega.{arith}
use mathlib.Core.Path.{◌≡◌, refl, sym, ap, ◌∙◌, fun_ext}
use mathlib.Core.Bool.{Bool, true, false, cond}
use mathlib.Core.List.{◌∷◌}
use lib.ListN.{length}
use lib.Bits.{bit_and, and_le_l}
use lib.Count.{ones, ones_in, ones_step}
use lib.Dec.{eqb, ltb}
use borrow.Author.Tests.{eqb-true, eqb-false, lt-ltb, le-ltb}
use Rattle.logic.specs.Search.{◌and◌, from, select}
use Rattle.theory.proofs.Basics.Search.{and-true, and-false}
use Rattle.rows.specs.Bits.{bit}
use Rattle.rows.proofs.Bits.{bit-zero, bit-suc, bit-and}
use Rattle.rows.proofs.Selections.{select_alike}

counted : Bool → ℕ → ℕ
counted true n = suc n
counted false n = n

select_next : (p : ℕ → Bool) (k i : ℕ) → length (select p (from (suc k) i)) ≡ counted (p i) (length (select p (from k (suc i))))
unfolding select from counted
select_next p k i = go (p i)
  where
    go : (b : Bool) → length (cond b (i ∷ select p (from k (suc i))) (select p (from k (suc i)))) ≡ counted b (length (select p (from k (suc i))))
    go true = refl
    go false = refl

shifted : (p : ℕ → Bool) (k i : ℕ) → length (select p (from k (suc i))) ≡ length (select (λ j. p (suc j)) (from k i))
unfolding select from
shifted p zero i = refl
shifted p (suc k) i = select_next p k (suc i) ∙ ap (counted (p (suc i))) (shifted p k (suc i)) ∙ sym (select_next (λ j. p (suc j)) k i)

-- the numbers from k + j on are none
up_to : (p : ℕ → Bool) (j l k : ℕ) → ((i : ℕ) → k + j ≤ i → p i ≡ false) → length (select p (from (j + l) k)) ≡ length (select p (from j k))
unfolding select from counted
up_to p zero zero k h = refl
up_to p zero (suc l) k h =
    ap (λ (m : ℕ). length (select p (from m k))) (zero-add (suc l))
    ∙ select_next p l k
    ∙ rw (h k (omega arith)) (ap (λ (m : ℕ). length (select p (from m (suc k)))) (sym (zero-add l)) ∙ up_to p zero l (suc k) (λ i m. h i (omega arith)))
up_to p (suc j) l k h =
    ap (λ (m : ℕ). length (select p (from m k))) (suc-add j l)
    ∙ select_next p (j + l) k
    ∙ ap (counted (p k)) (up_to p j l (suc k) (λ i m. h i (omega arith))) ∙ sym (select_next p j k)

digit : (w n : ℕ) → w % 2 + n ≡ counted (eqb (w % 2) 1) n
unfolding counted
digit w n = go (eqb (w % 2) 1) refl
  where
    go : (b : Bool) → eqb (w % 2) 1 ≡ b → w % 2 + n ≡ counted b n
    go true e = let d = eqb-true (w % 2) 1 e in omega arith
    go false e = let d = eqb-false (w % 2) 1 e in omega (arith, d)

ones_none : ones 0 ≡ 0
unfolding ones ones_in
ones_none = refl

ones_bits : (k w : ℕ) → w < 2 ^ k → ones w ≡ length (select (bit w) (from k 0))
unfolding select from
ones_bits zero w h = let e : w ≡ 0 = omega arith in ap ones e ∙ ones_none
ones_bits (suc k) w h =
    ones_step w
    ∙ ap (λ (n : ℕ). w % 2 + n) (ones_bits k (w / 2) (omega (arith, pow-suc 2 k)))
    ∙ digit w (length (select (bit (w / 2)) (from k 0)))
    ∙ ap (λ (b : Bool). counted b (length (select (bit (w / 2)) (from k 0)))) (sym (bit-zero w))
    ∙ ap (counted (bit w 0)) (sym (shifted (bit w) k 0 ∙ ap (λ (p : ℕ → Bool). length (select p (from k 0))) (fun_ext (bit-suc w))))
    ∙ sym (select_next (bit w) k 0)

pub ones_up_to : (row m : ℕ) → row < 2 ^ 32 → ((i : ℕ) → bit m i ≡ ltb i 17) → ones (bit_and row m) ≡ length (select (bit row) (from 17 0))
unfolding ◌and◌
ones_up_to row m h e =
    let l = and_le_l row m in
    ones_bits 32 (bit_and row m) (omega arith)
    ∙ up_to (bit (bit_and row m)) 17 15 0 (λ i k. bit-and row m i ∙ rw (e i, le-ltb i 17 (omega arith)) (and-false (bit row i)))
    ∙ ap length (select_alike (bit (bit_and row m)) (bit row) 17 0 (λ i k g. bit-and row m i ∙ rw (e i, lt-ltb i 17 (omega arith)) (and-true (bit row i))))

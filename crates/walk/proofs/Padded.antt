-- Lines that fit, written into a blank buffer, are the derivation's bytes.
use Prim.Native.Nat.{ℕ, suc, ◌+◌, ◌*◌, ◌-◌, ◌/◌, ◌%◌, ◌≤◌}
use native.Mathlib.Omega.{arith}
use native.Mathlib.Nat.{suc-add, zero-add}
use mathlib.Core.Path.{◌≡◌, refl, sym, ap, ◌∙◌, subst}
use mathlib.Core.List.{List, [], ◌∷◌, ◌++◌, append_assoc}
use lib.ListN.{length, set, replicate, length-append}
use Rattle.logic.specs.Search.{flat_map}
use Rattle.logic.specs.Facts.{Line, line}
use Rattle.logic.specs.Derivation.{line_bytes, derivation_bytes}
use Rattle.logic.specs.Calls.{padded}
use Rattle.theory.proofs.Calls.DerivationBytes.{lines_length}
use Rattle.walk.specs.Lines.{counted, put_line, put_all}
use Rattle.walk.proofs.Lines.{counted_more, put_line_put}

-- four bytes set behind a list
set_four : (p : List ℕ) (a b c d w x y z : ℕ) (r : List ℕ) (n : ℕ) → length p ≡ n → set (set (set (set (p ++ a ∷ b ∷ c ∷ d ∷ r) n w) (n + 1) x) (n + 2) y) (n + 3) z ≡ p ++ w ∷ x ∷ y ∷ z ∷ r
set_four [] a b c d w x y z r n h =
    subst (λ (k : ℕ). set (set (set (set (a ∷ b ∷ c ∷ d ∷ r) k w) (k + 1) x) (k + 2) y) (k + 3) z ≡ w ∷ x ∷ y ∷ z ∷ r) h refl
set_four (e ∷ p) a b c d w x y z r n h =
    subst (λ (k : ℕ). set (set (set (set (e ∷ (p ++ a ∷ b ∷ c ∷ d ∷ r)) k w) (k + 1) x) (k + 2) y) (k + 3) z ≡ e ∷ (p ++ w ∷ x ∷ y ∷ z ∷ r)) h
    (simp suc-add (ap (λ (l : List ℕ). e ∷ l) (set_four p a b c d w x y z r (length p) refl)))

put_line_blank : (p : List ℕ) (c : ℕ) (l : Line) (r : List ℕ) → length p ≡ 4 * c + 2 → put_line (p ++ 0 ∷ 0 ∷ 0 ∷ 0 ∷ r) c l ≡ (p ++ line_bytes l) ++ r
unfolding line_bytes
put_line_blank p c (line w x y z) r h =
    put_line_put (p ++ 0 ∷ 0 ∷ 0 ∷ 0 ∷ r) c w x y z (omega (arith, length-append p (0 ∷ 0 ∷ 0 ∷ 0 ∷ r)))
    ∙ set_four p 0 0 0 0 w x y z r (4 * c + 2) h
    ∙ sym (append_assoc p (w ∷ x ∷ y ∷ z ∷ []) r)

line-length : (p : List ℕ) (c : ℕ) (l : Line) → length p ≡ 4 * c + 2 → length (p ++ line_bytes l) ≡ 4 * (c + 1) + 2
unfolding line_bytes
line-length p c (line w x y z) h = omega (arith, length-append p (w ∷ x ∷ y ∷ z ∷ []))

-- the lines of a part, behind those that stand already, with k zeros left
pub put_all_blank : (p : List ℕ) (c k : ℕ) (ls : List Line) → length p ≡ 4 * c + 2 → c + length ls ≤ 16001 →
    put_all (p ++ replicate (4 * length ls + k) 0) c ls ≡ p ++ (flat_map line_bytes ls ++ replicate k 0)
unfolding put_all flat_map
put_all_blank p c k [] h l = ap (λ (j : ℕ). p ++ replicate j 0) (zero-add k)
put_all_blank p c k (x ∷ ls) h l =
    let m : ℕ = 4 * length ls + k in
    let e : 4 * suc (length ls) + k ≡ suc (suc (suc (suc m))) = omega arith in
    let f = counted_more c (omega arith) in
    ap (λ (j : ℕ). put_all (put_line (p ++ replicate j 0) c x) (counted c) ls) e
    ∙ ap (λ (b : List ℕ). put_all b (counted c) ls) (put_line_blank p c x (replicate m 0) h)
    ∙ ap (λ (j : ℕ). put_all ((p ++ line_bytes x) ++ replicate m 0) j ls) f
    ∙ put_all_blank (p ++ line_bytes x) (c + 1) k ls (line-length p c x h) (omega arith)
    ∙ append_assoc p (line_bytes x) (flat_map line_bytes ls ++ replicate k 0)
    ∙ ap (λ (b : List ℕ). p ++ b) (sym (append_assoc (line_bytes x) (flat_map line_bytes ls) (replicate k 0)))

-- a whole derivation: the lines, and the two bytes of the count in front
pub derivation_written : (room : ℕ) (ls : List Line) → length ls ≤ 16000 → 2 + 4 * length ls ≤ room →
    set (set (put_all (replicate room 0) 0 ls) 0 (length ls / 256)) 1 (length ls % 256) ≡ padded room (derivation_bytes ls)
unfolding padded derivation_bytes
derivation_written room ls h l =
    let k : ℕ = room - (2 + 4 * length ls) in
    let e : room ≡ suc (suc (4 * length ls + k)) = omega arith in
    let f : room - suc (suc (length (flat_map line_bytes ls))) ≡ k = omega (arith, lines_length ls) in
    ap (λ (j : ℕ). set (set (put_all (replicate j 0) 0 ls) 0 (length ls / 256)) 1 (length ls % 256)) e
    ∙ ap (λ (b : List ℕ). set (set b 0 (length ls / 256)) 1 (length ls % 256)) (put_all_blank (0 ∷ 0 ∷ []) 0 k ls refl (omega arith))
    ∙ ap (λ (j : ℕ). length ls / 256 ∷ length ls % 256 ∷ (flat_map line_bytes ls ++ replicate j 0)) (sym f)

-- Bytes cleared, and written behind each other into zeros.
use Prim.Native.Nat.{ℕ, suc, ◌+◌, ◌-◌, ◌<◌}
use native.Mathlib.Nat.{sub-zero}
use native.Mathlib.Omega.{arith}
use mathlib.Core.Path.{◌≡◌, refl, sym, ap, ◌∙◌}
use mathlib.Core.List.{List, [], ◌∷◌, ◌++◌, append_assoc, append-nil}
use lib.ListN.{length, set, replicate, length-append, length-replicate}
use lib.Seq.{set-append_seam}
use Rattle.logic.specs.Calls.{padded}
use Rattle.lent.specs.Appending.{Appends}

-- What was cleared, by its own length

pub blank_long : (bytes : List ℕ) (n : ℕ) → bytes ≡ replicate n 0 → length bytes ≡ n
blank_long bytes n e = ap length e ∙ length-replicate n 0

pub blank_again : (bytes : List ℕ) (n : ℕ) → bytes ≡ replicate n 0 → bytes ≡ replicate (length bytes) 0
blank_again bytes n e = e ∙ ap (λ (k : ℕ). replicate k 0) (sym (blank_long bytes n e))

-- Appending

padded-set : (room : ℕ) (front : List ℕ) (v : ℕ) → length front < room → set (padded room front) (length front) v ≡ padded room (front ++ (v ∷ []))
unfolding padded
padded-set room front v h =
    ap (λ (k : ℕ). set (front ++ replicate k 0) (length front) v) here
    ∙ set-append_seam front 0 (replicate (room - (length front + 1)) 0) v
    ∙ sym (append_assoc front (v ∷ []) (replicate (room - (length front + 1)) 0))
    ∙ ap (λ (k : ℕ). (front ++ (v ∷ [])) ++ replicate (room - k) 0) (sym (length-append front (v ∷ [])))
  where
    here : room - length front ≡ suc (room - (length front + 1))
    here = omega arith

pub appends_none : (old : List ℕ) (at : ℕ) → Appends old old at []
appends_none old at front e o = o ∙ ap (padded (length old)) (sym (append-nil front))

pub appends_byte : (old : List ℕ) (at v : ℕ) → at < length old → Appends old (set old at v) at (v ∷ [])
appends_byte old at v h front e o =
    ap (λ (xs : List ℕ). set xs at v) o
    ∙ ap (λ (k : ℕ). set (padded (length old) front) k v) (sym e)
    ∙ padded-set (length old) front v (omega arith)

pub appends_then : (a b c : List ℕ) (at next : ℕ) (ys zs : List ℕ) → length b ≡ length a → next ≡ at + length ys → Appends a b at ys → Appends b c next zs → Appends a c at (ys ++ zs)
appends_then a b c at next ys zs same e f g front h o =
    let o' = f front h o in
    g (front ++ ys) (length-append front ys ∙ omega arith) (o' ∙ ap (λ (k : ℕ). padded k (front ++ ys)) (sym same))
    ∙ ap (λ (k : ℕ). padded k ((front ++ ys) ++ zs)) same
    ∙ ap (padded (length a)) (append_assoc front ys zs)

-- the zeros that a buffer is cleared to
pub appends_zeros : (old new : List ℕ) (room : ℕ) (bytes : List ℕ) → old ≡ replicate room 0 → Appends old new 0 bytes → new ≡ padded room bytes
unfolding padded
appends_zeros old new room bytes e f =
    let size : length old ≡ room = ap length e ∙ length-replicate room 0 in
    f [] refl (e ∙ ap (λ (k : ℕ). replicate k 0) (sym size ∙ sym (sub-zero (length old)))) ∙ ap (λ (k : ℕ). padded k bytes) size

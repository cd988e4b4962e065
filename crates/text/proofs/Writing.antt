-- Laws of writing. Assumes nothing.
use Prim.Native.Nat.{ℕ, zero, suc, ◌+◌, ◌-◌, ◌≤◌, ◌<◌}
use native.Mathlib.Omega.{arith}
use native.Mathlib.Nat.{add-suc, suc-add, add-zero, zero-add, sub-zero, zero-sub, suc-sub-suc}
use native.Mathlib.Numerals.{add-one}
use mathlib.Core.Path.{◌≡◌, refl, sym, ap, ◌∙◌, subst}
use mathlib.Core.List.{List, [], ◌∷◌, ◌++◌, append_assoc, append-nil}
use lib.ListN.{length, get_or, set, take, drop, replicate, length-append, length-replicate}
use lib.Seq.{sets, length-sets, sets-eq, set_out, drop-cons, take_at}
use Rattle.logic.specs.Calls.{padded}
use Rattle.text.specs.Text.{write_at, Writes}

-- a buffer keeps its length
pub write_at-length : (buffer : List ℕ) (at : ℕ) (bytes : List ℕ) → length (write_at buffer at bytes) ≡ length buffer
unfolding write_at
write_at-length buffer at bytes = length-sets buffer at bytes

-- bytes behind bytes are one text
pub write_at-append : (buffer : List ℕ) (at : ℕ) (bytes more : List ℕ) → write_at buffer at (bytes ++ more) ≡ write_at (write_at buffer at bytes) (at + length bytes) more
unfolding write_at
write_at-append buffer at [] more = ap (λ (k : ℕ). sets buffer k more) (sym (add-zero at))
write_at-append buffer at (b ∷ bytes) more =
    write_at-append (set buffer at b) (suc at) bytes more
    ∙ ap (λ (k : ℕ). sets (sets (set buffer at b) (suc at) bytes) k more) (suc-add at (length bytes) ∙ sym (add-suc at (length bytes)))

-- one byte, where it has room and where it has not
pub write_at_one : (buffer : List ℕ) (at b : ℕ) → write_at buffer at (b ∷ []) ≡ set buffer at b
unfolding write_at
write_at_one buffer at b = refl

pub write_at_out : (buffer : List ℕ) (at b : ℕ) → length buffer ≤ at → write_at buffer at (b ∷ []) ≡ buffer
unfolding write_at
write_at_out buffer at b h = set_out buffer at b h

-- bytes that have room stand between what was before and behind them
pub write_at_fits : (buffer : List ℕ) (at : ℕ) (bytes : List ℕ) → at + length bytes ≤ length buffer → write_at buffer at bytes ≡ take at buffer ++ (bytes ++ drop (at + length bytes) buffer)
unfolding write_at
write_at_fits buffer at bytes h = sets-eq bytes buffer at h ∙ append_assoc (take at buffer) bytes (drop (at + length bytes) buffer)

drop_zeros : (n k : ℕ) → drop k (replicate {A = ℕ} n 0) ≡ replicate (n - k) 0
drop_zeros n zero = ap (λ (m : ℕ). replicate m 0) (sym (sub-zero n))
drop_zeros zero (suc k) = ap (λ (m : ℕ). replicate m 0) (sym (zero-sub (suc k)))
drop_zeros (suc n) (suc k) = drop_zeros n k ∙ ap (λ (m : ℕ). replicate m 0) (sym (suc-sub-suc n k))

-- zeros follow what is written into a buffer of zeros
pub write_at_blank : (room : ℕ) (bytes : List ℕ) → length bytes ≤ room → write_at (replicate room 0) 0 bytes ≡ padded room bytes
unfolding padded
write_at_blank room bytes h =
    write_at_fits (replicate room 0) 0 bytes (omega (arith, length-replicate {A = ℕ} room 0))
    ∙ ap (λ (rest : List ℕ). bytes ++ rest) (ap (λ (k : ℕ). drop k (replicate room 0)) (zero-add (length bytes)) ∙ drop_zeros room (length bytes))

-- Chains of writers: each begins where the last one ended.

pub writes_none : (buffer : List ℕ) (at : ℕ) → Writes buffer at [] buffer at
unfolding write_at
writes_none buffer at = record { leaves = refl; ends = omega arith }

pub writes_as : {a b : List ℕ} {at r : ℕ} {bytes text : List ℕ} → bytes ≡ text → Writes a at bytes b r → Writes a at text b r
writes_as {a} {b} {at} {r} e w = subst (λ (xs : List ℕ). Writes a at xs b r) e w

pub writes_then : {a b c : List ℕ} {at to r : ℕ} {bytes more : List ℕ} → Writes a at bytes b to → Writes b to more c r → Writes a at (bytes ++ more) c r
writes_then {a} {b} {c} {at} {to} {r} {bytes} {more} first rest =
    record {
      leaves = rest.leaves ∙ ap (λ (xs : List ℕ). write_at xs to more) first.leaves
          ∙ ap (λ (k : ℕ). write_at (write_at a at bytes) k more) first.ends ∙ sym (write_at-append a at bytes more);
      ends = omega (arith, length-append bytes more, first.ends, rest.ends);
    }

pub writes_length : {a b : List ℕ} {at r : ℕ} {bytes : List ℕ} → Writes a at bytes b r → length b ≡ length a
writes_length {a} {b} {at} {r} {bytes} h = ap length h.leaves ∙ write_at-length a at bytes

pub writes_blank : {room r : ℕ} {text b : List ℕ} → Writes (replicate room 0) 0 text b r → length text ≤ room → (b ≡ padded room text) × (r ≡ length text)
writes_blank {room} {r} {text} {b} w h = (w.leaves ∙ write_at_blank room text h, w.ends ∙ zero-add (length text))

-- the bytes that are written, read back
pub writes_taken : {a b text : List ℕ} {r : ℕ} → Writes a 0 text b r → r ≤ length a → take r b ≡ text
writes_taken {a} {b} {text} {r} w h =
    let e : r ≡ length text = w.ends ∙ zero-add (length text) in
    ap (take r) (w.leaves ∙ write_at_fits a 0 text (omega arith)) ∙ take_at text (drop (0 + length text) a) r (sym e)

-- A loop of writers: what is done and what is left make the whole.
pub record Part (a : List ℕ) (at : ℕ) (whole b : List ℕ) (to : ℕ) (left : List ℕ) : Type 0 where
  pub done : List ℕ
  pub wrote : Writes a at done b to
  pub makes : done ++ left ≡ whole

pub part_from : {whole left : List ℕ} (a : List ℕ) (at : ℕ) → whole ≡ left → Part a at whole a at left
part_from a at e = record { done = []; wrote = writes_none a at; makes = sym e }

-- one writer more, whose bytes stand first in what is left
pub part_more : {a b c whole : List ℕ} {at to r : ℕ} {left bytes rest : List ℕ} → Part a at whole b to left → left ≡ bytes ++ rest → Writes b to bytes c r → Part a at whole c r rest
part_more {bytes = bytes} {rest = rest} p e w =
    record {
      done = p.done ++ bytes;
      wrote = writes_then p.wrote w;
      makes = append_assoc p.done bytes rest ∙ ap (λ (xs : List ℕ). p.done ++ xs) (sym e) ∙ p.makes;
    }

-- one writer for all that is left
pub part_last : {a b c whole : List ℕ} {at to r : ℕ} {left : List ℕ} → Part a at whole b to left → Writes b to left c r → Writes a at whole c r
part_last p w = writes_as p.makes (writes_then p.wrote w)

pub part_all : {a b whole : List ℕ} {at to : ℕ} {left : List ℕ} → Part a at whole b to left → left ≡ [] → Writes a at whole b to
part_all p e = writes_as (sym (append-nil p.done) ∙ ap (λ (xs : List ℕ). p.done ++ xs) (sym e) ∙ p.makes) p.wrote

-- where the place stands, and the buffer's length
pub part_place : {a b whole : List ℕ} {at to : ℕ} {left : List ℕ} → Part a at whole b to left → to + length left ≡ at + length whole
part_place {left = left} p = omega (arith, p.wrote.ends, length-append p.done left, ap length p.makes)

pub part_length : {a b whole : List ℕ} {at to : ℕ} {left : List ℕ} → Part a at whole b to left → length b ≡ length a
part_length p = writes_length p.wrote

-- the bytes of a list from i on are the one at i, and those behind it
pub left_first : (bytes : List ℕ) (i : ℕ) → i < length bytes → drop i bytes ≡ (get_or bytes i 0 ∷ []) ++ drop (i + 1) bytes
left_first bytes i h = drop-cons bytes i 0 h ∙ ap (λ (k : ℕ). get_or bytes i 0 ∷ drop k bytes) (sym (add-one i))

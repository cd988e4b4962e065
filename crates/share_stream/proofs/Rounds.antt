-- The parts of a turn among the bytes that are held, and turns one after the other. Assumes nothing.
use Prim.Native.Nat.{ℕ, ◌+◌, ◌-◌, ◌≤◌, ◌<◌, min}
use native.Mathlib.Omega.{arith}
use mathlib.Core.Path.{◌≡◌, refl, sym, ap, subst, ◌∙◌}
use mathlib.Core.Logic.{◌⊎◌, ⊎_elim, inl, inr}
use mathlib.Core.Bool.{Bool, true, false, false≢true}
use mathlib.Core.List.{List, [], ◌++◌, append_assoc}
use lib.ListN.{length, take, drop, length-append, length-drop, length-take, take-append-drop, drop_of_length-le}
use lib.Seq.{take_all, take-nil, take-append-le, take-append-add, length-take-le}
use borrow.Author.Tests.{ltb-true, ltb-false}
use borrow.Rule.Slice.PartMut.{put_mid, post_of, same_len_mid}
use Rattle.theory.proofs.Basics.Compare.{le_cases}
use Rattle.text.specs.Text.{Writes}
use Rattle.text.proofs.Writing.{writes_taken, writes_length}
use Rattle.sharing.specs.Output.{Turn, wanted, turn_of, first_turn, first_length, output_from}
use Rattle.shares.specs.Taking.{Takes}
use Rattle.std.specs.Prelude.{Option, Some, None, IfSome}
use Rattle.share_stream.specs.Turning.{kept_of}
use Rattle.held_bytes.specs.Waiting.{must_wait}
use Rattle.held_bytes.proofs.Moves.{order_lent}
use Rattle.sharing.specs.Streaming.{still_printed, Processes}
use Rattle.sharing.proofs.Streams.{goes_two, first_two, turn_prints}

-- The bytes of a length and those of the query, cut from the bytes that stand first.
module _ (bytes : List ℕ) (behind : ℕ) (b : behind ≡ min (length bytes) 2) where
  head_read : take behind bytes ≡ take 2 bytes
  head_read =
      ⊎_elim
      (λ (l : 2 ≤ length bytes). let n : behind ≡ 2 = omega arith in ap (λ (k : ℕ). take k bytes) n)
      (λ (l : length bytes < 2). take_all behind bytes (omega arith) ∙ sym (take_all 2 bytes (omega arith)))
      (le_cases 2 (length bytes))

  module _ (w end : ℕ) (e : end ≡ min (length bytes) (behind + w)) where
    query_read : take (end - behind) (drop behind bytes) ≡ take w (drop 2 bytes)
    query_read = ⊎_elim whole cut (le_cases 2 (length bytes))
      where
        cut : length bytes < 2 → take (end - behind) (drop behind bytes) ≡ take w (drop 2 bytes)
        cut l =
            let n : end - behind ≡ 0 = omega arith in
            ap (λ (k : ℕ). take k (drop behind bytes)) n ∙ sym (take-nil w) ∙ ap (take w) (sym (drop_of_length-le bytes {i = 2} (omega arith)))

        whole : 2 ≤ length bytes → take (end - behind) (drop behind bytes) ≡ take w (drop 2 bytes)
        whole l =
            let n : behind ≡ 2 = omega arith in
            ap (λ (k : ℕ). take (end - k) (drop k bytes)) n
            ∙ ⊎_elim
            (λ (h : w ≤ length bytes - 2). let m : end - 2 ≡ w = omega arith in ap (λ (k : ℕ). take k (drop 2 bytes)) m)
            (λ (h : length bytes - 2 < w). take_all (end - 2) (drop 2 bytes) (omega (arith, length-drop 2 bytes)) ∙ sym (take_all w (drop 2 bytes) (omega (arith, length-drop 2 bytes))))
            (le_cases w (length bytes - 2))

    module _ (s : w ≡ wanted (take behind bytes)) where
      sized : w ≡ wanted (take 2 bytes)
      sized = s ∙ ap wanted head_read

      pub takes_first : (order counts : List ℕ) {before after left : List ℕ} {r : ℕ} {goes : Bool} →
          Takes (turn_of order counts (take behind bytes) (take (end - behind) (drop behind bytes))) before after r left goes
          → Takes (first_turn order counts bytes) before after r left goes
      unfolding first_turn
      takes_first order counts {before} {after} {left} {r} {goes} t =
          subst (λ (x : Turn). Takes x before after r left goes)
          (ap (λ (h : List ℕ). turn_of order counts h (take (end - behind) (drop behind bytes))) head_read
          ∙ ap (turn_of order counts (take 2 bytes)) (query_read ∙ ap (λ (n : ℕ). take n (drop 2 bytes)) sized)) t

      pub passes_first : end ≡ min (length bytes) (first_length bytes)
      unfolding first_length
      passes_first = omega (arith, sized)

-- what waiting tells
pub wait_cut : {n needed : ℕ} {r ended : Bool} → r ≡ must_wait n needed ended → r ≡ true → (ended ≡ false) × (n < needed)
unfolding must_wait
wait_cut {ended = true} e f = absurd (false≢true (sym e ∙ f))
wait_cut {n} {needed} {ended = false} e f = (refl, ltb-true n needed (sym e ∙ f))

pub wait_none : {n needed : ℕ} {r ended : Bool} → r ≡ must_wait n needed ended → r ≡ false → (ended ≡ true) ⊎ (needed ≤ n)
unfolding must_wait
wait_none {ended = true} e f = inl refl
wait_none {n} {needed} {ended = false} e f = inr (ltb-false n needed (sym e ∙ f))

-- all from a place on
all_behind : (at : ℕ) (bytes : List ℕ) → take (length bytes - at) (drop at bytes) ≡ drop at bytes
all_behind at bytes = take_all (length bytes - at) (drop at bytes) (omega (arith, length-drop at bytes))

-- what is held of the text, with the text of a turn behind it

text-more : {words part : List ℕ} {r : ℕ} (made : ℕ) (text : List ℕ) → made + r ≤ length text → Writes (take (length text - made) (drop made text)) 0 words part r
    → take (made + r) (put_mid made (length text - made) text part) ≡ take made text ++ words
text-more {words} {part} {r} made text h w =
    let l : length (take (length text - made) (drop made text)) ≡ length text - made = length-take-le (length text - made) (drop made text) (omega (arith, length-drop made text)) in
    let n : length (take made text) ≡ made = length-take-le made text (omega arith) in
    let rest : List ℕ = part ++ post_of made (length text - made) text in
    ap (λ (k : ℕ). take (k + r) (take made text ++ rest)) (sym n)
    ∙ take-append-add (take made text) rest r
    ∙ ap (λ (xs : List ℕ). take made text ++ xs) (take-append-le r part (post_of made (length text - made) text) (omega (arith, writes_length w)) ∙ writes_taken w (omega arith))

-- Turns one after the other, from the bytes behind the order list on.
pub record Going (counts held : List ℕ) (ended : Bool) (text after : List ℕ) (at : ℕ) : Type 0 where
  pub prints : (more : List ℕ) → (ended ≡ true → more ≡ []) → output_from counts (held ++ more) ≡ text ++ output_from after ((take 8 held ++ drop at held) ++ more)

-- what a turn makes of them, where a query may follow
pub record TurnTaken (counts held : List ℕ) (ended : Bool) (text written left : List ℕ) (at made taken r : ℕ) : Type 0 where
  pub at_fits : at + taken ≤ length held
  pub grows : at < at + taken
  pub goes_on : Going counts held ended (take (made + r) written) left (at + taken)

-- where something was made, something was taken
pub taken-some : {why : Type 0} {ordered at made : ℕ} → (at ≤ ordered → made ≡ 0) → 0 < made → (ordered < at) ⊎ why
taken-some {why} {ordered} {at} none h = ⊎_elim (λ (l : at ≤ ordered). absurd (omega (arith, none l))) (λ (l : ordered < at). inl l) (le_cases at ordered)

module _ (held : List ℕ) (ordered : ℕ) (o : ordered ≡ min (length held) 8) where
  pub going_start : (counts text : List ℕ) (ended : Bool) → Going counts held ended (take 0 text) counts ordered
  going_start counts text ended =
      record {
        prints = λ (more : List ℕ) none. ap (λ (l : List ℕ). output_from counts (l ++ more))
            (sym (ap (λ (l : List ℕ). l ++ drop ordered held) (sym (order_lent held ordered o)) ∙ take-append-drop ordered held));
      }

  module _ (at : ℕ) (b : ordered ≤ at) (a : at ≤ length held) where
    kept-length : length (take 8 held ++ drop at held) ≡ ordered + (length held - at)
    kept-length = length-append (take 8 held) (drop at held) ∙ (omega (arith, length-take 8 held, length-drop at held))

    -- the turns stop where the text has no room, or a turn may be cut
    pub stops : {counts text after : List ℕ} {ended : Bool} → Going counts held ended text after at →
        (ordered < at) ⊎ ((ended ≡ false) × (length held - at < 683)) → Processes counts held ended text after (take 8 held ++ drop at held) true
    unfolding still_printed
    stops {ended = ended} g why =
        record {
          prints = g.prints;
          shrinks = omega (arith, kept-length);
          advances = λ e. ⊎_elim
              (λ (h : ordered < at). inl (omega (arith, kept-length)))
              (λ (h : (ended ≡ false) × (length held - at < 683)). ⊎_elim (λ (l : at ≤ ordered). inr (h.0, omega (arith, h.1)))
              (λ (l : ordered < at). inl (omega (arith, kept-length))) (le_cases at ordered))
              why;
        }

    -- one turn more, which has come whole: its text stands behind what was made before
    module _ {order counts part after left : List ℕ} {r : ℕ} {ended goes : Bool} (text : List ℕ) (made : ℕ)
        (g : Going counts held ended (take made text) after at) (w : (ended ≡ true) ⊎ (683 ≤ length held - at))
        (l : order ≡ take 8 held) (t : Takes (first_turn order after (take (length held - at) (drop at held))) (take (length text - made) (drop made text))
        part r left goes) (room : made + 128 ≤ length text) where
      bytes : take (length held - at) (drop at held) ≡ drop at held
      bytes = all_behind at held

      abbrev turn : Turn
      turn = first_turn (take 8 held) after (drop at held)

      takes : Takes turn (take (length text - made) (drop made text)) part r left goes
      takes =
          subst (λ (x : Turn). Takes x (take (length text - made) (drop made text)) part r left goes)
          (ap (λ (x : List ℕ). first_turn x after (take (length held - at) (drop at held))) l ∙ ap (first_turn (take 8 held) after) bytes) t

      pub made_fits : made + r ≤ length text
      made_fits = omega (arith, takes.short)

      abbrev written : List ℕ
      written = put_mid made (length text - made) text part

      pub long : length written ≡ length text
      long = same_len_mid made (length text - made) text part (writes_length takes.wrote)

      abbrev rest : ℕ → List ℕ → List ℕ
      rest taken more = (take 8 held ++ drop (at + taken) held) ++ more

      turn_more : (taken : ℕ) → taken ≡ min (length (drop at held)) (first_length (drop at held)) → (more : List ℕ) → (ended ≡ true → more ≡ []) →
          output_from counts (held ++ more) ≡ take (made + r) written ++ still_printed goes left (rest taken more)
      turn_more taken passes more none =
          g.prints more none
          ∙ ap (λ (xs : List ℕ). take made text ++ xs)
          (turn_prints held at (omega arith) a after more (⊎_elim (λ (e : ended ≡ true). inl (none e)) (λ (h : 683 ≤ length held - at). inr h) w) taken passes)
          ∙ sym (append_assoc (take made text) turn.text (still_printed turn.goes turn.counts (rest taken more)))
          ∙ ap (λ (xs : List ℕ). xs ++ still_printed turn.goes turn.counts (rest taken more)) (sym (text-more made text made_fits takes.wrote))
          ∙ ap (λ (b : Bool). take (made + r) written ++ still_printed b turn.counts (rest taken more)) (sym takes.going)
          ∙ ap (λ (c : List ℕ). take (made + r) written ++ still_printed goes c (rest taken more)) (sym takes.leaves)

      pub turn_ends : goes ≡ false → Processes counts held ended (take (made + r) written) left [] false
      unfolding still_printed
      turn_ends e =
          let n : ℕ = min (length (drop at held)) (first_length (drop at held)) in
          record {
            prints = λ (more : List ℕ) none. turn_more n refl more none ∙ ap (λ (b : Bool). take (made + r) written ++ still_printed b left (rest n more)) e;
            shrinks = omega arith;
            advances = λ f. absurd (false≢true f);
          }

      pub next_turn : (taken : ℕ) → taken ≡ min (length (take (length held - at) (drop at held))) (first_length (take (length held - at) (drop at held))) → goes ≡ true →
          TurnTaken counts held ended text written left at made taken r
      unfolding still_printed
      next_turn taken p e =
          let passes : taken ≡ min (length (drop at held)) (first_length (drop at held)) = p ∙ ap (λ (x : List ℕ). min (length x) (first_length x)) bytes in
          record {
            at_fits = omega (arith, passes, length-drop at held);
            grows = omega (arith, passes, first_two (drop at held), goes_two (take 8 held) after (drop at held) (sym takes.going ∙ e));
            goes_on = record { prints = λ (more : List ℕ) none. turn_more taken passes more none ∙ ap (λ (b : Bool). take (made + r) written ++ still_printed b left (rest taken more)) e };
          }

-- the bytes that are kept, before others
pub kept_front : {n : ℕ} (kept : Option ℕ) (xs ys : List ℕ) → length xs ≡ n → IfSome kept (λ k. k ≤ n) → kept_of (xs ++ ys) kept ≡ kept_of xs kept
kept_front None xs ys e h = refl
kept_front (Some k) xs ys e h = take-append-le k xs ys (omega arith)

-- the bytes that are kept
pub kept_moved : {counts held text left kept bytes : List ℕ} {ended goes : Bool} → kept ≡ bytes → Processes counts held ended text left bytes goes → Processes counts held ended text left kept goes
kept_moved {counts} {held} {text} {left} {ended = ended} {goes} e p = subst (λ (l : List ℕ). Processes counts held ended text left l goes) (sym e) p

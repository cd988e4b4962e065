-- The rounds of the program's loop, one after the other. Assumes nothing.
use Prim.Native.Nat.{ℕ, suc, ◌+◌, ◌-◌, ◌≤◌, ◌<◌}
use native.Mathlib.Omega.{arith}
use native.Mathlib.Numerals.{add-one}
use mathlib.Core.Path.{◌≡◌, refl, sym, ap, subst, ◌∙◌}
use mathlib.Core.Logic.{⊎_elim}
use mathlib.Core.Bool.{Bool, true, false, false≢true}
use mathlib.Core.List.{List, [], ◌∷◌, ◌++◌, append_assoc, append-nil}
use lib.ListN.{length, take, drop, length-drop, take-append-drop}
use lib.Seq.{take-take, length-take-le}
use lib.Dec.{ltb}
use borrow.Author.Tests.{ltb-false, lt-ltb, le-ltb}
use Rattle.logic.specs.Search.{◌or◌}
use Rattle.theory.proofs.Basics.Search.{neither}
use Rattle.theory.proofs.Basics.Compare.{le_cases}
use Rattle.tally.specs.Counting.{no_lines}
use Rattle.fractions.specs.Fractions.{shares_text}
use Rattle.sharing.specs.Streaming.{Processes}
use Rattle.sharing.specs.Claims.{Standing, at_first, Round, Rounds, no_round, one_more, Ran, Ends, ran, used_up, Reads, RoundOf}

none_long : (xs : List ℕ) → length xs ≡ 0 → xs ≡ []
none_long [] e = refl
none_long (x ∷ xs) e = absurd (omega arith)

-- one round more, at the end
rounds_more : {s t u : Standing} {text printed : List ℕ} {n : ℕ} → Rounds s printed t n → Round t text u true → Rounds s (printed ++ text) u (suc n)
rounds_more {s} {u = u} {text} no_round r = subst (λ (xs : List ℕ). Rounds s xs u 1) (append-nil text) (one_more r no_round)
rounds_more {s} {u = u} {text} {n = suc n} (one_more {text = first} {printed = printed} q rs) r =
    subst (λ (xs : List ℕ). Rounds s xs u (suc (suc n))) (sym (append_assoc first printed text)) (one_more q (rounds_more rs r))

-- n rounds have gone on, and then the program stands so
pub record Gone (counts kept : List ℕ) (ended : Bool) (n : ℕ) : Type 0 where
  pub bytes : List ℕ
  pub printed : List ℕ
  pub rounds : (future : List ℕ) → (ended ≡ true → future ≡ []) → Rounds (at_first (bytes ++ future)) printed (record { counts = counts; kept = kept; unread = future }) n

pub gone_none : {counts kept : List ℕ} → counts ≡ no_lines → kept ≡ [] → Gone counts kept false 0
gone_none {counts} {kept} e f =
    let start : Gone no_lines [] false 0 = record { bytes = []; printed = []; rounds = λ future none. no_round } in
    subst (λ (k : List ℕ). Gone counts k false 0) (sym f) (subst (λ (c : List ℕ). Gone c [] false 0) (sym e) start)

module _ {counts kept after left : List ℕ} {was ended goes : Bool} (r : RoundOf counts kept was after left ended goes) where
  -- a round of the program is one on its stream, whatever is behind
  round_of : (future : List ℕ) → (ended ≡ true → future ≡ [])
      → Round (record { counts = counts; kept = kept; unread = r.piece ++ future }) r.text (record { counts = after; kept = left; unread = future }) goes
  round_of future none = record { piece = r.piece; ended = ended; cut = refl; all = none; some_bytes = r.some_bytes; processes = r.processes }

  -- where the input had ended, nothing is read
  none_read : (future : List ℕ) → (ended ≡ true → future ≡ []) → was ≡ true → r.piece ++ future ≡ []
  none_read future none e = ap (λ (xs : List ℕ). xs ++ future) (r.none_behind e).1 ∙ none (r.none_behind e).0

  module _ {n : ℕ} (g : Gone counts kept was n) where
    abbrev read : List ℕ
    read = g.bytes ++ r.piece

    rounds_to : (future : List ℕ) → (ended ≡ true → future ≡ []) → Rounds (at_first (read ++ future)) g.printed (record { counts = counts; kept = kept; unread = r.piece ++ future }) n
    rounds_to future none =
        subst (λ (xs : List ℕ). Rounds (at_first xs) g.printed (record { counts = counts; kept = kept; unread = r.piece ++ future }) n)
        (sym (append_assoc g.bytes r.piece future)) (g.rounds (r.piece ++ future) (none_read future none))

    pub gone_more : goes ≡ true → Gone after left ended (n + 1)
    gone_more e =
        record {
          bytes = read;
          printed = g.printed ++ r.text;
          rounds = λ future none. subst (Rounds (at_first (read ++ future)) (g.printed ++ r.text) (record { counts = after; kept = left; unread = future })) (sym (add-one n))
              (rounds_more (rounds_to future none) (subst (Round _ r.text _) e (round_of future none)));
        }

    ran-all : goes ≡ false → Ran after
    ran-all e =
        record {
          bytes = read;
          ended = ended;
          printed = g.printed ++ r.text;
          run = λ future none. record {
            before = record { counts = counts; kept = kept; unread = r.piece ++ future };
            after = record { counts = after; kept = left; unread = future };
            texts = g.printed;
            text = r.text;
            number = n;
            rounds = rounds_to future none;
            last = subst (Round _ r.text _) e (round_of future none);
            prints = append_assoc g.printed r.text (shares_text after);
          };
        }

    pub ran_last : goes ≡ false → Ends after
    ran_last e = ran (ran-all e)

pub never_more : {counts kept : List ℕ} {ended : Bool} {n : ℕ} → Gone counts kept ended n → n ≡ 18446744073709551615 → Ends counts
never_more {counts} {kept} g e =
    used_up (g.bytes ++ []) g.printed kept
    (subst (Rounds (at_first (g.bytes ++ [])) g.printed (record { counts = counts; kept = kept; unread = [] })) e (g.rounds [] (λ f. refl)))

-- A round from its parts: a piece is read behind the bytes kept, and these bytes are processed.
module _ {before after : List ℕ} {kept filled : ℕ} {was ended : Bool} (r : Reads before kept was after filled ended) where
  abbrev held : List ℕ
  held = take filled after

  piece_behind : take kept before ++ drop kept held ≡ held
  piece_behind = ap (λ (xs : List ℕ). xs ++ drop kept held) (sym (take-take kept filled after r.least ∙ r.kept_stay)) ∙ take-append-drop kept held

  piece_long : length (drop kept held) + kept ≡ filled
  piece_long = omega (arith, r.least, r.most, r.same_length, length-drop kept held, length-take-le filled after (omega (arith, r.most, r.same_length)))

  pub round_read : {counts text next left : List ℕ} {goes : Bool} → kept < length before → Processes counts held ended text next left goes → RoundOf counts (take kept before) was next left ended goes
  unfolding ◌or◌
  round_read {counts} {text} {next} {left} {goes} h p =
      record {
        piece = drop kept held;
        text = text;
        none_behind = λ e. (r.has_ended ∙ ap (λ (b : Bool). b or ltb filled (length before)) e, none_long _ (omega (arith, piece_long, r.none_behind e)));
        some_bytes = λ e.
            let l = ltb-false filled (length before) (neither was _ (sym r.has_ended ∙ e)).1 in omega (arith, piece_long);
        processes = subst (λ (xs : List ℕ). Processes counts xs ended text next left goes) (sym piece_behind) p;
      }

-- What a read leaves: nothing where the input has ended, else what it put behind the bytes kept.
module _ {was : Bool} (before : List ℕ) (kept : ℕ) (h : kept < length before) where
  pub reads_none : was ≡ true → Reads before kept was before kept true
  unfolding ◌or◌
  reads_none e =
      record {
        same_length = refl;
        least = omega arith;
        most = omega arith;
        kept_stay = refl;
        has_ended = ap (λ (b : Bool). b or ltb kept (length before)) (sym e);
        none_behind = λ f. refl;
      }

  pub reads_piece : (after : List ℕ) (read : ℕ) → was ≡ false → length after ≡ length before → take kept after ≡ take kept before → read ≤ length before - kept
      → Reads before kept was after (kept + read) (ltb read (length before - kept))
  unfolding ◌or◌
  reads_piece after read e long stay few =
      record {
        same_length = long;
        least = omega arith;
        most = omega arith;
        kept_stay = stay;
        has_ended = short ∙ ap (λ (b : Bool). b or ltb (kept + read) (length before)) (sym e);
        none_behind = λ f. absurd (false≢true (sym e ∙ f));
      }
    where
      short : ltb read (length before - kept) ≡ ltb (kept + read) (length before)
      short =
          ⊎_elim
          (λ (l : length before - kept ≤ read). le-ltb read (length before - kept) l ∙ sym (le-ltb (kept + read) (length before) (omega arith)))
          (λ (l : read < length before - kept). lt-ltb read (length before - kept) l ∙ sym (lt-ltb (kept + read) (length before) (omega arith)))
          (le_cases (length before - kept) read)

-- Rounds on any pieces of a stream make the whole. Assumes nothing.
use Prim.Native.Nat.{ℕ, zero, suc, ◌+◌, ◌*◌, ◌≤◌, ◌<◌, min}
use native.Mathlib.Omega.{arith}
use mathlib.Core.Path.{◌≡◌, refl, sym, ap, ◌∙◌}
use mathlib.Core.Logic.{⊎_elim, inl, inr}
use mathlib.Core.Bool.{Bool, true, false, cond, false≢true}
use mathlib.Core.List.{List, [], ◌++◌, append_assoc, append-nil}
use lib.ListN.{length, take, drop, length-append, length-take, length-drop, take-append-drop}
use Rattle.theory.proofs.Basics.Compare.{le_cases}
use Rattle.tally.specs.Counting.{no_lines}
use Rattle.fractions.specs.Fractions.{shares_text}
use Rattle.sharing.specs.Output.{Turn, first_turn, first_length, output_within, output, output_from}
use Rattle.sharing.specs.Streaming.{Processes, still_printed}
use Rattle.sharing.specs.Claims.{Standing, at_first, Round, Rounds, no_round, one_more, Run, Claims}
use Rattle.sharing.proofs.Streams.{first_two, turn_prints}

-- all that is printed from there on
abbrev ahead : Standing → List ℕ
ahead s = output_from s.counts (s.kept ++ s.unread)

round_prints : {s t : Standing} {text : List ℕ} {goes : Bool} → Round s text t goes → ahead s ≡ text ++ still_printed goes t.counts (t.kept ++ t.unread)
round_prints {s} {t} r =
    ap (λ (xs : List ℕ). output_from s.counts (s.kept ++ xs)) r.cut
    ∙ ap (output_from s.counts) (sym (append_assoc s.kept r.piece t.unread))
    ∙ r.processes.prints t.unread r.all

rounds_print : {s t : Standing} {printed : List ℕ} {n : ℕ} → Rounds s printed t n → ahead s ≡ printed ++ ahead t
unfolding still_printed
rounds_print no_round = refl
rounds_print (one_more {u = u} {text} {printed} r rs) = round_prints r ∙ ap (λ (xs : List ℕ). text ++ xs) (rounds_print rs) ∙ sym (append_assoc text printed (ahead u))

-- a round that goes on reads a byte or takes one
abbrev bytes : Standing → ℕ
bytes s = 2 * length s.unread + length s.kept

round_less : {s t : Standing} {text : List ℕ} (r : Round s text t true) (b : Bool) → r.ended ≡ b → bytes t < bytes s
round_less {s} {t} r true e =
    ⊎_elim
    (λ (h : length t.kept < length (s.kept ++ r.piece)). omega (arith, ap length (r.all e), ap length r.cut, length-append s.kept r.piece, length-append r.piece t.unread))
    (λ (h : (r.ended ≡ false) × (length (s.kept ++ r.piece) < 691)). absurd (false≢true (sym h.0 ∙ e)))
    (r.processes.advances refl)
round_less {s} {t} r false e = omega (arith, r.some_bytes e, r.processes.shrinks, ap length r.cut, length-append s.kept r.piece, length-append r.piece t.unread)

rounds_less : {s t : Standing} {printed : List ℕ} {n : ℕ} → Rounds s printed t n → n + bytes t ≤ bytes s
rounds_less no_round = omega arith
rounds_less (one_more r rs) = omega (arith, rounds_less rs, round_less r r.ended refl)

-- a buffer of 691 bytes or more has room for another piece
pub room_left : {counts held text after kept : List ℕ} {ended goes : Bool} (n : ℕ) → Processes counts held ended text after kept goes → goes ≡ true → length held ≤ n → 691 ≤ n → length kept < n
room_left {held = held} {kept = kept} {ended = ended} n p e h m =
    ⊎_elim (λ (l : length kept < length held). omega arith) (λ (w : (ended ≡ false) × (length held < 691)). omega (arith, w.1, p.shrinks)) (p.advances e)

run_prints : {stream printed : List ℕ} → Run stream printed → printed ≡ output stream
unfolding output still_printed
run_prints r = r.prints ∙ ap (λ (xs : List ℕ). r.texts ++ xs) (sym (round_prints r.last)) ∙ sym (rounds_print r.rounds)

-- Rounds that exist: of the bytes held with nothing behind them, all turns; of others, the first, or none where a turn may be cut.
abbrev Whole : List ℕ → Type 0
Whole printed = (text : List ℕ) × (after : List ℕ) × (printed ≡ text ++ shares_text after)

with_turn : {rest : List ℕ} (t : Turn) (goes : Bool) → Whole rest → Whole (t.text ++ cond goes rest (shares_text t.counts))
with_turn t true (text, after, e) = (t.text ++ text, after, ap (λ (xs : List ℕ). t.text ++ xs) e ∙ sym (append_assoc t.text text (shares_text after)))
with_turn t false w = (t.text, t.counts, refl)

all_turns : (steps : ℕ) (order counts bytes : List ℕ) → Whole (output_within steps order counts bytes)
unfolding output_within
all_turns zero order counts bytes = ([], counts, refl)
all_turns (suc steps) order counts bytes =
    let t : Turn = first_turn order counts bytes in with_turn t t.goes (all_turns steps order t.counts (drop (first_length bytes) bytes))

processed_whole : (counts held : List ℕ) → (text : List ℕ) × (after : List ℕ) × Processes counts held true text after [] false
unfolding output_from still_printed
processed_whole counts held =
    let (text, after, e) = all_turns (suc (length held)) (take 8 held) counts (drop 8 held) in (
      text,
      after,
      record {
        prints = λ (more : List ℕ) none. ap (λ (m : List ℕ). output_from counts (held ++ m)) (none refl) ∙ ap (output_from counts) (append-nil held) ∙ e;
        shrinks = omega arith;
        advances = λ f. absurd (false≢true f);
      },
    )

abbrev Processed : List ℕ → List ℕ → Bool → Type 0
Processed counts held ended = (text : List ℕ) × (after : List ℕ) × (kept : List ℕ) × (goes : Bool) × Processes counts held ended text after kept goes

processed_first : (counts held : List ℕ) → 691 ≤ length held → Processed counts held false
processed_first counts held h =
    let t : Turn = first_turn (take 8 held) counts (drop 8 held) in
    let taken : ℕ = min (length (drop 8 held)) (first_length (drop 8 held)) in
    let shorter : length (take 8 held ++ drop (8 + taken) held) < length held =
    omega (arith, length-append (take 8 held) (drop (8 + taken) held), length-take 8 held, length-drop (8 + taken) held, length-drop 8 held, first_two (drop 8 held)) in (
      t.text,
      t.counts,
      take 8 held ++ drop (8 + taken) held,
      t.goes,
      record {
        prints = λ (more : List ℕ) none. ap (λ (l : List ℕ). output_from counts (l ++ more)) (sym (take-append-drop 8 held))
            ∙ turn_prints held 8 (omega arith) (omega arith) counts more (inr (omega arith)) taken refl;
        shrinks = omega arith;
        advances = λ f. inl shorter;
      },
    )

processed_none : (counts held : List ℕ) → length held < 691 → Processed counts held false
unfolding still_printed
processed_none counts held h =
    ([], counts, held, true, record { prints = λ (more : List ℕ) none. refl; shrinks = omega arith; advances = λ f. inr (refl, h) })

processed : (counts held : List ℕ) (ended : Bool) → Processed counts held ended
processed counts held true = let (text, after, p) = processed_whole counts held in (text, after, [], false, p)
processed counts held false = ⊎_elim (λ (h : 691 ≤ length held). processed_first counts held h) (λ (h : length held < 691). processed_none counts held h) (le_cases 691 (length held))

has_round : (s : Standing) (piece rest : List ℕ) (ended : Bool) → s.unread ≡ piece ++ rest → (ended ≡ true → rest ≡ []) → (ended ≡ false → 0 < length piece)
    → (text : List ℕ) × (t : Standing) × (goes : Bool) × (t.unread ≡ rest) × Round s text t goes
has_round s piece rest ended e all some =
    let (text, after, kept, goes, p) = processed s.counts (s.kept ++ piece) ended in
    (text, record { counts = after; kept = kept; unread = rest }, goes, refl, record { piece = piece; ended = ended; cut = e; all = all; some_bytes = some; processes = p })

has_run : (stream : List ℕ) → (printed : List ℕ) × Run stream printed
has_run stream =
    let (text, after, p) = processed_whole no_lines stream in (
      text ++ shares_text after,
      record {
        before = at_first stream;
        after = record { counts = after; kept = []; unread = [] };
        texts = [];
        text = text;
        number = 0;
        rounds = no_round;
        last = record {
          piece = stream;
          ended = true;
          cut = sym (append-nil stream);
          all = λ f. refl;
          some_bytes = λ f. absurd (false≢true (sym f));
          processes = p;
        };
        prints = refl;
      },
    )

pub claims : Claims
claims =
    record {
      run_prints = run_prints;
      rounds_few = λ rs. omega (arith, rounds_less rs);
      has_run = has_run;
      has_round = has_round;
      ran_prints = λ r future none. run_prints (r.run future none);
    }

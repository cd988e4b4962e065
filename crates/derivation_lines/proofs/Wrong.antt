-- What is found wrong, one line more, and at the end of the lines.
use Prim.Native.Nat.{ℕ, suc, ◌+◌, ◌*◌, ◌≤◌, ◌<◌}
use native.Mathlib.Omega.{arith}
use native.Mathlib.Numerals.{add-one}
use mathlib.Core.Path.{◌≡◌, refl, sym, ap, ◌∙◌}
use Rattle.std.specs.Prelude.{Ok, Err, Some, None}
use mathlib.Core.List.{List, [], ◌∷◌}
use mathlib.Core.Option.{none, some}
use lib.ListN.{drop}
use Rattle.logic.specs.Query.{Query}
use Rattle.logic.specs.Facts.{Line}
use Rattle.logic.specs.Derivation.{lines_in}
use Rattle.checking.specs.Fitting.{Goal, start_goal, step, short_of, wrong_from, wrong_line}
use Rattle.checking.proofs.Judged.{wrong_step, wrong_here}
use Rattle.derivation_lines.specs.Lines.{Shaped, line_at}
use Rattle.derivation_lines.specs.Judging.{Judged, wrong_at, resumed, JudgesGoal, Concludes}
use Rattle.derivation_lines.proofs.Lines.{drop-some, drop-none, line_from, line_there, line_past}

module _ (q : Query) (bytes : List ℕ) (i : ℕ) where
  -- there is no line, it does not fit, or it fits
  pub wrong_none : (g : Goal) (gs : List Goal) → line_at bytes i ≡ none → wrong_at q bytes (g ∷ gs) i ≡ i + 1
  unfolding wrong_at wrong_from short_of line_at
  wrong_none g gs h = rw (drop-none (lines_in bytes) i h) refl

  pub wrong_unfit : (gs : List Goal) (l : Line) → line_at bytes i ≡ some l → step q gs l ≡ none → wrong_at q bytes gs i ≡ i + 1
  unfolding wrong_at line_at
  wrong_unfit gs l h e = ap (wrong_from q gs (i + 1)) (drop-some (lines_in bytes) i l h) ∙ wrong_here q gs (i + 1) l (drop (suc i) (lines_in bytes)) e

  pub wrong_fit : (gs hs : List Goal) (l : Line) → line_at bytes i ≡ some l → step q gs l ≡ some hs → wrong_at q bytes gs i ≡ wrong_at q bytes hs (i + 1)
  unfolding wrong_at line_at
  wrong_fit gs hs l h e =
      ap (wrong_from q gs (i + 1)) (drop-some (lines_in bytes) i l h) ∙ wrong_step q gs hs (i + 1) l (drop (suc i) (lines_in bytes)) e
      ∙ rw (add-one i, add-one (suc i)) refl

-- The end: the lines that were read are those of the start's goal

module _ (count : ℕ) where
  whole : (r : Judged) (q : Query) (bytes : List ℕ) → JudgesGoal q bytes count (start_goal q) 0 r → wrong_line q (lines_in bytes) ≡ resumed q bytes [] r
  unfolding wrong_line wrong_at
  whole r q bytes h = h.judges []

  pub conclude_wrong : (wrong : ℕ) → Concludes count (Err wrong) (Some wrong)
  unfolding resumed
  conclude_wrong wrong = record { concludes = λ q bytes shape h. sym (whole (Err wrong) q bytes h); numbered = λ q bytes h. h.numbered }

  pub conclude_more : (read : ℕ) → read < count → Concludes count (Ok read) (Some (read + 1))
  unfolding resumed step
  conclude_more read l =
      record {
        concludes = λ q bytes shape h. sym (whole (Ok read) q bytes h ∙ wrong_unfit q bytes read [] (line_from bytes (4 * read + 2)) (line_there bytes count read shape l) refl);
        numbered = λ q bytes h. omega arith;
      }

  past_zero : (q : Query) (bytes : List ℕ) (read : ℕ) → Shaped bytes count → count ≤ read → resumed q bytes [] (Ok read) ≡ 0
  unfolding resumed wrong_at wrong_from short_of line_at
  past_zero q bytes read shape l = rw (drop-none (lines_in bytes) read (line_past bytes count read shape l)) refl

  pub conclude_all : (read : ℕ) → count ≤ read → Concludes count (Ok read) None
  conclude_all read l = record { concludes = λ q bytes shape h. sym (whole (Ok read) q bytes h ∙ past_zero q bytes read shape l); numbered = λ q bytes h. tt }

-- What is printed of the turn that stands first behind the order list. Assumes nothing.
use Prim.Native.Nat.{ℕ, ◌+◌, ◌*◌, ◌≤◌, ◌<◌}
use native.Mathlib.Omega.{arith}
use mathlib.Core.Path.{◌≡◌, refl, sym, ap, ◌∙◌}
use mathlib.Core.Logic.{inl, inr}
use mathlib.Core.Bool.{Bool, true, false, cond}
use mathlib.Core.List.{List, [], ◌∷◌, ◌++◌, append-nil}
use lib.ListN.{length, take, drop, drop_of_length-le}
use lib.Seq.{take_all, take_at, drop_at, drop-drop}
use borrow.Author.Tests.{lt-ltb, le-ltb}
use Rattle.logic.specs.Search.{◌or◌}
use Rattle.text.specs.Text.{ascii}
use Rattle.tally.specs.Counting.{tallied}
use Rattle.fractions.specs.Fractions.{shares_text}
use Rattle.sharing.specs.Output.{Turn, length_in, is_bad, wanted, query_line, written_lines, turn_of, first_turn, first_length, output_within, output_from}
use Rattle.sharing.specs.TurnClaims.{TurnClaims}
use Rattle.sharing.proofs.Streams.{onward, onward-turn, from_order}

-- a length above 681, one that is not, and one that is cut short
long_bad : (a b : ℕ) → 681 < 256 * a + b → is_bad (a ∷ b ∷ []) ≡ true
unfolding is_bad length_in ◌or◌
long_bad a b h = rw (lt-ltb 681 (256 * a + b) h)

short_good : (a b : ℕ) → 256 * a + b ≤ 681 → is_bad (a ∷ b ∷ []) ≡ false
unfolding is_bad length_in ◌or◌
short_good a b h = rw (le-ltb 681 (256 * a + b) h)

cut_bad : (a : ℕ) → is_bad (a ∷ []) ≡ true
unfolding is_bad ◌or◌
cut_bad a = refl

module _ (counts order : List ℕ) where
  abbrev bad_turn : Turn
  bad_turn = record { text = ascii "bad length\n"; counts = counts; goes = false }

  abbrev query_turn : List ℕ → Turn
  query_turn query = record { text = query_line order query; counts = tallied counts (written_lines order query); goes = true }

  -- what a turn prints, and what is printed behind it
  abbrev printed : List ℕ → Turn → List ℕ
  printed bytes t = t.text ++ cond t.goes (onward order t.counts (drop (first_length bytes) bytes)) (shares_text t.counts)

  bad_turn_lem : (a : ℕ) (rest : List ℕ) → is_bad (take 2 (a ∷ rest)) ≡ true → first_turn order counts (a ∷ rest) ≡ bad_turn
  unfolding first_turn turn_of
  bad_turn_lem a rest e = ap (λ (t : Bool). cond t bad_turn (query_turn (take (wanted (take 2 (a ∷ rest))) (drop 2 (a ∷ rest))))) e

  module _ (a b : ℕ) (rest : List ℕ) (h : 256 * a + b ≤ 681) where
    abbrev n : ℕ
    n = 256 * a + b

    size : wanted (a ∷ b ∷ []) ≡ n
    unfolding wanted length_in
    size = ap (λ (t : Bool). cond t 0 n) (short_good a b h)

    query_turn_lem : first_turn order counts (a ∷ b ∷ rest) ≡ query_turn (take n rest)
    unfolding first_turn turn_of
    query_turn_lem =
        ap (λ (t : Bool). cond t bad_turn (query_turn (take (wanted (a ∷ b ∷ [])) rest))) (short_good a b h) ∙ ap (λ (k : ℕ). query_turn (take k rest)) size

    behind : drop (first_length (a ∷ b ∷ rest)) (a ∷ b ∷ rest) ≡ drop n rest
    unfolding first_length
    behind = ap (λ (k : ℕ). drop (2 + k) (a ∷ b ∷ rest)) size ∙ sym (drop-drop n 2 (a ∷ b ∷ rest))

  module _ (o : length order ≡ 8) where
    first : (bytes : List ℕ) (t : Turn) → first_turn order counts bytes ≡ t → output_from counts (order ++ bytes) ≡ printed bytes t
    first bytes t e = from_order order counts bytes (inl o) ∙ onward-turn order counts bytes ∙ ap (printed bytes) e

    bad_first : (a : ℕ) (rest : List ℕ) → is_bad (take 2 (a ∷ rest)) ≡ true → output_from counts (order ++ (a ∷ rest)) ≡ ascii "bad length\n" ++ shares_text counts
    bad_first a rest e = first (a ∷ rest) bad_turn (bad_turn_lem a rest e)

    query-first : (a b : ℕ) (rest query more : List ℕ) → 256 * a + b ≤ 681 → take (256 * a + b) rest ≡ query → drop (256 * a + b) rest ≡ more
        → output_from counts (order ++ (a ∷ b ∷ rest)) ≡ query_line order query ++ output_from (tallied counts (written_lines order query)) (order ++ more)
    query-first a b rest query more h e f =
        let next : List ℕ = tallied counts (written_lines order query) in
        first (a ∷ b ∷ rest) (query_turn query) (query_turn_lem a b rest h ∙ ap query_turn e)
        ∙ ap (λ (bytes : List ℕ). query_line order query ++ onward order next bytes) (behind a b rest h ∙ f)
        ∙ ap (λ (text : List ℕ). query_line order query ++ text) (sym (from_order order next more (inl o)))

no_query : (counts order : List ℕ) → length order ≤ 8 → output_from counts order ≡ shares_text counts
unfolding output_within first_turn turn_of
no_query counts order h = ap (output_from counts) (sym (append-nil order)) ∙ from_order order counts [] (inr (h, refl))

cut_query : (counts order query : List ℕ) (a b : ℕ) → length order ≡ 8 → 256 * a + b ≤ 681 → length query ≤ 256 * a + b
    → output_from counts (order ++ (a ∷ b ∷ query)) ≡ query_line order query ++ shares_text (tallied counts (written_lines order query))
cut_query counts order query a b o h l =
    let next : List ℕ = tallied counts (written_lines order query) in
    query-first counts order o a b query query [] h (take_all (256 * a + b) query l) (drop_of_length-le query {i = 256 * a + b} l)
    ∙ ap (λ (bytes : List ℕ). query_line order query ++ output_from next bytes) (append-nil order)
    ∙ ap (λ (text : List ℕ). query_line order query ++ text) (no_query next order (omega arith))

pub turn_claims : TurnClaims
turn_claims =
    record {
      no_query = no_query;
      one_query = λ counts order query rest a b o h e.
          query-first counts order o a b (query ++ rest) query rest h (take_at query rest (256 * a + b) e) (drop_at query rest (256 * a + b) e);
      cut_query = cut_query;
      long_length = λ counts order rest a b o h. bad_first counts order o a (b ∷ rest) (long_bad a b h);
      cut_length = λ counts order a o. bad_first counts order o a [] (cut_bad a);
    }

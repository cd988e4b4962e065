-- The checks in their order, and what the search says, as the call's outcome.
use Prim.Native.Nat.{ℕ, ◌+◌, ◌-◌, ◌≤◌, ◌<◌}
use native.Mathlib.Omega.{arith}
use mathlib.Core.Path.{◌≡◌, refl, sym, ap, ◌∙◌, subst}
use mathlib.Core.Bool.{Bool}
use mathlib.Core.List.{List, [], ◌∷◌}
use mathlib.Core.Option.{none, some, Option-elim}
use Rattle.std.specs.Prelude.{Result, Ok, Err}
use lib.ListN.{length, take, drop, replicate, length-drop}
use lib.Seq.{take-length}
use borrow.Author.Tests.{lt-ltb, le-ltb}
use Rattle.logic.specs.Search.{keep, or_else, first_of}
use Rattle.logic.specs.Query.{first_byte, term_count}
use Rattle.logic.specs.Calls.{Input, room_check, Answer, refused, refusal_of, padded, blank, room_under}
use Rattle.theory.proofs.Calls.CallLaws.{refusal_of-append}
use Rattle.query.specs.declared.Layout.{Layout}
use Rattle.query.proofs.Ranges.{entry_below}
use Rattle.between.specs.Meaning.{BetweenQuery}
use Rattle.between_search.specs.Bytes.{decode_six, five_terms_check, six_checks, between_checks}
use Rattle.between_search.specs.Search.{Found, heap_found, report_of}
use Rattle.between_search.specs.Calls.{given, searched, between_call}
use Rattle.between_search.proofs.Promised.{size_small, node_small}
use Rattle.between_tests.specs.Tables.{Opposed, literals_in}
use Rattle.between_checks.specs.declared.SixLayout.{SixLayout}
use Rattle.between_checks.specs.Answers.{SixSections}
use Rattle.between_seek.specs.Answers.{query_in, Given}
use Rattle.refusals.specs.declared.Refusal.{Refusal}
use Rattle.refusals.specs.Numbers.{number_of}
use Rattle.between_call.specs.declared.BetweenAnswer.{BetweenAnswer}
use Rattle.between_call.specs.declared.BetweenAnswer.TheVariants as answer
use Rattle.between_call.specs.Promise.{Does, Reportable, Asked}

-- The checks

module _ (i : Input) where
  checks_split : refusal_of between_checks i ≡ or_else (refusal_of six_checks i) (refusal_of (room_check ∷ five_terms_check ∷ []) i)
  unfolding between_checks
  checks_split = refusal_of-append six_checks i (room_check ∷ five_terms_check ∷ [])

  six_first : (a : Answer) → refusal_of six_checks i ≡ some a → refusal_of between_checks i ≡ some a
  unfolding or_else
  six_first a e = checks_split ∙ rw e

  room_next : refusal_of six_checks i ≡ none → i.room < 53 → refusal_of between_checks i ≡ some (refused 9 0)
  unfolding refusal_of room_under first_of or_else keep Option-elim
  room_next e h = checks_split ∙ rw (e, lt-ltb i.room 53 h)

  terms_last : refusal_of six_checks i ≡ none → 53 ≤ i.room → 5 < first_byte i.query → refusal_of between_checks i ≡ some (refused 21 0)
  unfolding refusal_of room_under five_terms_check first_of or_else keep Option-elim
  terms_last e h t = checks_split ∙ rw (e, le-ltb i.room 53 h, lt-ltb 5 (first_byte i.query) t)

  pub none_stands : refusal_of six_checks i ≡ none → 53 ≤ i.room → first_byte i.query ≤ 5 → refusal_of between_checks i ≡ none
  unfolding refusal_of room_under five_terms_check first_of or_else keep Option-elim
  none_stands e h t = checks_split ∙ rw (e, le-ltb i.room 53 h, le-ltb 5 (first_byte i.query) t)

-- The outcome

module _ (query : List ℕ) (room : ℕ) (r : Result BetweenAnswer Refusal) (bytes : List ℕ) where
  refused_does : (a : Answer) → refusal_of between_checks (given query room) ≡ some a → Does (blank room a) r bytes → Does (between_call query room) r bytes
  unfolding between_call Option-elim
  refused_does a e d = rw e d

  pub six_does : (k place : ℕ) → refusal_of six_checks (given query room) ≡ some (refused k place) → Does (blank room (refused k place)) r bytes → Does (between_call query room) r bytes
  six_does k place e d = refused_does (refused k place) (six_first (given query room) (refused k place) e) d

  pub room_does : refusal_of six_checks (given query room) ≡ none → room < 53 → Does (blank room (refused 9 0)) r bytes → Does (between_call query room) r bytes
  room_does e h d = refused_does (refused 9 0) (room_next (given query room) e h) d

  pub terms_does : refusal_of six_checks (given query room) ≡ none → 53 ≤ room → 5 < first_byte query → Does (blank room (refused 21 0)) r bytes → Does (between_call query room) r bytes
  terms_does e h t d = refused_does (refused 21 0) (terms_last (given query room) e h t) d

  searched_does : refusal_of between_checks (given query room) ≡ none → Does (searched (decode_six query) room) r bytes → Does (between_call query room) r bytes
  unfolding between_call Option-elim
  searched_does e d = rw e d

pub blank_does : (room : ℕ) (e : Refusal) (bytes : List ℕ) → bytes ≡ replicate room 0 → Does (blank room (refused (number_of e.fault) e.place)) (Err e) bytes
unfolding blank
blank_does room r bytes e = record { answers = refl; leaves = e }

-- What the search is given, and what it says

module _ (base : List ℕ) (l : Layout) (between : List ℕ) (count : ℕ) (asked : Asked base l between count) where
  pub ready_given : (apart : List Bool) → Opposed apart (literals_in base l.field_at l.field_count) → Given base l between count apart
  ready_given apart opposed =
      record {
        entered = record { laid = asked.laid; few = asked.few; below = entry_below l base asked.laid asked.passes };
        between_fit = asked.between_fit;
        opposed = opposed;
      }

  pub none_does : heap_found (query_in base between) ≡ none → (room : ℕ) (bytes : List ℕ) → bytes ≡ replicate room 0 → Does (searched (query_in base between) room) (Ok answer.Nothing) bytes
  unfolding searched blank Option-elim
  none_does o room bytes z = rw o (record { answers = refl; leaves = z })

  module _ (c : Found) (heap_is : heap_found (query_in base between) ≡ some c) where
    pub heap_does : (room : ℕ) (bytes : List ℕ) → bytes ≡ padded room (report_of (query_in base between) c) → Does (searched (query_in base between) room) (Ok answer.Heap) bytes
    unfolding searched Option-elim
    heap_does room bytes z = rw heap_is (record { answers = refl; leaves = z })

    pub reportable : Reportable l base c.links c.nodes
    reportable = let small = asked.small c heap_is in record { laid = asked.laid; passes = asked.passes; few_links = small.0; few_nodes = small.1 }

-- six sections that pass all checks

-- the bytes from a place to the end
abbrev tail : List ℕ → ℕ → List ℕ
tail xs k = take (length xs - k) (drop k xs)

tail_is : (xs : List ℕ) (k : ℕ) → tail xs k ≡ drop k xs
tail_is xs k = ap (λ (m : ℕ). take m (drop k xs)) (sym (length-drop k xs)) ∙ take-length (drop k xs)

module _ (query : List ℕ) (s : SixLayout) (six : SixSections s query) where
  says : decode_six query ≡ query_in (take s.at query) (tail query (s.at + 1))
  says = six.says ∙ ap (query_in (take s.at query)) (sym (tail_is query (s.at + 1)))

  pub few_terms : (s.base.terms ≤ 5) → first_byte query ≤ 5
  few_terms h = omega (arith, six.terms_first)

  pub many_terms : (5 < s.base.terms) → 5 < first_byte query
  many_terms h = omega (arith, six.terms_first)

  pub at-within : s.at + 1 ≤ length query
  at-within = omega (arith, six.sixth.counted)

  pub asked_of : (room : ℕ) → refusal_of between_checks (given query room) ≡ none → s.base.terms ≤ 5 → Asked (take s.at query) s.base (tail query (s.at + 1)) s.count
  asked_of room passed few =
      record {
        laid = six.laid;
        passes = six.passes;
        few = few;
        between_fit = omega (arith, ap length (tail_is query (s.at + 1)), length-drop (s.at + 1) query, six.sixth.ends);
        small = λ c e.
            let found : heap_found (decode_six query) ≡ some c = ap heap_found says ∙ e in
            (size_small query room passed c found, λ t a b. node_small query room passed c found t a (subst (λ (k : ℕ). t ≤ k) terms_same b));
      }
    where
      terms_same : s.base.terms ≡ term_count (decode_six query).base
      terms_same = six.laid.term_count_lem ∙ ap (λ (q : BetweenQuery). term_count q.base) (sym six.says)

  pub answer_does : (room : ℕ) (r : Result BetweenAnswer Refusal) (bytes : List ℕ) → refusal_of between_checks (given query room) ≡ none →
      Does (searched (query_in (take s.at query) (tail query (s.at + 1))) room) r bytes → Does (between_call query room) r bytes
  answer_does room r bytes passed d = searched_does query room r bytes passed (subst (λ (q : BetweenQuery). Does (searched q room) r bytes) (sym says) d)

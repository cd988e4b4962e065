-- What the walk's ending makes of a call.
use Prim.Native.Nat.{ℕ, ◌+◌, ◌*◌, ◌/◌, ◌%◌, ◌≤◌, ◌<◌}
use native.Mathlib.Omega.{arith}
use native.Mathlib.Nat.{zero-add}
use mathlib.Core.Path.{◌≡◌, refl, sym, ap, ◌∙◌}
use mathlib.Core.Logic.{◌⊎◌, ⊎_elim}
use mathlib.Core.List.{List}
use lib.ListN.{length, set, replicate}
use borrow.Author.Tests.{lt-ltb, le-ltb}
use Rattle.logic.specs.Search.{◌or◌}
use Rattle.logic.specs.Query.{Query, term_count}
use Rattle.logic.specs.Facts.{Facts, Joined, Line, start}
use Rattle.logic.specs.Walk.{Ending, refutation, saturation, walk_branch, walk, order_of, limit, our_walk}
use Rattle.logic.specs.Shown.{report}
use Rattle.logic.specs.Steps.{AtMost}
use Rattle.logic.specs.Calls.{Outcome, blank, padded, verdict_of, derivation_of}
use Rattle.start.specs.Started.{started}
use Rattle.walk.specs.Lines.{count_all, put_all}
use Rattle.walk.proofs.Lines.{count_all_small, count_all_large}
use Rattle.walk.proofs.Padded.{derivation_written}
use Rattle.theory.proofs.Basics.Compare.{le_cases}
use Rattle.theory.proofs.Query.Tied.{Accepted, Tied}
use Rattle.theory.proofs.Paths.Invariant.{Invariant, start_invariant, branch_invariant}
use Rattle.theory.proofs.Walks.Limit.{start_at_most, our_saturation}
use Rattle.prover.specs.Promise.{meaning, Does}
use Rattle.prover.specs.declared.Answer.{Answer}
use Rattle.prover.specs.declared.Answer.TheVariants as answer

-- the count of the lines, which stops above 16,000
count_short : (ls : List Line) (count : ℕ) → count ≡ count_all 0 ls → count ≤ 16000 → count ≡ length ls
count_short ls count c l =
    ⊎_elim
    (λ h. c ∙ count_all_small 0 ls (omega arith) ∙ zero-add (length ls))
    (λ h. let e = count_all_large 0 ls (omega arith) (omega arith) in absurd (omega arith))
    (le_cases (length ls) 16000)

count_long : (ls : List Line) (count : ℕ) → count ≡ count_all 0 ls → 16000 < count → 16000 < length ls
count_long ls count c l =
    ⊎_elim
    (λ h. let e = count_all_small 0 ls (omega arith) in absurd (omega arith))
    (λ h. h)
    (le_cases (length ls) 16000)

-- The walk that the code makes is our walk, and no more rule steps are possible from its start than it counts.
module _ (q : Query) (links n k : ℕ) (j : Joined) (same_links : links ≡ q.links) (same_terms : n ≡ term_count q) (counted : k ≡ links * (n * n) + n) (begun : j ≡ started q) where
  counted-limit : k ≡ limit q
  unfolding limit
  counted-limit = counted ∙ ap (λ (i : ℕ). i * (n * n) + n) same_links ∙ ap (λ (m : ℕ). q.links * (m * m) + m) same_terms

  pub our_walk_lem : (order : List ℕ) → walk_branch (walk q (order_of order) k) j ≡ our_walk order q
  unfolding our_walk walk_branch started
  our_walk_lem order = ap (λ (i : Joined). walk_branch (walk q (order_of order) k) i) begun ∙ ap (λ (i : ℕ). walk_branch (walk q (order_of order) i) (started q)) counted-limit

  pub start_steps : Accepted q → AtMost (term_count q) j.facts k
  unfolding started
  start_steps ok =
      let es : j.facts ≡ start q = ap (λ (i : Joined). i.facts) begun in
      rw (es, counted-limit) (start_at_most q ok)

-- an outcome, done
pub does_blank : (o : Outcome) (room : ℕ) (r : Answer) (bytes : List ℕ) → o ≡ blank room (meaning r) → bytes ≡ replicate room 0 → Does o r bytes
unfolding blank
does_blank o room r bytes e f = record { answers = sym (ap (λ (x : Outcome). x.answer) e); leaves = f ∙ sym (ap (λ (x : Outcome). x.lent) e) }

module _ (q : Query) (room : ℕ) (w : Ending) where
  pub verdict_satisfiable : (s : Facts) (bytes : List ℕ) → w ≡ saturation s → bytes ≡ padded room (report q s) → Does (verdict_of q room w) answer.Satisfiable bytes
  unfolding verdict_of
  verdict_satisfiable s bytes e f = rw e (record { answers = refl; leaves = f })

  pub verdict_refuted : (ls : List Line) (bytes : List ℕ) → w ≡ refutation ls → bytes ≡ replicate room 0 → Does (verdict_of q room w) answer.Refuted bytes
  unfolding verdict_of blank
  verdict_refuted ls bytes e f = rw e (record { answers = refl; leaves = f })

module _ (room : ℕ) (w : Ending) where
  pub derivation_satisfiable : (s : Facts) (bytes : List ℕ) → w ≡ saturation s → bytes ≡ replicate room 0 → Does (derivation_of room w) (answer.Refused 11 0) bytes
  unfolding derivation_of blank
  derivation_satisfiable s bytes e f = rw e (record { answers = refl; leaves = f })

  -- "more than 16,000 lines or its buffer cannot hold it"
  derivation_long : (ls : List Line) (count : ℕ) (bytes : List ℕ) → w ≡ refutation ls → count ≡ count_all 0 ls → 16000 < count →
      bytes ≡ replicate room 0 → Does (derivation_of room w) (answer.Refused 12 0) bytes
  unfolding derivation_of blank ◌or◌
  derivation_long ls count bytes e c l f = rw (e, lt-ltb 16000 (length ls) (count_long ls count c l)) (record { answers = refl; leaves = f })

  derivation_large : (ls : List Line) (count : ℕ) (bytes : List ℕ) → w ≡ refutation ls → count ≡ count_all 0 ls → count ≤ 16000 →
      room < 2 + 4 * count → bytes ≡ replicate room 0 → Does (derivation_of room w) (answer.Refused 12 0) bytes
  unfolding derivation_of blank ◌or◌
  derivation_large ls count bytes e c l h f =
      let n = count_short ls count c l in
      let g : room < 2 + 4 * length ls = omega arith in
      rw (e, le-ltb 16000 (length ls) (omega arith), lt-ltb room (2 + 4 * length ls) g) (record { answers = refl; leaves = f })

  -- either way: more lines than the most that may be
  pub derivation_over : (ls : List Line) (count most : ℕ) (bytes : List ℕ) → w ≡ refutation ls → count ≡ count_all 0 ls → most < count →
      (most ≡ 16000) ⊎ (room < 2 + 4 * (most + 1)) → bytes ≡ replicate room 0 → Does (derivation_of room w) (answer.Refused 12 0) bytes
  derivation_over ls count most bytes e c l h f =
      ⊎_elim
      (λ k.
      ⊎_elim
      (λ g. absurd (omega arith))
      (λ g. derivation_large ls count bytes e c k (omega arith) f)
      h)
      (λ k. derivation_long ls count bytes e c k f)
      (le_cases count 16000)

  -- a buffer that does not even hold the count
  pub derivation_none : (ls : List Line) (bytes : List ℕ) → w ≡ refutation ls → room < 2 → bytes ≡ replicate room 0 → Does (derivation_of room w) (answer.Refused 12 0) bytes
  derivation_none ls bytes e h f =
      ⊎_elim
      (λ k. derivation_large ls (count_all 0 ls) bytes e refl k (omega arith) f)
      (λ k. derivation_long ls (count_all 0 ls) bytes e refl k f)
      (le_cases (count_all 0 ls) 16000)

  pub derivation_refuted : (ls : List Line) (count : ℕ) (bytes : List ℕ) → w ≡ refutation ls → count ≡ count_all 0 ls → count ≤ 16000 →
      2 + 4 * count ≤ room → bytes ≡ set (set (put_all (replicate room 0) 0 ls) 0 (count / 256)) 1 (count % 256) → Does (derivation_of room w) answer.Refuted bytes
  unfolding derivation_of ◌or◌
  derivation_refuted ls count bytes e c l h f =
      let n = count_short ls count c l in
      let k : length ls ≤ 16000 = omega arith in
      let g : 2 + 4 * length ls ≤ room = omega arith in
      rw (e, le-ltb 16000 (length ls) k, le-ltb room (2 + 4 * length ls) g)
      (record {
        answers = refl;
        leaves = f ∙ ap (λ (j : ℕ). set (set (put_all (replicate room 0) 0 ls) 0 (j / 256)) 1 (j % 256)) n ∙ derivation_written room ls k g;
      })

-- a path that our walk finds saturated is tied to the query: it has its links, and its terms stand for terms of the query
pub saturated_tied : (q : Query) (order : List ℕ) (s : Facts) → Accepted q → our_walk order q ≡ saturation s → Tied q s
saturated_tied q order s ok h =
    (our_saturation q ok (Invariant q) (λ s s' m i c a k. branch_invariant q s m i a s' k) order s (start_invariant q ok) h).0.tied

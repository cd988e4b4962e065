-- What the joining call does, case by case. Assumes nothing.
use Prim.Native.Nat.{ℕ, ◌≤◌, ◌<◌}
use native.Mathlib.Omega.{arith}
use mathlib.Core.Path.{◌≡◌, refl, sym, ap, ◌∙◌, subst}
use mathlib.Core.Bool.{true, false}
use mathlib.Core.List.{List}
use mathlib.Core.Option.{Option-elim}
use lib.ListN.{length, replicate}
use borrow.Author.Tests.{le-leb, lt-leb}
use Rattle.logic.specs.Search.{◌and◌}
use Rattle.logic.specs.Query.{term_count, decode}
use Rattle.text.specs.Text.{Writes}
use Rattle.text.proofs.Writing.{writes_blank, writes_length}
use Rattle.query_checks.specs.Answers.{CheckedAs}
use Rattle.query.specs.declared.Layout.{Layout}
use Rattle.joining.specs.Pairs.{pairs_of, is_pair_list}
use Rattle.encoding.specs.QueryBytes.{encode, within_limits}
use Rattle.joining.specs.Joined.{joined}
use Rattle.joining.specs.Call.{written, blank, fitted, join_of, join_call}
use Rattle.joining.specs.Call as call
use Rattle.joiner.specs.Promise.{Does, Passing, BothChecked}
use Rattle.std.specs.Prelude.{Result, Ok, Err}
use Rattle.refusals.specs.declared.Refusal.{Refusal}
use Rattle.refusals.specs.declared.Fault.TheVariants as fault
use Rattle.refusals.specs.Numbers.{refusal_at}
use Rattle.joiner.specs.declared.JoinRefusal.{JoinRefusal}
use Rattle.joiner.specs.declared.JoinRefusal.TheVariants as refusal
use Rattle.joiner.proofs.Answers.{refused_query, passed_query}

-- Two queries that pass

module _ (first second pairs : List ℕ) (f s : Layout) (pf : Passing f first) (ps : Passing s second) where
  list_same : is_pair_list f.terms s.terms pairs ≡ is_pair_list (term_count (decode first)) (term_count (decode second)) pairs
  list_same = ap (λ (n : ℕ). is_pair_list n s.terms pairs) pf.laid.term_count_lem ∙ ap (λ (m : ℕ). is_pair_list (term_count (decode first)) m pairs) ps.laid.term_count_lem

  pub not_listed : (room : ℕ) (bytes : List ℕ) → is_pair_list f.terms s.terms pairs ≡ false → bytes ≡ replicate room 0 →
      Does (join_of (decode first) (decode second) pairs room) (Err (refusal.Neither (refusal_at fault.PairList 0))) bytes
  unfolding join_of blank
  not_listed room bytes h e = rw (sym list_same ∙ h) (record { answers = refl; leaves = e })

  module _ (listed : is_pair_list f.terms s.terms pairs ≡ true) where
    pub limit_passed : (room : ℕ) (bytes : List ℕ) → within_limits (joined (decode first) (decode second) (pairs_of pairs)) ≡ false →
        bytes ≡ replicate room 0 → Does (join_of (decode first) (decode second) pairs room) (Err (refusal.Neither (refusal_at fault.JoinRoom 0))) bytes
    unfolding join_of fitted blank ◌and◌
    limit_passed room bytes h e = rw (sym list_same ∙ listed, h) (record { answers = refl; leaves = e })

    module _ (within : within_limits (joined (decode first) (decode second) (pairs_of pairs)) ≡ true) (before after : List ℕ) (r : ℕ)
        (clean : before ≡ replicate (length before) 0) (w : Writes before 0 (encode (joined (decode first) (decode second) (pairs_of pairs))) after r) where
      size : r ≡ length (encode (joined (decode first) (decode second) (pairs_of pairs)))
      size = w.ends ∙ omega arith

      pub too_short : (bytes : List ℕ) → length after < r → bytes ≡ replicate (length after) 0 → Does (join_of (decode first) (decode second) pairs (length before)) (Err (refusal.Neither (refusal_at fault.JoinRoom 0))) bytes
      unfolding join_of fitted blank ◌and◌
      too_short bytes h e =
          rw (sym list_same ∙ listed, within, lt-leb (length (encode (joined (decode first) (decode second) (pairs_of pairs)))) (length before) (omega (arith, h, size, writes_length w)))
          (record { answers = refl; leaves = e ∙ ap (λ (k : ℕ). replicate k 0) (writes_length w) })

      pub fits : r ≤ length after → Does (join_of (decode first) (decode second) pairs (length before)) (Ok r) after
      unfolding join_of fitted ◌and◌
      fits h =
          let low : length (encode (joined (decode first) (decode second) (pairs_of pairs))) ≤ length before = omega (arith, h, size, writes_length w) in
          let done = writes_blank (subst (λ (xs : List ℕ). Writes xs 0 (encode (joined (decode first) (decode second) (pairs_of pairs))) after r) clean w) low in
          rw (sym list_same ∙ listed, within, le-leb (length (encode (joined (decode first) (decode second) (pairs_of pairs)))) (length before) low)
          (record { answers = ap written done.1; leaves = done.0 })

-- The checks

module _ (first second pairs : List ℕ) (room : ℕ) (bytes : List ℕ) where
  pub refused_first : {r : Refusal} → CheckedAs (Err r) first → bytes ≡ replicate room 0 → Does (join_call first second pairs room) (Err (refusal.First r)) bytes
  unfolding join_call blank call.of_first Option-elim
  refused_first {r} h e = rw (refused_query first r h) (record { answers = refl; leaves = e })

  pub refused_second : {r : Refusal} {f : Layout} → CheckedAs (Ok f) first → CheckedAs (Err r) second →
      bytes ≡ replicate room 0 → Does (join_call first second pairs room) (Err (refusal.Second r)) bytes
  unfolding join_call blank call.of_second Option-elim
  refused_second {r} {f} g h e = rw (passed_query first {l = f} g, refused_query second r h) (record { answers = refl; leaves = e })

  pub joined_does : {f s : Layout} {r : Result ℕ JoinRefusal} {n : ℕ} → CheckedAs (Ok f) first → CheckedAs (Ok s) second →
      n ≡ room → Does (join_of (decode first) (decode second) pairs n) r bytes → Does (join_call first second pairs room) r bytes
  unfolding join_call Option-elim
  joined_does {r = r} g h e d = rw (passed_query first g, passed_query second h) (subst (λ (k : ℕ). Does (join_of (decode first) (decode second) pairs k) r bytes) e d)

  -- the refusal of either
  pub both_refused : (r : JoinRefusal) → BothChecked (Err r) first second → bytes ≡ replicate room 0 → Does (join_call first second pairs room) (Err r) bytes
  both_refused (refusal.First e) h b = refused_first h b
  both_refused (refusal.Second e) h b = refused_second {f = h.0} h.1 h.2 b
  both_refused (refusal.Neither e) h b = absurd h

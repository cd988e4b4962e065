-- What a C header says of the verdict call and the derivation call, with one link and with three: one theorem for each sentence. `f` is the form
-- of queries that a call takes, whose places are small numbers; `order`, `query` and `before` are what it is given, `r` is the number that it
-- answers and `bytes` what it leaves in the lent output: its contract is the hypothesis `codes`.
use Prim.Native.Nat.{ℕ, ◌+◌, ◌*◌, ◌/◌, ◌%◌, ◌≤◌, ◌<◌}
use native.Mathlib.Omega.{arith}
use mathlib.Core.Path.{◌≡◌, refl, sym, ap, ◌∙◌}
use mathlib.Core.Logic.{⊎_elim}
use mathlib.Core.List.Memᴰ
use mathlib.Core.List.{List, [], ◌∷◌, ◌++◌, Memᴰ}
use lib.ListN.{length, get_or, replicate}
use Rattle.logic.specs.Facts.{Line}
use Rattle.logic.specs.Walk.{our_walk, refutation}
use Rattle.logic.specs.Calls.{Input, Check, CallForm, Outcome, verdict_checks_of, derivation_checks_of, verdict_call_of, derivation_call_of}
use Rattle.logic.specs.Calls as calls
use Rattle.logic.specs.Demands.{numbers, Refusals}
use Rattle.theory.proofs.Calls.CheckingOrder.{Early}
use Rattle.theory.proofs.Calls.CallLaws.{FormLaws}
use Rattle.theory.proofs.Calls.Refusals.{verdict_early, derivation_early}
use Rattle.theory.proofs.Calls.Demands.{demand1_of}
use Rattle.theory.proofs.Calls.Room.{room_enough, report-short}
use Rattle.prover.specs.Promise.{input_of}
use Rattle.codes.specs.Codes.{code, digits_in, read_back}
use Rattle.codes.proofs.Numbers.{Returns, number_back}
use Rattle.answer_codes.specs.Numbers.{verdict_digits, verdict_read}
use Rattle.answer_codes.proofs.Returned.{verdict_returns}
use Rattle.lemitsaka.specs.VerdictPromise.{answer_in, Codes}

-- the numbers of a call's refusals: those of its checks, 11 and 12
abbrev numbers_of : List Check → List ℕ
numbers_of cs = numbers cs ++ (11 ∷ 12 ∷ [])

module _ (cs : List Check) (outcome : Input → Outcome) (longest : ℕ) (short : longest < 65536) (law : Refusals cs longest outcome) (early : (k : ℕ) → Memᴰ k (numbers cs) → Early k) where
  small : (k : ℕ) → Memᴰ k (numbers_of cs) → (1 ≤ k) × (k ≤ 26)
  small k m = ⊎_elim checked late (Memᴰ.append_cases (numbers cs) m)
    where
      checked : Memᴰ k (numbers cs) → (1 ≤ k) × (k ≤ 26)
      checked n = let e = early k n in (e.0, ⊎_elim (λ u. omega (arith, u)) (λ q. omega (arith, q)) e.1)

      late : Memᴰ k (11 ∷ 12 ∷ []) → (1 ≤ k) × (k ≤ 26)
      late n =
          ⊎_elim (λ q. (omega (arith, q), omega (arith, q)))
          (λ o. ⊎_elim (λ q. (omega (arith, q), omega (arith, q))) (λ z. absurd (Memᴰ.not-nil z)) (Memᴰ.cases_cons o))
          (Memᴰ.cases_cons n)

  returned : (i : Input) → Returns verdict_digits verdict_read (outcome i).answer
  returned i =
      verdict_returns (outcome i).answer
      (λ k place e. let n = small k (law.refusal_numbered i k place e) in (n.0, omega (arith, n.1), omega (arith, short, (law.refusal_placed i k place e).1)))

  module _ (order query before bytes : List ℕ) (r : ℕ) (codes : Codes (outcome (input_of order query before)) r bytes) where
    answer_back : answer_in r ≡ (outcome (input_of order query before)).answer
    answer_back = number_back verdict_digits verdict_read _ (returned (input_of order query before)) r codes.answers

    answered : (a : calls.Answer) → answer_in r ≡ a → (outcome (input_of order query before)).answer ≡ a
    answered a e = sym answer_back ∙ e

    kept : length bytes ≡ length before
    kept = ap length codes.leaves ∙ law.lent_whole (input_of order query before)

    numbered : (k place : ℕ) → answer_in r ≡ calls.refused k place → Memᴰ k (numbers_of cs)
    numbered k place e = law.refusal_numbered (input_of order query before) k place (answered (calls.refused k place) e)

    placed : (k place : ℕ) → answer_in r ≡ calls.refused k place → (place ≤ length query) × (place ≤ longest)
    placed k place e = law.refusal_placed (input_of order query before) k place (answered (calls.refused k place) e)

    blank : (k place : ℕ) → answer_in r ≡ calls.refused k place → bytes ≡ replicate (length before) 0
    blank k place e = codes.leaves ∙ law.refusal_blank (input_of order query before) k place (answered (calls.refused k place) e)

-- A call "writes every byte, whatever it answers": what the lent bytes held before makes no difference, only their length.
pub every_byte_written : (outcome : Input → Outcome) (order query before before' bytes bytes' : List ℕ) (r r' : ℕ)
    → Codes (outcome (input_of order query before)) r bytes → Codes (outcome (input_of order query before')) r' bytes' → length before ≡ length before' → (r ≡ r') × (bytes ≡ bytes')
every_byte_written outcome order query before before' bytes bytes' r r' c c' l =
    let e : outcome (input_of order query before) ≡ outcome (input_of order query before') = ap (λ (n : ℕ). outcome (record { order = order; query = query; room = n })) l in
    (c.answers ∙ ap (λ (o : Outcome). code (verdict_digits o.answer)) e ∙ sym c'.answers, c.leaves ∙ ap (λ (o : Outcome). o.lent) e ∙ sym c'.leaves)

-- The verdict call
module _ (f : CallForm) (laws : FormLaws f) (short : f.longest < 65536) (order query before bytes : List ℕ) (r : ℕ) (codes : Codes (verdict_call_of f (input_of order query before)) r bytes) where
  -- the number gives back the answer
  pub verdict_number : answer_in r ≡ (verdict_call_of f (input_of order query before)).answer
  verdict_number = answer_back (verdict_checks_of f) (verdict_call_of f) f.longest short (demand1_of f laws).verdict_refusals (verdict_early f laws) order query before bytes r codes

  -- The refusals are those of its checks: "1 to 9 and 26", with three links 22 too. A refusal's place is at most the query's length, and at most
  -- 561, with three links 637.
  pub verdict_numbered : (k place : ℕ) → answer_in r ≡ calls.refused k place → Memᴰ k (numbers (verdict_checks_of f))
  verdict_numbered k place e = (demand1_of f laws).verdict_numbered (input_of order query before) k place (sym verdict_number ∙ e)

  pub verdict_placed : (k place : ℕ) → answer_in r ≡ calls.refused k place → (place ≤ length query) × (place ≤ f.longest)
  verdict_placed = placed (verdict_checks_of f) (verdict_call_of f) f.longest short (demand1_of f laws).verdict_refusals (verdict_early f laws) order query before bytes r codes

  -- The report's length is kept; "After a refusal all of the lent bytes are zero."
  pub verdict_kept : length bytes ≡ length before
  verdict_kept = kept (verdict_checks_of f) (verdict_call_of f) f.longest short (demand1_of f laws).verdict_refusals (verdict_early f laws) order query before bytes r codes

  pub verdict_blank : (k place : ℕ) → answer_in r ≡ calls.refused k place → bytes ≡ replicate (length before) 0
  verdict_blank = blank (verdict_checks_of f) (verdict_call_of f) f.longest short (demand1_of f laws).verdict_refusals (verdict_early f laws) order query before bytes r codes

  -- "9 unless the report has LEMITSAKA_REPORT_SIZE bytes or more": 53, with three links 85, are never refused, and every byte past them is zero.
  pub verdict_room : f.room ≤ length before → (place : ℕ) → answer_in r ≡ calls.refused 9 place → ⊥
  verdict_room l place e = room_enough f laws (input_of order query before) l place (sym verdict_number ∙ e)

  pub verdict_short : (n : ℕ) → f.room ≤ n → get_or bytes n 0 ≡ 0
  verdict_short n l = ap (λ (b : List ℕ). get_or b n 0) codes.leaves ∙ report-short f laws (input_of order query before) n l

-- The derivation call
module _ (f : CallForm) (laws : FormLaws f) (short : f.longest < 65536) (order query before bytes : List ℕ) (r : ℕ) (codes : Codes (derivation_call_of f (input_of order query before)) r bytes) where
  -- the number gives back the answer
  pub derivation_number : answer_in r ≡ (derivation_call_of f (input_of order query before)).answer
  derivation_number = answer_back (derivation_checks_of f) (derivation_call_of f) f.longest short (demand1_of f laws).derivation_refusals (derivation_early f laws) order query before bytes r codes

  -- The refusals are those of its checks, "1 to 8, 26", with three links 22 too, and 11 and 12; the place as above.
  pub derivation_numbered : (k place : ℕ) → answer_in r ≡ calls.refused k place → Memᴰ k (numbers_of (derivation_checks_of f))
  derivation_numbered = numbered (derivation_checks_of f) (derivation_call_of f) f.longest short (demand1_of f laws).derivation_refusals (derivation_early f laws) order query before bytes r codes

  pub derivation_placed : (k place : ℕ) → answer_in r ≡ calls.refused k place → (place ≤ length query) × (place ≤ f.longest)
  derivation_placed = placed (derivation_checks_of f) (derivation_call_of f) f.longest short (demand1_of f laws).derivation_refusals (derivation_early f laws) order query before bytes r codes

  -- The buffer's length is kept; "After a refusal all of the lent bytes are zero."
  pub derivation_kept : length bytes ≡ length before
  derivation_kept = kept (derivation_checks_of f) (derivation_call_of f) f.longest short (demand1_of f laws).derivation_refusals (derivation_early f laws) order query before bytes r codes

  pub derivation_blank : (k place : ℕ) → answer_in r ≡ calls.refused k place → bytes ≡ replicate (length before) 0
  derivation_blank = blank (derivation_checks_of f) (derivation_call_of f) f.longest short (demand1_of f laws).derivation_refusals (derivation_early f laws) order query before bytes r codes

  -- "Never LEMITSAKA_SATISFIABLE", which is 0
  pub derivation_nonzero : r ≡ 0 → ⊥
  unfolding verdict_read read_back digits_in
  derivation_nonzero e = (demand1_of f laws).never_satisfiable (input_of order query before) (sym derivation_number ∙ ap answer_in e)

  -- 64,002 are "the bytes that hold every derivation": refusal 12 then means more than 16,000 lines.
  pub derivation_room : 64002 ≤ length before → (place : ℕ) → answer_in r ≡ calls.refused 12 place → (ls : List Line) × (our_walk order (f.decode query) ≡ refutation ls) × (16000 < length ls)
  derivation_room l place e =
      let (z, n, u, (ls, w, x)) = ((demand1_of f laws).excess_exactly (input_of order query before) place).0 (sym derivation_number ∙ e) in
      (ls, w, ⊎_elim (λ h. h) (λ h. omega arith) x)

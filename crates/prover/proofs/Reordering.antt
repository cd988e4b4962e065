-- Reordering the equalities of a query (02, R-9), of what two calls of the library answer and leave. `does` and `does'` are the contracts of
-- two verdict calls with one order list and as many lent bytes, for queries of one form.
use Prim.Native.Nat.{ℕ}
use mathlib.Core.Path.{◌≡◌, sym, ap, ◌∙◌}
use mathlib.Core.Bool.{true}
use mathlib.Core.List.{List}
use lib.ListN.{length}
use Rattle.logic.specs.Calls.{CallForm, Outcome, accepts_by, verdict_call_of}
use Rattle.logic.specs.Reordering.{Reordered}
use Rattle.theory.proofs.Calls.CallLaws.{FormLaws}
use Rattle.theory.proofs.Calls.Reordering.{joins_agree_of}
use Rattle.prover.specs.Promise.{input_of, Does}
use Rattle.prover.specs.declared.Answer.{Answer}
use Rattle.prover.proofs.Demands.{meaning_one}

module _ (f : CallForm) (laws : FormLaws f) (order query query' before before' bytes bytes' : List ℕ) (r r' : Answer)
    (does : Does (verdict_call_of f (input_of order query before)) r bytes) (does' : Does (verdict_call_of f (input_of order query' before')) r' bytes') where
  pub same-answer-and_report : length before ≡ length before' → accepts_by f query ≡ true → accepts_by f query' ≡ true → Reordered (f.decode query) (f.decode query') → (r ≡ r') × (bytes ≡ bytes')
  same-answer-and_report e a a' h = (
    meaning_one r r' (does.answers ∙ ap (λ (o : Outcome). o.answer) same ∙ sym does'.answers),
    does.leaves ∙ ap (λ (o : Outcome). o.lent) same ∙ sym does'.leaves,
  )
    where
      same : verdict_call_of f (input_of order query before) ≡ verdict_call_of f (input_of order query' before')
      same = (joins_agree_of f laws).report_stays order query query' (length before) a a' h ∙ ap (λ (k : ℕ). verdict_call_of f (record { order = order; query = query'; room = k })) e

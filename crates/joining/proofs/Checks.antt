-- The checks of one query: it passes them, or one of them is the first that stands. Assumes nothing.
use Prim.Native.Nat.{ℕ}
use mathlib.Core.Path.{◌≡◌, refl}
use mathlib.Core.Bool.{true}
use mathlib.Core.List.{List}
use mathlib.Core.Option.{Option, none, some}
use Rattle.logic.specs.Search.{is_some}
use Rattle.logic.specs.Calls.{query_checks, accepts, accepts_by}
use Rattle.logic.specs.Calls as calls
use Rattle.logic.specs.Demands.{FirstStands}
use Rattle.theory.proofs.Basics.Search.{not-true, is_some-false}
use Rattle.theory.proofs.Calls.CheckingOrder.{refusal_first, first_refusal}
use Rattle.encoding.specs.WritingCall.{given}
use Rattle.joining.specs.Call.{query_refusal}

module _ (bytes : List ℕ) where
  pub no_refusal : accepts bytes ≡ true → query_refusal bytes ≡ none
  unfolding accepts_by query_refusal
  no_refusal h = is_some-false _ (not-true h)

  pub refusal_met : (k place : ℕ) → FirstStands query_checks (given bytes 0) k place → query_refusal bytes ≡ some (calls.refused k place)
  unfolding query_refusal
  refusal_met k place f = first_refusal query_checks (given bytes 0) k place f

  pub data Checked : Type 0 where
    passes : accepts bytes ≡ true → Checked
    stands : (k place : ℕ) → FirstStands query_checks (given bytes 0) k place → Checked

  pub checked : Checked
  unfolding accepts_by query_refusal is_some
  checked = go (query_refusal bytes) refl
    where
      go : (o : Option calls.Answer) → query_refusal bytes ≡ o → Checked
      go none e = passes (rw e)
      go (some a) e = let r = refusal_first query_checks (given bytes 0) a e in stands r.0 r.1 r.2

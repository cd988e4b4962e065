-- The checks of a call in their order, as the code makes them: what each outcome says of the call.
use Prim.Native.Nat.{◌≤◌, ◌<◌}
use mathlib.Core.Path.{◌≡◌, ap, ◌∙◌}
use mathlib.Core.Bool.{true, false}
use mathlib.Core.List.{List, [], ◌∷◌, ◌++◌}
use mathlib.Core.Option.{Option, none, some, Option-elim}
use borrow.Author.Tests.{lt-ltb, le-ltb}
use Rattle.logic.specs.Search.{keep, or_else, first_of}
use Rattle.logic.specs.Query.{is_order}
use Rattle.logic.specs.Walk.{Ending, our_walk}
use Rattle.logic.specs.Calls.{Input, Check, CallForm, order_check, Answer, refused, Outcome, refusal_of, blank, call, derivation_checks_of, room_under, verdict_checks_of}
use Rattle.theory.proofs.Basics.Search.{first_of-append}

module _ (i : Input) where
  -- the order list is refused
  pub order_refused : (cs : List Check) → is_order i.order ≡ false → refusal_of (order_check ∷ cs) i ≡ some (refused 1 0)
  unfolding refusal_of first_of order_check keep or_else Option-elim
  order_refused cs h = rw h

  order_passed : (cs : List Check) → is_order i.order ≡ true → refusal_of (order_check ∷ cs) i ≡ refusal_of cs i
  unfolding refusal_of first_of order_check keep or_else Option-elim
  order_passed cs h = rw h

  behind : (cs ds : List Check) → refusal_of (cs ++ ds) i ≡ or_else (refusal_of cs i) (refusal_of ds i)
  unfolding refusal_of
  behind cs ds = first_of-append _ cs ds

  -- the query is refused
  pub query_refused : (cs ds : List Check) (a : Answer) → is_order i.order ≡ true → refusal_of cs i ≡ some a → refusal_of (order_check ∷ (cs ++ ds)) i ≡ some a
  unfolding or_else
  query_refused cs ds a o h = order_passed (cs ++ ds) o ∙ behind cs ds ∙ ap (λ (x : Option Answer). or_else x (refusal_of ds i)) h

  -- the query passes
  query_passed : (cs ds : List Check) → is_order i.order ≡ true → refusal_of cs i ≡ none → refusal_of (order_check ∷ (cs ++ ds)) i ≡ refusal_of ds i
  unfolding or_else
  query_passed cs ds o h = order_passed (cs ++ ds) o ∙ behind cs ds ∙ ap (λ (x : Option Answer). or_else x (refusal_of ds i)) h

  module _ (f : CallForm) where
    pub room_refused : is_order i.order ≡ true → refusal_of f.checks i ≡ none → i.room < f.room → refusal_of (verdict_checks_of f) i ≡ some (refused 9 0)
    unfolding verdict_checks_of refusal_of first_of room_under keep or_else Option-elim
    room_refused o h l = query_passed f.checks (room_under f.room ∷ []) o h ∙ rw (lt-ltb i.room f.room l)

    pub verdict_clear : is_order i.order ≡ true → refusal_of f.checks i ≡ none → f.room ≤ i.room → refusal_of (verdict_checks_of f) i ≡ none
    unfolding verdict_checks_of refusal_of first_of room_under keep or_else Option-elim
    verdict_clear o h l = query_passed f.checks (room_under f.room ∷ []) o h ∙ rw (le-ltb i.room f.room l)

    pub derivation_refused : (a : Answer) → is_order i.order ≡ true → refusal_of f.checks i ≡ some a → refusal_of (derivation_checks_of f) i ≡ some a
    unfolding derivation_checks_of
    derivation_refused a o h = order_passed f.checks o ∙ h

    pub derivation_clear : is_order i.order ≡ true → refusal_of f.checks i ≡ none → refusal_of (derivation_checks_of f) i ≡ none
    unfolding derivation_checks_of
    derivation_clear o h = order_passed f.checks o ∙ h

    -- what the call then does
    pub call_refused : (cs : List Check) (result : Ending → Outcome) (a : Answer) → refusal_of cs i ≡ some a → call f cs result i ≡ blank i.room a
    unfolding call Option-elim
    call_refused cs result a h = rw h

    pub call_walked : (cs : List Check) (result : Ending → Outcome) → refusal_of cs i ≡ none → call f cs result i ≡ result (our_walk i.order (f.decode i.query))
    unfolding call Option-elim
    call_walked cs result h = rw h

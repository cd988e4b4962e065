-- What the call answers, and every byte of what is lent, on every sheet and every buffer.
use Rattle.std.specs.Prelude.{ℕ, cond, List, [], replicate, leb}
use Rattle.std.proofs.Math.Option.{Option-elim}
use Rattle.logic.specs.Calls.{padded}
use Rattle.ordering.specs.Sheet.{Pair, pairs, laid_out, rules_only}
use Rattle.ordering.specs.Finding.{grow, shown_ring}

-- An order, "none" with its ring, or a refusal's number and place.
pub data Answer : Type 0 where
  order ring : Answer
  refused : ℕ → ℕ → Answer

-- The answer of the call, and the lent bytes after it.
pub record Outcome : Type 0 where
  pub answer : Answer
  pub lent : List ℕ

-- "the place is 0 for .. each later refusal that names none", and lent bytes are zero after a refusal
unfoldable pub refusal : ℕ → ℕ → Outcome
refusal room k = record { answer = refused k 0; lent = replicate room 0 }

-- the order list, or the ring "zeros to eight"; bytes past the eighth are zero
unfoldable pub answered : List Pair → ℕ → Outcome
answered ps room =
    let none_kept : Outcome = record { answer = ring; lent = padded room (shown_ring ps) } in
    Option-elim (grow ps 8 []) none_kept (λ l. record { answer = order; lent = padded room l })

-- "Checks: 15 wrong length or count, then 16 a rule number not 1 to 8"; then 14 where fewer than eight bytes are lent
unfoldable pub order_call : List ℕ → ℕ → Outcome
order_call sheet room =
    let found : Outcome = answered (pairs sheet) room in
    let roomy : Outcome = cond (leb 8 room) found (refusal room 14) in
    let numbered : Outcome = cond (rules_only sheet) roomy (refusal room 16) in
    cond (laid_out sheet) numbered (refusal room 15)

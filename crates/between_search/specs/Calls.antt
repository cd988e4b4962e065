-- What the call answers, and every byte of what is lent, on every input (02, R-10).
use Rattle.std.specs.Prelude.{ℕ, List, []}
use Rattle.std.proofs.Math.Option.{Option-elim}
use Rattle.logic.specs.Calls.{Input, Outcome, satisfiable, refuted, refusal_of, padded, blank}
use Rattle.between.specs.Meaning.{BetweenQuery}
use Rattle.between_search.specs.Bytes.{decode_six, between_checks}
use Rattle.between_search.specs.Search.{heap_found, report_of}

-- the call has no order list
abbrev pub given : List ℕ → ℕ → Input
given query room = record { order = []; query = query; room = room }

-- a heap's report, or ""None", with an all-zero report": the answers are those of the verdict call
unfoldable pub searched : BetweenQuery → ℕ → Outcome
searched q room =
    Option-elim (heap_found q) (blank room refuted)
    (λ c. record { answer = satisfiable; lent = padded room (report_of q c) })

unfoldable pub between_call : List ℕ → ℕ → Outcome
between_call query room =
    let answered : Outcome = searched (decode_six query) room in
    Option-elim (refusal_of between_checks (given query room)) answered (blank room)

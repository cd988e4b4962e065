use Rattle.std.proofs.Common.{ℕ, ◌≡◌, ◌+◌, ◌-◌, ◌≤◌}
use Rattle.logic.specs.Search.{from, first_of}
use Rattle.logic.specs.Calls.{Input, form_checks, refusal_of}
use Rattle.query.specs.Forms.{form_by}
use Rattle.query_checks.proofs.Checks.{byte_answer}
use Rattle.query_checks.proofs.check_bytes.Given as goal

-- the refusals from 5 on that are left
abbrev pub invariant-loop-fault : goal.invariant-loop-fault
invariant-loop-fault l =
    (most excess : ℕ) → l.full.boolean_count ≤ most → (i : Input) → i.query ≡ l.query →
    refusal_of (form_checks (form_by l.full.layout.links most excess)) i
    ≡ first_of (byte_answer (form_by l.full.layout.links most excess) l.query) (from (9 - (5 + l.fault-index)) (5 + l.fault-index))

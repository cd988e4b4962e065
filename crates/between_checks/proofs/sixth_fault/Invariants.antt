use Rattle.std.proofs.Common.{◌≡◌, ◌+◌, ◌-◌, ◌*◌, ◌≤◌, length, drop}
use Rattle.logic.specs.Query.{role_fault}
use Rattle.refusals.specs.Numbers.{number_of}
use Rattle.entries.proofs.Faults.{entries_left}
use Rattle.between_checks.specs.Answers.{triple_roles, sixth_fault}
use Rattle.between_checks.proofs.sixth_fault.Given as goal

abbrev pub invariant-loop : goal.invariant-loop
invariant-loop l =
    (l.place + (l.count - l.counter) * 4 ≤ length l.query)
    × (sixth_fault (number_of l.fault) l.n l.at l.count l.query
    ≡ role_fault (number_of l.fault) l.place (entries_left (triple_roles l.n) l.count l.counter) (drop l.place l.query))

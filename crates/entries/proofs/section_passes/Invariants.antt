use Rattle.std.proofs.Common.{ℕ, ◌≡◌, ◌+◌, ◌-◌, ◌*◌, ◌≤◌, length, drop}
use Rattle.logic.specs.Query.{role_fault}
use Rattle.entries.specs.Entries.{width_of, roles_at, section_fault}
use Rattle.entries.proofs.Faults.{entries_left}
use Rattle.entries.proofs.section_passes.Given as goal

abbrev pub invariant-loop-i : goal.invariant-loop-i
invariant-loop-i l =
    (l.place + (l.count - l.i) * width_of l.kind ≤ length l.query)
    × ((k : ℕ) → section_fault k l.kind l.n l.at l.count l.query
    ≡ role_fault k l.place (entries_left (roles_at l.kind l.n) l.count l.i) (drop l.place l.query))

use Rattle.std.proofs.Common.{◌≡◌, ◌+◌, ◌-◌, ◌*◌, ◌≤◌, length}
use Rattle.entries.specs.Links.{linked_width, links_from}
use Rattle.entries.proofs.link_fault.Given as goal

abbrev pub invariant-loop : goal.invariant-loop
invariant-loop l =
    (l.place + (l.count - l.counter) * linked_width l.linked ≤ length l.query)
    × (links_from l.linked l.query l.count l.at ≡ links_from l.linked l.query (l.count - l.counter) l.place)

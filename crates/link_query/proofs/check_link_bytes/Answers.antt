use Rattle.std.proofs.Common.{refl, sym, ◌∙◌, arith}
use Rattle.entries.proofs.Faults.{or_else-some, or_else_next}
use Rattle.link_query.proofs.Checks.{terms_stand, reach_stands, link_fault_is}
use Rattle.link_query.proofs.check_link_bytes.Goals as goal

pub link_fault-requires : goal.link_fault-requires
link_fault-requires c =
    let p = c.requires in let t = terms_stand _ _ p.0 p.1 p.2 in omega (arith, t.fits, t.next_is)

pub returns-in-Some : goal.returns-in-Some
returns-in-Some c =
    let p = c.requires in
    rw c.at.ensures (refl, link_fault_is _ _ p.0 p.1 p.2 ∙ or_else-some _ (sym c.in-Some.ensures))

pub link_fault-requires-2 : goal.link_fault-requires-2
link_fault-requires-2 c =
    let p = c.requires in let t = reach_stands _ _ p.0 p.1 p.2 in omega (arith, t.fits, t.next_is, p.0.reach_at)

pub returns-in-Some-link_fault : goal.returns-in-Some-link_fault
returns-in-Some-link_fault c =
    let p = c.requires in
    rw c.at-in-Some-link_fault.ensures
    (refl, link_fault_is _ _ p.0 p.1 p.2 ∙ or_else_next _ (sym c.in_default.ensures) ∙ sym c.in-Some-link_fault.ensures)

pub returns : goal.returns
returns c =
    let p = c.requires in
    link_fault_is _ _ p.0 p.1 p.2 ∙ or_else_next _ (sym c.in_default.ensures) ∙ sym c.in_default-link_fault.ensures

use Rattle.std.proofs.Common.{sym, ◌∙◌, arith}
use Rattle.logic.specs.Query.{term_role, number_role}
use Rattle.byte_tests.specs.Meets.{counted_role}
use Rattle.entries.proofs.Faults.{term_roles, flag_roles, literal_roles, linked_term_roles, linked_pair-roles}
use Rattle.entries.proofs.entry_fault.Goals as goal

pub returns-in-Terms : goal.returns-in-Terms
unfolding term_role number_role counted_role
returns-in-Terms c =
    rw c.in-Terms.is
    (c.term_fault.ensures ∙ sym (term_roles _ c.args.query.now _ _
    (omega (arith, (rw c.in-Terms.is at c.requires)))))

pub returns-in-Pairs : goal.returns-in-Pairs
unfolding term_role number_role counted_role
returns-in-Pairs c =
    rw c.in-Pairs.is
    (c.literal_fault.ensures ∙ sym (literal_roles _ c.args.query.now _ _ _ _
    (omega (arith, (rw c.in-Pairs.is at c.requires)))))

pub returns-in-Fields : goal.returns-in-Fields
unfolding term_role number_role counted_role
returns-in-Fields c =
    rw c.in-Fields.is
    (c.literal_fault-in-Fields.ensures ∙ sym (literal_roles _ c.args.query.now _ _ _ _
    (omega (arith, (rw c.in-Fields.is at c.requires)))))

pub returns-in-Booleans : goal.returns-in-Booleans
unfolding term_role number_role counted_role
returns-in-Booleans c =
    rw c.in-Booleans.is
    (c.flag_fault.ensures ∙ sym (flag_roles _ c.args.query.now _ _ _
    (omega (arith, (rw c.in-Booleans.is at c.requires)))))

pub returns-in-LinkedTerms : goal.returns-in-LinkedTerms
unfolding term_role number_role counted_role
returns-in-LinkedTerms c =
    rw c.in-LinkedTerms.is
    (c.term_fault-in-LinkedTerms.ensures ∙ sym (linked_term_roles _ c.args.query.now _ _
    (omega (arith, (rw c.in-LinkedTerms.is at c.requires)))))

pub returns-in-LinkedPairs : goal.returns-in-LinkedPairs
unfolding term_role number_role counted_role
returns-in-LinkedPairs c =
    rw c.in-LinkedPairs.is
    (c.literal_fault-in-LinkedPairs.ensures ∙ sym (linked_pair-roles _ c.args.query.now _ _ _ _
    (omega (arith, (rw c.in-LinkedPairs.is at c.requires)))))

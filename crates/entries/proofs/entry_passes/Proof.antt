-- Each kind of section has its own test, and a link is held to nothing. Assumes nothing.
use native.Mathlib.Omega.{arith}
use borrow.Author.Rules.{rules}
use mathlib.Core.Path.{◌∙◌}
use Rattle.logic.specs.Query.{term_role, number_role}
use Rattle.byte_tests.specs.Meets.{counted_role}
use Rattle.entries.proofs.Faults.{term_roles, flag_roles, literal_roles, linked_term_roles, linked_pair-roles}
use Rattle.entries.proofs.Passes.{byte_passes, flag_passes, literal_passes}
use Rattle.entries.proofs.entry_passes.Statement.{statement}
use Rattle.entries.proofs.entry_passes.Tie as tie

-- The places that lie behind a place.

abbrev enum_told_of_entry_allowed : tie.After-entry_allowed → tie.In-Terms
enum_told_of_entry_allowed c = c.before.before

abbrev enum_told5_of_entry_allowed2 : tie.After-entry_allowed-in-LinkedTerms → tie.In-LinkedTerms
enum_told5_of_entry_allowed2 c = c.before.before

pub entry_passes_spec : {M : Type 1} → statement M
unfolding term_role number_role counted_role
entry_passes_spec =
    tie.close
    (tie.spec
    -- enum_told
    (λ c. search rules)
    -- byte-at-requires
    (λ c κs. omega (arith, (rw c.in-Terms.is at c.requires)))
    -- entry-allowed-requires
    (λ c κs. search rules)
    -- enum-told-2
    (λ c. search rules)
    -- add-literal-passes
    (λ c. omega (arith, (rw c.in-Pairs.is at c.requires)))
    -- literal-passes-requires
    (λ c κs. (omega arith, omega (arith, (rw c.in-Pairs.is at c.requires))))
    -- enum-told-3
    (λ c. search rules)
    -- add-literal-passes-2
    (λ c. omega (arith, (rw c.in-Fields.is at c.requires)))
    -- literal-passes-requires-2
    (λ c κs. (omega arith, omega (arith, (rw c.in-Fields.is at c.requires))))
    -- enum-told-4
    (λ c. search rules)
    -- add-flag-passes
    (λ c. omega (arith, (rw c.in-Booleans.is at c.requires)))
    -- flag-passes-requires
    (λ c κs. (omega arith, omega (arith, (rw c.in-Booleans.is at c.requires))))
    -- enum-told-5
    (λ c. search rules)
    -- add-byte-at
    (λ c. omega (arith, (rw c.in-LinkedTerms.is at c.requires)))
    -- byte-at-requires-2
    (λ c κs. omega (arith, (rw c.in-LinkedTerms.is at c.requires)))
    -- entry-allowed-requires-2
    (λ c κs. search rules)
    -- enum-told-6
    (λ c. search rules)
    -- add-literal-passes-3
    (λ c. omega (arith, (rw c.in-LinkedPairs.is at c.requires)))
    -- literal-passes-requires-3
    (λ c κs. (omega arith, omega (arith, (rw c.in-LinkedPairs.is at c.requires))))
    -- returns
    (λ c. rw (enum_told_of_entry_allowed c).in-Terms.is
    (λ h k. term_roles k (enum_told_of_entry_allowed c).args.query.now _ _
    (omega (arith, (rw c.in-Terms.is at c.requires)))
    ∙ byte_passes (enum_told_of_entry_allowed c).args.query.now _ _ c.entry_allowed.ensures c.byte_at.ensures h k))
    -- returns-2
    (λ c. rw c.in-Pairs.is
    (λ h k. literal_roles k c.args.query.now _ _ _ _
    (omega (arith, (rw c.in-Pairs.is at c.requires)))
    ∙ literal_passes c.args.query.now 7 _ _ _ _ c.literal_passes.ensures h k))
    -- returns-3
    (λ c. rw c.in-Fields.is
    (λ h k. literal_roles k c.args.query.now _ _ _ _
    (omega (arith, (rw c.in-Fields.is at c.requires)))
    ∙ literal_passes c.args.query.now 8 _ _ _ _ c.literal_passes-in-Fields.ensures h k))
    -- returns-4
    (λ c. rw c.in-Booleans.is
    (λ h k. flag_roles k c.args.query.now _ _ _
    (omega (arith, (rw c.in-Booleans.is at c.requires)))
    ∙ flag_passes c.args.query.now 8 _ _ _ c.flag_passes.ensures h k))
    -- returns-5
    (λ c. rw (enum_told5_of_entry_allowed2 c).in-LinkedTerms.is
    (λ h k. linked_term_roles k (enum_told5_of_entry_allowed2 c).args.query.now _ _
    (omega (arith, (rw c.in-LinkedTerms.is at c.requires)))
    ∙ byte_passes (enum_told5_of_entry_allowed2 c).args.query.now _ _ c.entry_allowed-in-LinkedTerms.ensures c.byte_at-in-LinkedTerms.ensures h k))
    -- returns-6
    (λ c. rw c.in-LinkedPairs.is
    (λ h k. linked_pair-roles k c.args.query.now _ _ _ _
    (omega (arith, (rw c.in-LinkedPairs.is at c.requires)))
    ∙ literal_passes c.args.query.now 7 _ _ _ _ c.literal_passes-in-LinkedPairs.ensures h k)))

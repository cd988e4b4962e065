-- The tests in their order. Assumes nothing.
use borrow.Author.Rules.{rules}
use Rattle.report_reader.proofs.Laws.{formed_test}
use Rattle.report_reader.proofs.is_well_formed.Statement.{statement}
use Rattle.report_reader.proofs.is_well_formed.Tie as tie

pub is_well_formed_spec : {M : Type 1} → statement M
is_well_formed_spec =
    tie.close
    (tie.spec
    -- size-in-requires
    (λ c κs. search rules)
    -- count-in-requires
    (λ c κs. search rules)
    -- add-size
    (λ c. search rules)
    -- add-size-2
    (λ c. search rules)
    -- add-size-3
    (λ c. search rules)
    -- add-byte-at
    (λ c. search rules)
    -- add-byte-at-2
    (λ c. search rules)
    -- byte-at-requires
    (λ c κs. search rules)
    -- add-byte-at-3
    (λ c. search rules)
    -- add-byte-at-4
    (λ c. search rules)
    -- add-byte-at-5
    (λ c. search rules)
    -- byte-at-requires-2
    (λ c κs. search rules)
    -- add-all-nodes
    (λ c. search rules)
    -- all-nodes-requires
    (λ c κs. search rules)
    -- add-all-nodes-2
    (λ c. search rules)
    -- add-all-nodes-3
    (λ c. search rules)
    -- add-all-nodes-4
    (λ c. search rules)
    -- all-nodes-requires-2
    (λ c κs. search rules)
    -- all-zero-requires
    (λ c κs. search rules)
    -- returns
    (λ c.
    formed_test _ _ _ _ _ _ _ _ c.size_in-m.ensures.0 c.count_in-n.ensures.0
    c.byte_at-third.ensures.0 c.byte_at-fourth.ensures.0 c.all_nodes-linked.ensures c.all_nodes-named.ensures
    c.all_zero-blank.ensures))

-- Assumes nothing.
use Prim.Native.Nat.{ℕ, ◌+◌}
use borrow.Author.Rules.{rules}
use mathlib.Core.Path.{ap, ◌∙◌}
use lib.ListN.{get_or}
use Rattle.logic.specs.Shown.{node_in}
use Rattle.report_reader.proofs.node_in.Statement.{statement}
use Rattle.report_reader.proofs.node_in.Tie as tie

returns : tie.Need-returns
unfolding node_in
returns c =
    c.byte_at.ensures.0 ∙ ap (λ (k : ℕ). get_or c.args.report.now (k + 1 + c.args.t.0) 0) c.size_in.ensures.0

pub node_in_spec : {M : Type 1} → statement M
node_in_spec =
    tie.close
    (tie.spec
    -- size-in-requires
    (λ c κs. search rules)
    -- add-byte-at
    (λ c. search rules)
    -- add-byte-at-2
    (λ c. search rules)
    -- byte-at-requires
    (λ c κs. search rules)
    returns)

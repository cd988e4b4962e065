-- Assumes nothing.
use Prim.Native.Nat.{ℕ, ◌+◌}
use borrow.Author.Rules.{rules}
use mathlib.Core.Path.{ap₂, ◌∙◌}
use lib.ListN.{get_or}
use Rattle.drawing.specs.Text.{booleans_in}
use Rattle.report_reader.proofs.booleans_in.Statement.{statement}
use Rattle.report_reader.proofs.booleans_in.Tie as tie

returns : tie.Need-returns
unfolding booleans_in
returns c =
    c.byte_at.ensures.0 ∙ ap₂ (λ (m n : ℕ). get_or c.args.report.now (m + n + m + 4) 0) c.size_in-m.ensures.0 c.count_in.ensures.0

pub booleans_in_spec : {M : Type 1} → statement M
booleans_in_spec =
    tie.close
    (tie.spec
    -- size-in-requires
    (λ c κs. search rules)
    -- count-in-requires
    (λ c κs. search rules)
    -- add-byte-at
    (λ c. search rules)
    -- add-byte-at-2
    (λ c. search rules)
    -- add-byte-at-3
    (λ c. search rules)
    -- byte-at-requires
    (λ c κs. search rules)
    returns)

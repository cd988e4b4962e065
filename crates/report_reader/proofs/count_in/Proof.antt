-- Assumes nothing.
use Prim.Native.Nat.{ℕ, ◌+◌}
use borrow.Author.Rules.{rules}
use mathlib.Core.Path.{ap, ◌∙◌}
use lib.ListN.{get_or}
use Rattle.drawing.specs.Text.{count_in}
use Rattle.report_reader.proofs.count_in.Statement.{statement}
use Rattle.report_reader.proofs.count_in.Tie as tie

returns : tie.Need-returns
unfolding count_in
returns c = (c.byte_at.ensures.0 ∙ ap (λ (k : ℕ). get_or c.args.report.now (k + 1) 0) c.size_in.ensures.0, c.byte_at.ensures.1)

pub count_in_spec : {M : Type 1} → statement M
count_in_spec =
    tie.close
    (tie.spec
    -- size-in-requires
    (λ c κs. search rules)
    -- add-byte-at
    (λ c. search rules)
    -- byte-at-requires
    (λ c κs. search rules)
    returns)

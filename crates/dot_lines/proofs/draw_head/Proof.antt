-- Assumes nothing.
use Prim.Native.Nat.{ℕ}
use borrow.Author.Rules.{rules}
use mathlib.Core.Path.{ap}
use mathlib.Core.List.{◌++◌}
use Rattle.text.specs.Text.{decimal}
use Rattle.text.proofs.Writing.{writes_as}
use Rattle.drawing.specs.Text.{opening, comment_open, newline, comment_line}
use Rattle.dot_lines.proofs.draw_head.Statement.{statement}
use Rattle.dot_lines.proofs.draw_head.Tie as tie

-- returns
returns : tie.Need-returns
unfolding comment_line
returns c =
    writes_as (ap (λ (k : ℕ). opening ++ (comment_open ++ (decimal k ++ newline))) c.booleans_in.ensures) c.add.ensures

pub draw_head_spec : {M : Type 1} → statement M
draw_head_spec =
    tie.close
    (tie.spec
    -- booleans-in-requires
    (λ c κs. search rules)
    -- add-requires
    (λ c κs. search rules)
    -- same-length
    (λ c. search rules)
    returns)

-- Assumes nothing.
use Prim.Native.Nat.{ℕ}
use native.Mathlib.Omega.{arith}
use borrow.Author.Rules.{rules}
use mathlib.Core.Path.{ap}
use mathlib.Core.List.{◌++◌}
use Rattle.text.specs.Text.{decimal}
use Rattle.text.proofs.Writing.{writes_as}
use Rattle.drawing.specs.Text.{arrow, line_end, arrow_line}
use Rattle.dot_lines.proofs.draw_arrow.Statement.{statement}
use Rattle.dot_lines.proofs.draw_arrow.Tie as tie

-- returns
returns : tie.Need-returns
unfolding arrow_line
returns c =
    let link = c.link_in-link in
    writes_as (ap (λ (k : ℕ). decimal c.args.v.0 ++ (arrow ++ (decimal k ++ line_end))) link.ensures) c.add_two.ensures

pub draw_arrow_spec : {M : Type 1} → statement M
draw_arrow_spec =
    tie.close
    (tie.spec
    -- link-in-requires
    (λ c κs. search rules)
    -- add-two-requires
    (λ c κs. omega (arith, c.requires))
    -- same-length
    (λ c. search rules)
    returns)

-- Assumes nothing.
use borrow.Author.Rules.{rules}
use mathlib.Core.Path.{ap}
use Prim.Native.Nat.{ℕ}
use mathlib.Core.Bool.{false}
use mathlib.Core.List.{List, ◌++◌, append-nil}
use Rattle.text.specs.Text.{decimal}
use Rattle.text.proofs.Writing.{writes_as}
use Rattle.drawing.specs.Text.{blank}
use Rattle.dot_lines.proofs.draw_term.Statement.{statement}
use Rattle.dot_lines.proofs.draw_term.Tie as tie

-- returns
returns : tie.Need-returns-then-first
returns c =
    rw c.if-first.true (writes_as (append-nil (decimal c.args.t.0)) c.add.ensures)

-- returns-2
returns_2 : tie.Need-returns
returns_2 c =
    rw c.if-first.false (writes_as (ap (λ (xs : List ℕ). blank false ++ xs) (append-nil (decimal c.args.t.0))) c.add-2.ensures)

pub draw_term_spec : {M : Type 1} → statement M
draw_term_spec =
    tie.close
    (tie.spec
    -- add-requires
    (λ c κs. search rules)
    -- same-length
    (λ c. search rules)
    returns
    -- add-requires-2
    (λ c κs. search rules)
    -- same-length-2
    (λ c. search rules)
    returns_2)

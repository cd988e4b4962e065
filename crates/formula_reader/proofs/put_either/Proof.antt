-- Counts are at most 65. Assumes nothing.
use native.Mathlib.Omega.{arith}
use borrow.Author.Rules.{rules}
use mathlib.Core.Path.{ap, ap₂, ◌∙◌}
use Prim.Native.Nat.{ℕ, ◌+◌}
use Rattle.formula_reader.specs.Tree.{put_node, capped}
use Rattle.formula_reader.proofs.put_either.Statement.{statement}
use Rattle.formula_reader.proofs.put_either.Tie as tie

pub put_either_spec : {M : Type 1} → statement M
put_either_spec =
    tie.close
    (tie.spec
    -- count-at-requires
    (λ c κs. omega arith)
    -- capped-requires
    (λ c κs. search rules)
    -- count-at-requires-2
    (λ c κs. omega arith)
    -- capped-requires-2
    (λ c κs. search rules)
    -- add-capped
    (λ c. omega arith)
    -- capped-requires-3
    (λ c κs. search rules)
    -- add-put-node
    (λ c. omega arith)
    -- put-node-requires
    (λ c κs. omega arith)
    -- returns
    (λ c.
    c.put_node.ensures ∙ ap (put_node c.args.nodes.now (c.args.b + 1) 5 c.args.a c.args.b)
    (c.capped-count.ensures.0
    ∙ ap capped (ap₂ (λ (x y : ℕ). x + y) (c.capped.ensures.0 ∙ ap capped c.count_at.ensures)
    (c.capped-2.ensures.0 ∙ ap capped c.count_at-2.ensures)))))

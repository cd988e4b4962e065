-- Four stores. Assumes nothing.
use borrow.Author.Rules.{rules}
use mathlib.Core.Path.{refl}
use Rattle.formula_reader.specs.Tree.{put_node}
use Rattle.formula_reader.proofs.put_node.Statement.{statement}
use Rattle.formula_reader.proofs.put_node.Tie as tie

returns : tie.Need-returns
unfolding put_node
returns c = refl

pub put_node_spec : {M : Type 1} → statement M
put_node_spec =
    tie.close
    (tie.spec
    -- mul-nodes
    (λ c. search rules)
    -- mul-nodes-2
    (λ c. search rules)
    -- element-write-nodes
    (λ c. search rules)
    -- mul-nodes-3
    (λ c. search rules)
    -- add-nodes
    (λ c. search rules)
    -- mul-nodes-4
    (λ c. search rules)
    -- element-write-nodes-2
    (λ c. search rules)
    -- mul-nodes-5
    (λ c. search rules)
    -- add-nodes-2
    (λ c. search rules)
    -- mul-nodes-6
    (λ c. search rules)
    -- element-write-nodes-3
    (λ c. search rules)
    -- mul-nodes-7
    (λ c. search rules)
    -- add-nodes-3
    (λ c. search rules)
    -- mul-nodes-8
    (λ c. search rules)
    -- element-write-nodes-4
    (λ c. search rules)
    -- returns
    returns)

-- A literal that is due has its terms chosen. Assumes nothing.
use Prim.Native.Nat.{ℕ}
use native.Mathlib.Omega.{arith}
use borrow.Author.Rules.{rules}
use mathlib.Core.Path.{sym, ap, ap₂, ◌∙◌}
use mathlib.Core.Bool.{not, ◌&&◌}
use lib.Dec.{eqb}
use Rattle.between_tests.proofs.triple_breaks.Statement.{statement}
use Rattle.between_tests.proofs.triple_breaks.Tie as tie
use lib.Dec.{leb}
use Rattle.between_search.specs.Tests.{steps, agrees}
use Rattle.between_search.specs.Search.{entry}
use Rattle.between_tests.proofs.Laws.{node-read, triple_from, triple_middle, triple_to, triple_not_due, triple_due}

pub triple_breaks_spec : {M : Type 1} → statement M
triple_breaks_spec =
    tie.close
    (tie.spec
    -- term-in-requires
    (λ c κs. search rules)
    -- term-in-requires-2
    (λ c κs. search rules)
    -- term-in-requires-3
    (λ c κs. search rules)
    -- due-triple-requires
    (λ c κs. search rules)
    -- returns
    (λ c link s. triple_not_due link _ _ _
    (rw (
      ← c.term_in-x.ensures,
      ← c.term_in-y.ensures,
      ← c.term_in-z.ensures,
      ← c.due_triple.ensures,
    ) c.if-not-due_triple.true))
    -- node-of-requires
    (λ c κs. omega (arith, triple_from _ _ _ _ (sym c.due_triple.ensures ∙ c.if-not-due_triple.false), c.requires.2))
    -- node-of-requires-2
    (λ c κs. omega (arith, triple_middle _ _ _ _ (sym c.due_triple.ensures ∙ c.if-not-due_triple.false), c.requires.2))
    -- step-of-requires
    (λ c κs. (rw (node-read _ _ _ c.node_of-start.ensures) (c.requires.1 _), rw (node-read _ _ _ c.node_of.ensures) (c.requires.1 _)))
    -- node-of-requires-3
    (λ c κs.
    omega (arith, triple_to _ _ _ _ (sym c.due_triple.ensures ∙ c.if-not-due_triple.false), c.requires.2))
    -- step-of-requires-2
    (λ c κs. (
      rw (node-read _ _ _ c.node_of-start.ensures) (c.requires.1 _),
      rw (node-read _ _ _ c.node_of-2.ensures) (c.requires.1 _),
    ))
    -- mul-byte-at
    (λ c. search rules)
    -- byte-at-requires
    (λ c κs. search rules)
    -- agrees-requires
    (λ c κs. search rules)
    -- returns-2
    (λ c link s.
    let nodes = c.args.nodes.now in
    ap not (c.agrees.ensures ∙ ap (λ (b : ℕ). agrees (eqb b 1)
    (leb c.step_of-middle.result c.step_of-end.result && leb c.step_of-end.result 5))
    c.byte_at.ensures)
    ∙ triple_due link _ _ _ _ _ (rw (
      ← c.term_in-x.ensures,
      ← c.term_in-y.ensures,
      ← c.term_in-z.ensures,
      ← c.due_triple.ensures,
    ) c.if-not-due_triple.false)
    (c.step_of-middle.ensures
    ∙ s _ _ (rw (node-read _ _ _ c.node_of-start.ensures) (c.requires.1 _))
    (rw (node-read _ _ _ c.node_of.ensures) (c.requires.1 _))
    ∙ ap₂ (λ (x y : ℕ). steps link x y)
    ((node-read _ _ _ c.node_of-start.ensures) ∙ ap (entry nodes) c.term_in-x.ensures)
    ((node-read _ _ _ c.node_of.ensures) ∙ ap (entry nodes) c.term_in-y.ensures))
    (c.step_of-end.ensures
    ∙ s _ _ (rw (node-read _ _ _ c.node_of-start.ensures) (c.requires.1 _))
    (rw (node-read _ _ _ c.node_of-2.ensures) (c.requires.1 _))
    ∙ ap₂ (λ (x y : ℕ). steps link x y)
    ((node-read _ _ _ c.node_of-start.ensures) ∙ ap (entry nodes) c.term_in-x.ensures)
    ((node-read _ _ _ c.node_of-2.ensures) ∙ ap (entry nodes) c.term_in-z.ensures))))

-- The terms from t on are left. Assumes nothing.
use Prim.Native.Nat.{ℕ, ◌+◌, ◌-◌}
use native.Mathlib.Omega.{arith}
use borrow.Author.Rules.{rules}
use borrow.Author.Tests.{eq-eqb, ne_eqb}
use mathlib.Core.Path.{sym, ◌∙◌}
use mathlib.Core.Bool.{Bool, true, false}
use mathlib.Core.List.{List, ◌++◌}
use lib.Dec.{eqb}
use Rattle.logic.specs.Shown.{node_in}
use Rattle.text.specs.Text.{decimal}
use Rattle.text.proofs.Writing.{Part, part_more, part_all, part_length}
use Rattle.drawing.specs.Text.{count_in, blank, listed, terms_at}
use Rattle.dot_lines.proofs.Laws.{terms, terms_all, terms_here, terms_skip, terms_end, part_start, part_skip, part_room}
use Rattle.dot_lines.proofs.draw_terms.Statement.{statement}
use Rattle.dot_lines.proofs.draw_terms.Tie as tie

-- the terms of the node v
abbrev named : List ℕ → ℕ → ℕ → Bool
named report v t = eqb (node_in report t) v

abbrev invariant-loop-t : tie.invariant-loop-t
invariant-loop-t out₀ fill report v n to₀ first₀ end t₀ out to first t =
    Part out₀ fill (listed true (terms_at report v.0)) out to (terms (named report v.0) (count_in report) first t)

abbrev decreases-loop-t : tie.decreases-loop-t
decreases-loop-t out₀ fill report v n to₀ first₀ end t₀ out to first t = n + 1 - t

-- loop-holds
loop_holds : tie.Need-loop-t-init invariant-loop-t decreases-loop-t
unfolding terms_at
loop_holds c =
    part_start _ _ (terms_all (named c.args.report.now c.args.v.0) (count_in c.args.report.now))

-- draw-term-requires
draw_term_requires : tie.Need-draw_term-to-requires invariant-loop-t decreases-loop-t
draw_term_requires c κs =
    let report : List ℕ = c.args.report.now in
    let at = c.loop-t in
    let count = c.count_in-n in
    let node = c.node_in in
    let q : ℕ → Bool = named report c.args.v.0 in
    let here = terms_here q (count_in report) at.first at.t (omega (arith, count.ensures.0)) (eq-eqb _ _ (sym node.ensures ∙ c.if-node_in-v.false)) in
    omega (arith, part_room (blank at.first ++ decimal at.t) (terms q (count_in report) false (at.t + 1)) at.invariant here c.requires)

pub draw_terms_spec : {M : Type 1} → statement M
draw_terms_spec =
    tie.close
    (tie.spec
    invariant-loop-t
    decreases-loop-t
    -- count-in-requires
    (λ c κs. search rules)
    -- add-end
    (λ c. search rules)
    loop_holds
    -- node-in-requires
    (λ c κs. omega (arith, c.count_in-n.ensures.1))
    -- add-t
    (λ c. omega arith)
    -- loop-less
    (λ c. omega arith)
    -- loop-again
    (λ c.
    let report : List ℕ = c.args.report.now in
    let q : ℕ → Bool = named report c.args.v.0 in
    let at = c.loop-t in
    let count = c.count_in-n in
    let node = c.node_in in
    part_skip at.invariant (terms_skip q (count_in report) at.first at.t (omega (arith, count.ensures.0)) (ne_eqb _ _ (λ e. c.if-node_in-v.true (node.ensures ∙ e)))))
    draw_term_requires
    -- add-t-2
    (λ c. omega arith)
    -- loop-less-2
    (λ c. omega arith)
    -- loop-again-2
    (λ c.
    let at = c.loop-t in
    let report : List ℕ = c.args.report.now in
    let q : ℕ → Bool = named report c.args.v.0 in
    let count = c.count_in-n in
    let node = c.node_in in
    part_more at.invariant
    (terms_here q (count_in report) at.first at.t (omega (arith, count.ensures.0)) (eq-eqb _ _ (sym node.ensures ∙ c.if-node_in-v.false))) c.draw_term-to.ensures)
    -- same-length
    (λ c. part_length c.loop-t.invariant)
    -- returns
    (λ c.
    let report : List ℕ = c.args.report.now in
    let q : ℕ → Bool = named report c.args.v.0 in
    part_all c.loop-t.invariant (terms_end q (count_in report) c.loop-t.first c.loop-t.t (omega (arith, c.count_in-n.ensures.0)))))

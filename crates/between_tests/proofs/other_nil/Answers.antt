use Rattle.std.proofs.Common.{ℕ, ◌+◌, ◌-◌, Bool, not, ◌&&◌, refl, sym, ap, ap₂, ◌∙◌, arith}
use lib.Dec.{eqb}
use Rattle.logic.specs.Search.{from, any}
use Rattle.logic.specs.Query.{decode, names_nil}
use Rattle.rows.proofs.Selections.{any_end, any_here, any_next}
use Rattle.between_search.specs.Search.{entry}
use Rattle.between_tests.proofs.Laws.{node-read, any-from}
use Rattle.between_tests.proofs.other_nil.Goals as goal

pub loop-u-init : goal.loop-u-init
loop-u-init c = refl

pub node_of-w-requires : goal.node_of-w-requires
node_of-w-requires c = omega (arith, c.requires.2, c.requires.0.terms_within, c.loop-u-test.true)

pub returns-then-nil-w : goal.returns-then-nil-w
returns-then-nil-w c =
    sym (any-from _ _ ∙ ap (λ (w : ℕ). any (λ x. names_nil (decode c.args.query.now).entries x && not (eqb (entry c.args.nodes.now x) w))
    (from (c.args.t.0 + 1 - 1) 1)) (sym (node-read _ _ _ c.node_of-v.ensures)) ∙ c.loop-u.invariant
    ∙ any_here _ _ _ c.loop-u-test.true
    (ap₂ (λ (a : Bool) (x : ℕ). a && not (eqb x c.node_of-v.result.0)) (sym c.is_nil-nil.ensures)
    (sym (node-read _ _ _ c.node_of-w.ensures)) ∙ c.if-nil-w.true))

pub loop-u-preserved : goal.loop-u-preserved
loop-u-preserved c =
    c.loop-u.invariant ∙ any_next _ _ _ c.loop-u-test.true
    (ap₂ (λ (a : Bool) (x : ℕ). a && not (eqb x c.node_of-v.result.0)) (sym c.is_nil-nil.ensures)
    (sym (node-read _ _ _ c.node_of-w.ensures)) ∙ c.if-nil-w.false)

pub returns : goal.returns
returns c =
    sym (any-from _ _ ∙ ap (λ (w : ℕ). any (λ x. names_nil (decode c.args.query.now).entries x && not (eqb (entry c.args.nodes.now x) w))
    (from (c.args.t.0 + 1 - 1) 1)) (sym (node-read _ _ _ c.node_of-v.ensures)) ∙ c.loop-u.invariant ∙ any_end _ _ _ c.loop-u-test.false)

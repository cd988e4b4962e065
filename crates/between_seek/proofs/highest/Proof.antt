-- A variable names any node, or the next. Assumes nothing.
use Prim.Native.Nat.{◌+◌}
use native.Mathlib.Omega.{arith}
use mathlib.Core.Path.{sym, ◌∙◌}
use mathlib.Core.Bool.{true, false}
use Rattle.between_tests.proofs.Laws.{node-read}
use Rattle.between_seek.proofs.Laws.{highest_any, highest_link, fewer}
use Rattle.between_seek.proofs.highest.Statement.{statement}
use Rattle.between_seek.proofs.highest.Tie as tie

pub highest_spec : {M : Type 1} → statement M
highest_spec =
    tie.close
    (tie.spec
    -- argument-requires
    (λ c κs. let p = c.requires in (p.0.laid, p.3, p.4))
    -- node-of-requires
    (λ c κs.
    let p = c.requires in
    let b = p.0.below _ p.3 p.4 in
    omega (arith, b, c.argument-a.ensures, p.4, p.0.few))
    -- link-of-requires
    (λ c κs.
    let s = c.requires.1.small_nodes c.argument-a.result.0 in
    omega (arith, s, node-read _ _ _ c.node_of-v.ensures))
    -- returns
    (λ c.
    let s = c.requires.1.small_links c.node_of-v.result.0 in
    let a = c.argument-a.ensures in (
      λ between. highest_link _ _ _ _ _ _ _ _ _ a c.if-a-ne0.true (node-read _ _ _ c.node_of-v.ensures) c.link_of.ensures,
      omega (arith, s, c.link_of.ensures),
    ))
    -- sub-t14
    (λ c. omega (arith, c.requires.3))
    -- used-requires
    (λ c κs. let p = c.requires in omega (arith, p.4, p.0.few))
    -- add-next
    (λ c. omega (arith, c.used-next.ensures.1))
    -- returns-2
    (λ c.
    let a = sym c.argument-a.ensures ∙ c.if-a-ne0.false in
    let u = c.used-next in (
      λ between. highest_any _ _ _ _ _ _ _ true a u.ensures.0 c.if-q-fewer.true,
      fewer c.args.h.q.sorted (u.result + 1) c.args.h.q.m c.if-q-fewer.true c.requires.2,
    ))
    -- returns-3
    (λ c.
    let a = sym c.argument-a.ensures ∙ c.if-a-ne0.false in
    (λ between. highest_any _ _ _ _ _ _ _ false a c.used-next.ensures.0 c.if-q-fewer.false, c.requires.2)))

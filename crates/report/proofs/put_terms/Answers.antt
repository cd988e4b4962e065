use Rattle.std.proofs.Common.{◌≡◌, ℕ, ◌+◌, refl, subst, arith, get_or}
use lib.ListN.{set}
use lib.Dec.{ltb}
use borrow.Author.Tests.{lt-ltb}
use Rattle.heap_nodes.proofs.Nodes.{every_selected, every_length}
use Rattle.heap_nodes.proofs.Writing.{Put, put-none, put_skip, put-here, put_all}
use Rattle.report.proofs.put_terms.Goals as goal

pub loop-t-init : goal.loop-t-init
loop-t-init c =
    let none : c.args.at ≡ c.args.at + 0 = omega arith in
    subst (λ (k : ℕ). Put (ltb 0) (λ x. get_or c.args.bytes.now x 0) c.args.n c.args.at 1 k c.args.buffer.now c.args.buffer.now) none
    (put_skip _ _ _ _ _ _ _ _ (put-none _ _ _ _ _) (omega arith) refl)

pub loop-t-preserved : goal.loop-t-preserved
loop-t-preserved c =
    let l = c.loop-t in
    let next : c.args.at + l.t + 1 ≡ c.args.at + (l.t + 1) = omega arith in
    subst (λ (k : ℕ). Put (ltb 0) (λ x. get_or c.args.bytes.now x 0) c.args.n c.args.at (l.t + 1 + 1) k c.args.buffer.now
    (set l.buffer (c.args.at + l.t) (get_or c.args.bytes.now (l.t + 1) 0))) next
    (put-here _ _ _ _ _ _ _ _ l.invariant (omega arith) (lt-ltb 0 _ (omega arith)) (omega (arith, every_length c.args.n)) _ refl)

pub returns : goal.returns
returns c = let w = put_all _ _ _ _ _ _ _ _ c.loop-t.invariant (omega arith) in (refl, rw (every_selected c.args.n) at w.1)

-- The count, and then the successors. Assumes nothing.
use Rattle.std.proofs.Common.{ℕ, ◌*◌, arith, ap}
use Rattle.report.proofs.Successors.{counted_then}
use Rattle.report.proofs.put_successor_section.Goals as goal

pub returns : goal.returns
returns c =
    let first = c.put-next in
    let rest = c.put_successors in (
      omega (arith, first.ensures.0, rest.ensures.0),
      counted_then _ first.new.buffer rest.new.buffer _ _ _ _ _
          (ap (λ (k : ℕ). k * c.args.nodes.now.count) c.links-links.ensures.0) first.auto.buffer first.ensures.0
          first.ensures.1 rest.ensures.1,
    )

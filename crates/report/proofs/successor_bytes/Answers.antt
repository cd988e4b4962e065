-- The links shown, as nodes. Assumes nothing.
use Rattle.std.proofs.Common.{arith}
use Rattle.facts.specs.Path.{path_of}
use Rattle.completion.proofs.Completing.{shown-below}
use Rattle.report.proofs.successor_bytes.Goals as goal

pub nodes_linked-requires : goal.nodes_linked-requires
nodes_linked-requires c =
    let a = c.args in
    (c.requires.0, λ t r. rw c.shown_links-links.ensures (omega (arith, shown-below a.nodes.now.terms (path_of a.s.now) a.k.0 t)))

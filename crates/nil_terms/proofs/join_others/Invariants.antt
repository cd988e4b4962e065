-- What is left comes out as the whole.
use Rattle.std.proofs.Common.{◌≡◌, ◌+◌}
use Rattle.facts.specs.Path.{path_of}
use Rattle.joins.specs.Pairs.{joined_of}
use Rattle.link_query.specs.Said.{said}
use Rattle.plain_literals.specs.Taken.{Bounded}
use Rattle.nil_terms.specs.Nil.{nil_from}
use Rattle.nil_terms.proofs.Nil.{others}
use Rattle.nil_terms.proofs.join_others.Given as goal

abbrev pub invariant-loop-u : goal.invariant-loop-u
invariant-loop-u l =
    let n = l.layout.terms in
    let first = l.first.0 in
    let nils = nil_from (said l.layout l.query).entries n in
    Bounded (path_of l.joined.facts) × (others n first (nils (first + 1)) (joined_of l.fn.joined) ≡ others n first (nils l.u) (joined_of l.joined))

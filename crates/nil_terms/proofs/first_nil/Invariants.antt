-- No term below t names nil.
use Rattle.std.proofs.Common.{◌≡◌}
use Rattle.link_query.specs.Said.{said}
use Rattle.nil_terms.specs.Nil.{nil_from}
use Rattle.nil_terms.proofs.first_nil.Given as goal

abbrev pub invariant-loop-t : goal.invariant-loop-t
invariant-loop-t l = let q = said l.layout l.query in nil_from q.entries l.layout.terms 1 ≡ nil_from q.entries l.layout.terms l.t

-- The links below k have the fact, and nothing else changes.
use Rattle.std.proofs.Common.{◌≡◌, length}
use Rattle.facts.proofs.Adding.{AddedBelow}
use Rattle.facts.proofs.Facts.add_links.Given as goal

abbrev pub invariant-loop-k : goal.invariant-loop-k
invariant-loop-k l =
    (l.self.rep ≡ l.initial.self.rep) × (l.self.single ≡ l.initial.self.single) × (l.self.reach ≡ l.initial.self.reach) × (length l.self.link ≡ 51)
    × AddedBelow l.initial.self.link l.a.0 l.b.0 l.k l.self.link

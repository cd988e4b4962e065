use Rattle.theory.proofs.Calls.Decision.{reachable_known}
use Rattle.open_path.proofs.settle.Goals as goal

pub plain-kind-requires : goal.plain-kind-requires
plain-kind-requires c = let p = c.requires in (p.0, p.1, p.2, reachable_known _ p.1 _ p.3, p.4)

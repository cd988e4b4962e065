-- A place that is proposed has numbers in range, and a link of the path.
use Rattle.units.proofs.Rows.{applies_by}
use Rattle.probing.proofs.soon_clashes.Goals as goal

pub still_left-requires : goal.still_left-requires
still_left-requires c = let h = c.in-Some.ensures in (c.requires, applies_by _ _ _ _ _ h.0, (h.1, h.2, h.3))

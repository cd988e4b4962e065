-- A choice by an order list picks.
use Rattle.picking.proofs.Picks.{chosen_picks, total_order}
use Rattle.picking.proofs.total_first.Goals as goal

pub returns : goal.returns
returns c = chosen_picks _ c.requires _ total_order _ c.choose.result c.choose.ensures

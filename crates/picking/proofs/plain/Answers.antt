-- A choice by an order list picks.
use Rattle.picking.proofs.Picks.{chosen_picks, plain_order}
use Rattle.picking.proofs.plain.Goals as goal

pub returns : goal.returns
returns c = chosen_picks _ c.requires _ plain_order _ c.choose.result c.choose.ensures

-- What v reaches, less where links lead.
use Rattle.completion.specs.Links.{link_of}
use Rattle.completion.proofs.Rows.{heads_row}
use Rattle.completion.proofs.Shown.heads.Goals as goal

pub returns : goal.returns
returns c = let a = c.args in heads_row a.self.now.n a.self.now.reach (link_of a.self.now.links) a.v.0 _ _ _ c.successor_row-reached.ensures c.led_to.ensures c.without.ensures

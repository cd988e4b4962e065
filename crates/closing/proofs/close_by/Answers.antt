-- The reachability rows of a link are a part of all.
use Rattle.std.proofs.Common.{◌∙◌}
use Rattle.link_rows.proofs.Cube.{part_square, put_back, back_long}
use Rattle.closing.proofs.Rows.{closed_in, put_own, put_others}
use Rattle.closing.proofs.close_by.Goals as goal

pub returns : goal.returns
returns c =
    let last = c.close_link.new.reach in
    let p = c.requires in
    let put = put_back _ _ p.0 p.1 p.2 last c.close_link.ensures.1 _ c.place-from.ensures.0 in (
      closed_in _ _ _ _ _ _ _ last c.rows_of-own.ensures (part_square _ _ p.0 _ c.place-from.ensures.0) (put_own _ _ _ _ put) c.close_link.ensures.0,
      put_others _ _ _ _ put,
      back_long _ _ p.2 c.place-from.ensures.1 last c.close_link.ensures.1 ∙ p.2,
    )

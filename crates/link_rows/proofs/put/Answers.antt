-- The rows of a link are a part of all.
use Rattle.std.proofs.Common.{◌≡◌, length, ap, ◌∙◌}
use Rattle.rows.specs.Square.{square}
use Rattle.link_rows.proofs.Cube.{put_as, back_long}
use Rattle.link_rows.proofs.put.Goals as goal

pub returns : goal.returns
returns c =
    let p = c.requires in let e = c.copy_from_slice.ensures.after in
    let long : length c.copy_from_slice.new.self ≡ 17 = ap length e ∙ c.told-own in (
      put_as _ _ p.0 p.1 p.2 c.copy_from_slice.new.self long _ c.place-from.ensures.0 _ (ap square e),
      back_long _ _ p.2 c.place-from.ensures.1 c.copy_from_slice.new.self long ∙ p.2,
    )

-- One link more is told; all of them at the end.
use Rattle.std.proofs.Common.{◌+◌, arith}
use Rattle.completion.specs.Links.{link_of}
use Rattle.completion.proofs.Rows.{led-none, led_more, led_all}
use Rattle.completion.proofs.Shown.led_to.Goals as goal

pub loop-u-init : goal.loop-u-init
loop-u-init c = led-none c.args.self.now.reach c.args.self.now.links c.args.self.now.n c.args.v.0

pub with-row-requires : goal.with-row-requires
unfolding link_of
with-row-requires c = omega (arith, c.from-to.ensures, c.args.self.now.in_range c.loop-u.u)

pub loop-u-preserved : goal.loop-u-preserved
unfolding link_of
loop-u-preserved c =
    let l = c.loop-u in let a = c.args in
    led_more a.self.now.reach a.self.now.links a.self.now.n a.v.0 l.u l.row _ c.from-to.result c.holds-inside.result (omega arith)
    c.from-to.ensures c.holds-inside.ensures c.with-row.ensures l.invariant

pub returns : goal.returns
returns c = let l = c.loop-u in let a = c.args in led_all a.self.now.reach a.self.now.links a.self.now.n a.v.0 l.u l.row (omega arith) l.invariant

pub returns-2 : goal.returns-2
unfolding link_of
returns-2 c =
    let l = c.loop-u in let a = c.args in
    led_all a.self.now.reach a.self.now.links a.self.now.n a.v.0 (l.u + 1) _ (omega arith)
    (led_more a.self.now.reach a.self.now.links a.self.now.n a.v.0 l.u l.row _ c.from-to.result c.holds-inside.result (omega arith)
    c.from-to.ensures c.holds-inside.ensures c.with-row.ensures l.invariant)

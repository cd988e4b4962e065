-- v is where the path has come to, or the path goes on.
use Rattle.std.proofs.Common.{◌≡◌, ◌+◌, ◌-◌, sym, ap₂, ◌∙◌, arith}
use Rattle.logic.specs.Shown.{on_path}
use Rattle.completion.specs.Links.{link_of}
use Rattle.completion.proofs.Choice.{path_here, path_next, path_end}
use Rattle.completion.proofs.Shown.on_path.Goals as goal

pub returns-then-at-v : goal.returns-then-at-v
returns-then-at-v c = sym (c.loop-turn.invariant.1 ∙ path_here _ _ _ _ c.if-at-v.true)

pub loop-turn-preserved : goal.loop-turn-preserved
unfolding link_of
loop-turn-preserved c =
    let l = c.loop-turn in
    let to = c.from-at.ensures in
    let less : c.args.self.now.n - l._turn - 1 ≡ c.args.self.now.n - (l._turn + 1) = omega arith in (
      omega (arith, to, c.args.self.now.in_range l.at),
      l.invariant.1 ∙ path_next _ _ (c.args.self.now.n - l._turn) _ (omega arith) c.if-at-v.false ∙ ap₂ (on_path (link_of c.args.self.now.links) c.args.v.0) less (sym to),
    )

pub returns : goal.returns
returns c = sym (c.loop-turn.invariant.1 ∙ path_end _ _ _ _ (omega arith))

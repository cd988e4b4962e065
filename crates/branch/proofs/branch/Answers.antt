-- A branch of a copy, made in place.
use Rattle.std.proofs.Common.{sym, ap, ◌∙◌, subst}
use Rattle.logic.specs.Facts.{Facts, Joined, unjoined}
use Rattle.logic.specs.Rules.{branch}
use Rattle.facts.specs.Path.{path_of, HasLink}
use Rattle.rules.specs.Answers.{kind_of}
use Rattle.alternatives.specs.Alternatives.{alternative_at}
use Rattle.branch.proofs.branch.Goals as goal

pub make-requires : goal.make-requires
unfolding unjoined
make-requires c =
    let p = c.requires in
    (p.0, subst (λ (s : Facts). HasLink s c.args.m.link.0) (sym (ap (λ (j : Joined). j.facts) c.of-made.ensures)) p.1, p.2)

pub returns : goal.returns
unfolding unjoined
returns c =
    let a = c.args in
    c.make.ensures
    ∙ ap (λ (s : Facts). branch a.n s (alternative_at a.m.link.0 a.n (s.graph a.m.link.0) (kind_of a.m.rule) a.m.x.0 a.m.y.0 a.m.z.0 a.i)) (ap (λ (j : Joined). j.facts) c.of-made.ensures)

-- Both terms are read through what they were replaced by.
use Rattle.std.proofs.Common.{refl, sym, ◌∙◌, subst, arith}
use Rattle.logic.specs.Facts.{Joined}
use Rattle.facts.specs.Path.{path_of}
use Rattle.joins.specs.Pairs.{joined_of, Fits}
use Rattle.plain_literals.specs.Taken.{same, Bounded}
use Rattle.plain_literals.proofs.Bounded.{behind_bounded}
use Rattle.plain_literals.proofs.Taken.{read_bounded, join-plain}
use Rattle.plain_literals.proofs.join_terms.Goals as goal

pub join-requires : goal.join-requires
join-requires c =
    let a = c.args in
    let p = c.requires in
    let s = path_of a.joined.now.facts in
    let e = c.representative-a.ensures in
    let f = c.representative-b.ensures in (
      p.0,
      omega (arith, read_bounded s p.2 a.left.0 _ p.1.left_within e, p.1.left_within),
      read_bounded s p.2 a.right.0 _ p.1.right_within f,
      subst Fits (sym (join-plain s (same a.left.0 a.right.0) _ _ e f refl a.n _)) p.3,
    )

pub returns-clause-result_after : goal.returns-clause-result_after
returns-clause-result_after c =
    let a = c.args in
    c.join.ensures ∙ join-plain (path_of a.joined.now.facts) (same a.left.0 a.right.0) _ _ c.representative-a.ensures c.representative-b.ensures refl a.n _

pub returns-clause-bounded : goal.returns-clause-bounded
returns-clause-bounded c =
    let a = c.args in
    let l = same a.left.0 a.right.0 in
    let whole = c.join.ensures ∙ join-plain (path_of a.joined.now.facts) l _ _ c.representative-a.ensures c.representative-b.ensures refl a.n _ in
    subst (λ (j : Joined). Bounded j.facts) (sym whole) (behind_bounded a.n l (joined_of a.joined.now) c.requires.0 c.requires.1 c.requires.2)

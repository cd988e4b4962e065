-- A term that remains gets its link, and any other keeps its own; none is left at the end.
use Rattle.std.proofs.Common.{refl, sym, ap, ◌∙◌, arith}
use Rattle.facts.specs.Path.{rep_of}
use Rattle.completion.specs.Links.{link_of, reach_in}
use Rattle.completion.specs.declared.Shown.{Shown}
use Rattle.completion.proofs.Completing.{remains, linked, left_as_is, link_end, new_below}
use Rattle.completion.proofs.Shown.link_each.Goals as goal
use Rattle.completion.proofs.Shown.link_each.Goals.{then-stands-v, else-stands-v}

pub overflow_cast-self : goal.overflow_cast-self
overflow_cast-self c =
    let s = c.loop-v.self in omega (arith, c.new_link-to.ensures, new_below s.n (reach_in s.reach) (link_of s.links) c.loop-v.v, s.few)

pub invariant_of-self-clause-in_range : goal.invariant_of-self-clause-in_range
invariant_of-self-clause-in_range c =
    let l = c.loop-v in
    let i = l.invariant in
    let test = remains _ l.self.links l.v _ _ (omega arith) c.from-stands.ensures c.from-known.ensures in
    (linked _ _ (rep_of c.args.rep.now) l.self.links l.v (omega arith) l.self.few _ (test ∙ c.if-stands-v.true) c.new_link-to.ensures _ (i.2.0, l.self.in_range, refl)).1

pub loop-v-preserved : goal.loop-v-preserved
loop-v-preserved c =
    let l = c.loop-v in
    let i = l.invariant in
    let test = remains _ l.self.links l.v _ _ (omega arith) c.from-stands.ensures c.from-known.ensures in
    elim c.if-stands-v.branch [
      | then-stands-v w ↦ (
        ap (λ (s : Shown). s.n) w.self-is ∙ i.0,
        ap (λ (s : Shown). s.reach) w.self-is ∙ i.1,
        rw (ap (λ (s : Shown). s.links) w.self-is)
            (linked _ _ _ l.self.links l.v (omega arith) (omega arith) _ (test ∙ w.if-stands-v.true) (rw (i.0, i.1) at w.new_link-to.ensures) _ i.2),
      )
      | else-stands-v w ↦ (
        ap (λ (s : Shown). s.n) w.self-is ∙ i.0,
        ap (λ (s : Shown). s.reach) w.self-is ∙ i.1,
        rw (ap (λ (s : Shown). s.links) w.self-is) (left_as_is _ _ _ l.self.links l.v (omega arith) (omega arith) (test ∙ w.if-stands-v.false) _ i.2),
      )
    ]

pub returns : goal.returns
returns c = sym (c.loop-v.invariant.2.2 ∙ link_end _ _ _ _ _ (omega arith))

pub returns-after-stands-v : goal.returns-after-stands-v
returns-after-stands-v c =
    let l = c.loop-v in
    let i = l.invariant in
    let test = remains _ l.self.links l.v _ _ (omega arith) c.from-stands.ensures c.from-known.ensures in
    elim c.if-stands-v.branch [
      | then-stands-v w ↦
          ap (λ (s : Shown). link_of s.links) w.self-is
          ∙ sym
          ((linked _ _ _ l.self.links l.v (omega arith) (omega arith) _ (test ∙ w.if-stands-v.true) (rw (i.0, i.1) at w.new_link-to.ensures) _ i.2).2
          ∙ link_end _ _ _ _ _ (omega arith))
      | else-stands-v w ↦
          ap (λ (s : Shown). link_of s.links) w.self-is
          ∙ sym
          ((left_as_is _ _ _ l.self.links l.v (omega arith) (omega arith) (test ∙ w.if-stands-v.false) _ i.2).2 ∙ link_end _ _ _ _ _ (omega arith))
    ]

-- There, at a link that leads back where it starts, or at the end: the steps made are all.
use Rattle.std.proofs.Common.{◌≡◌, refl, sym, ◌∙◌, eqb-true, arith}
use Rattle.std.proofs.lemmas.Bool.{eqb-false}
use Rattle.facts.specs.Path.{links_in}
use Rattle.rows.proofs.Bits.{bit-none}
use Rattle.link_steps.proofs.Around.{next_le, follow_start, follow_there, follow_end, follow_stuck, follow_turn}
use Rattle.link_steps.proofs.Around.{iterate-none, iterate_turn, iterate_stuck, passed_none, passed_then, passed_ever}
use Rattle.link_steps.proofs.follow.Goals as goal

pub loop-steps-init : goal.loop-steps-init
loop-steps-init c = record {
  within = c.requires.1;
  led = sym (iterate-none _ _ 0 _ refl);
  left = follow_start _ _ _ _ _;
  passed = λ y. bit-none y ∙ passed_none _ _ y _;
}

pub returns-then-eq : goal.returns-then-eq
returns-then-eq c =
    let i = c.loop-steps.invariant in
    (follow_there _ _ _ _ _ _ _ i.left (eqb-true _ _ (sym c.eq.ensures ∙ c.if-eq.true)), i.led, i.passed)

pub loop-steps-preserved : goal.loop-steps-preserved
loop-steps-preserved c =
    let i = c.loop-steps.invariant in
    let e = c.next-d.ensures in
    let l = next_le c.args.n (links_in c.args.link.now) c.loop-steps.term.0 in record {
      within = omega arith;
      led = iterate_turn _ _ _ _ _ _ i.led e;
      left = follow_turn _ _ _ _ _ _ _ _ i.left (omega arith) (eqb-false _ _ (sym c.eq.ensures ∙ c.if-eq.false)) e;
      passed = passed_then _ _ _ _ _ _ _ i.led i.passed c.only-passed.ensures;
    }

pub returns-after-loop-steps : goal.returns-after-loop-steps
returns-after-loop-steps c =
    let i = c.loop-steps.invariant in
    let whole : c.loop-steps.steps ≡ c.args.left = omega arith in
    (sym whole ∙ follow_end _ _ _ _ _ _ _ i.left (omega arith), rw whole at i.led, rw whole at i.passed)

pub returns-then-eq-2 : goal.returns-then-eq-2
returns-then-eq-2 c =
    let i = c.loop-steps.invariant in
    let stuck = sym c.next-d.ensures ∙ eqb-true _ _ (sym c.eq-in-loop-steps.ensures ∙ c.if-eq-2.true) in (
      follow_stuck _ _ _ _ _ _ _ i.left (omega arith) (eqb-false _ _ (sym c.eq.ensures ∙ c.if-eq.false)) stuck,
      iterate_stuck _ _ _ _ _ _ (omega arith) i.led stuck,
      passed_ever _ _ _ _ _ _ _ i.led i.passed c.only-passed.ensures _ (omega arith) stuck,
    )

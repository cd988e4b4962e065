-- Nothing where no term names nil; else the others, and then the link of what the first became.
use Rattle.std.proofs.Common.{ℕ, List, ◌≤◌, sym, ap, ◌∙◌, subst, arith}
use Rattle.logic.specs.Facts.{and_then, join_nil}
use Rattle.joins.specs.Pairs.{joined_of, Fits}
use Rattle.joins.proofs.Joins.{fits_left}
use Rattle.plain_literals.proofs.Taken.{read_bounded}
use Rattle.nil_terms.proofs.Nil.{nil-none, nil_opened, nil-whole, nil_settled}
use Rattle.nil_terms.proofs.join_nil.Goals as goal

pub join_others-requires : goal.join_others-requires
join_others-requires c =
    let p = c.requires.within in
    let first = c.in-Some.ensures in
    record {
      within = (p.0, first.0, p.1);
      fits = fits_left _ _ (subst Fits (nil_opened _ _ _ first.1 (joined_of c.args.joined.now)) c.requires.fits);
    }

pub add_links-requires : goal.add_links-requires
add_links-requires c =
    let few : c.in-Some.first.0 ≤ 16 = omega (arith, c.in-Some.ensures.0, c.requires.within.0.terms_within) in
    let b = read_bounded _ c.join_others.ensures.bounded _ _ few c.representative-nil.ensures in
    (omega (arith, b), omega (arith, b))

pub settle-requires : goal.settle-requires
settle-requires c =
    let p = c.requires.within in (
      omega (arith, p.0.terms_within),
      subst Fits (sym (nil-whole _ _ _ c.in-Some.ensures.1 (joined_of c.args.joined.now) (joined_of c.join_others.new.joined) c.join_others.ensures.result_after _ _
          c.representative-nil.ensures c.add_links.ensures)) c.requires.fits,
    )

pub returns-in_default-clause-result_after : goal.returns-in_default-clause-result_after
returns-in_default-clause-result_after c =
    let j = joined_of c.args.joined.now in
    let n = c.args.layout.terms in
    sym (ap (λ (us : List ℕ). and_then j (join_nil n us)) c.in_default.ensures ∙ nil-none n j)

pub returns-clause-result_after : goal.returns-clause-result_after
returns-clause-result_after c =
    c.settle.ensures ∙ nil-whole _ _ _ c.in-Some.ensures.1 (joined_of c.args.joined.now) (joined_of c.join_others.new.joined) c.join_others.ensures.result_after _ _
    c.representative-nil.ensures c.add_links.ensures

pub returns-clause-bounded : goal.returns-clause-bounded
returns-clause-bounded c =
    nil_settled _ _ _ c.in-Some.ensures.1 (joined_of c.args.joined.now) (joined_of c.join_others.new.joined) c.join_others.ensures.result_after _ _
    c.representative-nil.ensures c.add_links.ensures (joined_of c.settle.new.self) c.settle.ensures c.requires.within.0.terms_within c.join_others.ensures.bounded

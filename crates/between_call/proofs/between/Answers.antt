-- The checks in their order, and then the search. Assumes nothing.
use Rattle.std.proofs.Common.{refl}
use Rattle.between_call.proofs.Answering.{six_does, room_does, terms_does, none_stands, few_terms, many_terms, asked_of, answer_does}
use Rattle.between_call.proofs.between.Goals as goal

pub returns-in-Err : goal.returns-in-Err
returns-in-Err c = six_does _ _ _ _ _ _ (c.in-Err.ensures _ refl) c.refuse.ensures

pub returns-then-report-lt53 : goal.returns-then-report-lt53
returns-then-report-lt53 c =
    room_does _ _ _ _ (c.in-Ok.ensures.0 _ refl) c.if-report-lt53.true (rw c.at.ensures at c.refuse-then-report-lt53.ensures)

pub returns-then-s-gt-MOST_TERMS : goal.returns-then-s-gt-MOST_TERMS
returns-then-s-gt-MOST_TERMS c =
    terms_does _ _ _ _ (c.in-Ok.ensures.0 _ refl) c.if-report-lt53.false (many_terms _ _ c.in-Ok.ensures.1 c.if-s-gt-MOST_TERMS.true)
    (rw c.at-then-s-gt-MOST_TERMS.ensures at c.refuse-then-s-gt-MOST_TERMS.ensures)

pub answer-requires : goal.answer-requires
answer-requires c =
    let six = c.in-Ok.ensures in
    let few = c.if-s-gt-MOST_TERMS.false in (
      asked_of _ _ six.1 _ (none_stands _ (six.0 _ refl) c.if-report-lt53.false (few_terms _ _ six.1 few)) few,
      c.if-report-lt53.false,
    )

pub returns-else-s-gt-MOST_TERMS : goal.returns-else-s-gt-MOST_TERMS
returns-else-s-gt-MOST_TERMS c =
    let six = c.in-Ok.ensures in
    answer_does _ _ six.1 _ _ _ (none_stands _ (six.0 _ refl) c.if-report-lt53.false (few_terms _ _ six.1 c.if-s-gt-MOST_TERMS.false)) c.answer.ensures

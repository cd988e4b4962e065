use Rattle.std.proofs.Common.{◌≤◌, ◌<◌, length, arith}
use Rattle.std.proofs.lemmas.Bool.Decides.{nat_tests}
use Rattle.shares.proofs.Turns.{takes_none, takes_bad, takes_query}
use Rattle.shares.proofs.take_turn.Goals as goal

pub returns-then-is_empty : goal.returns-then-is_empty
returns-then-is_empty c =
    let none : length c.args.head.now < 1 = grind (arith, nat_tests, c.if-is_empty.ensures, c.is_empty.ensures, c.if-is_empty.true) in
    takes_none _ _ _ _ _ none

pub returns-then-bad_length : goal.returns-then-bad_length
returns-then-bad_length c =
    let some : 1 ≤ length c.args.head.now = grind (arith, nat_tests, c.if-is_empty.ensures, c.is_empty.ensures, c.if-is_empty.false) in
    takes_bad _ _ _ _ some c.bad_length.ensures c.if-bad_length.true c.put_bytes.ensures

pub returns : goal.returns
returns c =
    let some : 1 ≤ length c.args.head.now = grind (arith, nat_tests, c.if-is_empty.ensures, c.is_empty.ensures, c.if-is_empty.false) in
    takes_query _ _ _ _ some c.bad_length.ensures c.if-bad_length.false c.put_query.ensures

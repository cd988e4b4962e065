-- Each number is its rule's, and any other is none's.
use Rattle.std.proofs.Common.{rules}
use Rattle.logic.specs.Search.{keep, or_else, first_of, find}
use Rattle.logic.specs.Rules.{rule_number, rules as all_rules, rule_of}
use Rattle.rules.proofs.Rule.numbered.Goals as goal

pub returns-in-1 : goal.returns-in-1
unfolding rule_of all_rules rule_number find first_of keep or_else
returns-in-1 c = search rules

pub returns-in-2 : goal.returns-in-2
unfolding rule_of all_rules rule_number find first_of keep or_else
returns-in-2 c = search rules

pub returns-in-3 : goal.returns-in-3
unfolding rule_of all_rules rule_number find first_of keep or_else
returns-in-3 c = search rules

pub returns-in-4 : goal.returns-in-4
unfolding rule_of all_rules rule_number find first_of keep or_else
returns-in-4 c = search rules

pub returns-in-5 : goal.returns-in-5
unfolding rule_of all_rules rule_number find first_of keep or_else
returns-in-5 c = search rules

pub returns-in-6 : goal.returns-in-6
unfolding rule_of all_rules rule_number find first_of keep or_else
returns-in-6 c = search rules

pub returns-in-7 : goal.returns-in-7
unfolding rule_of all_rules rule_number find first_of keep or_else
returns-in-7 c = search rules

pub returns-in-8 : goal.returns-in-8
unfolding rule_of all_rules rule_number find first_of keep or_else
returns-in-8 c = search rules

pub returns-in_default : goal.returns-in_default
unfolding rule_of all_rules rule_number find first_of keep or_else
returns-in_default c = search rules

-- The code's rules and moves as the definitions'.
use Rattle.std.specs.Prelude.{Option as CodeOption, ◌≤◌}
use Rattle.std.proofs.Math.Option.{Option}
use Rattle.rows.specs.Options.{option_of}
use Rattle.rules.specs.declared.Rule as rules
use Rattle.rules.specs.declared.Rule.TheVariants as rule
use Rattle.rules.specs.declared.Move as moves
use Rattle.logic.specs.Rules.{Rule, REFLEX, TRANS1, TRANS2, FUNC, CYCLE, SCC, TOTAL, SHARE, triple, Move, move}

abbrev pub kind_of : rules.Rule → Rule
kind_of rule.Reflex = REFLEX
kind_of rule.Trans1 = TRANS1
kind_of rule.Trans2 = TRANS2
kind_of rule.Func = FUNC
kind_of rule.Cycle = CYCLE
kind_of rule.Scc = SCC
kind_of rule.Total = TOTAL
kind_of rule.Share = SHARE

abbrev pub numbered_of : CodeOption rules.Rule → Option Rule
numbered_of = option_of kind_of

-- a rule applied by a link at a triple
abbrev pub move_as : moves.Move → Move
move_as m = move m.link.0 (kind_of m.rule) (triple m.x.0 m.y.0 m.z.0)

-- the numbers of its triple are at most 16
abbrev pub TripleInRange : moves.Move → Type 0
TripleInRange m = (m.x.0 ≤ 16) × (m.y.0 ≤ 16) × (m.z.0 ≤ 16)

abbrev pub choice_of : CodeOption moves.Move → Option Move
choice_of = option_of move_as

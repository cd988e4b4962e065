-- What a line of a derivation is at a path.
use Rattle.std.specs.Prelude.{cond}
use Rattle.std.proofs.Math.Option.{Option, none, some}
use Rattle.logic.specs.Query.{Query, term_count}
use Rattle.logic.specs.Facts.{Facts, Line, is_clash}
use Rattle.logic.specs.Rules.{Move, applies}
use Rattle.logic.specs.Walk.{is_clashed}
use Rattle.rules.specs.Answers.{move_as}
use Rattle.checking.specs.Fitting.{move_in}
use Rattle.checker.specs.declared.Reading.{Reading}
use Rattle.checker.specs.declared.Reading.TheVariants as reading

-- What a line is at a path: its end, a rule that applies there, or wrong.
pub data Read : Type 0 where
  ending : Read
  ruling : Move → Read
  unfit : Read

unfoldable pub read_rule : Query → Facts → Option Move → Read
read_rule q s none = unfit
read_rule q s (some m) = cond (applies (term_count q) s m) (ruling m) unfit

unfoldable pub read_line : Query → Facts → Line → Read
read_line q s l = cond (is_clash q s l) ending (cond (is_clashed q s) unfit (read_rule q s (move_in s.links l)))

unfoldable pub read_at : Query → Facts → Option Line → Read
read_at q s none = unfit
read_at q s (some l) = read_line q s l

abbrev pub reading_of : Reading → Read
reading_of reading.Ends = ending
reading_of (reading.Applies m) = ruling (move_as m)
reading_of reading.Wrong = unfit

use Rattle.std.proofs.Common.{ℕ, replicate}
use Rattle.std.proofs.lemmas.List.{length-replicate}
use Rattle.shares.proofs.Turns.{sat_lines, derived_lines, finishes_as}
use Rattle.shares.proofs.count_lines.Goals as goal

pub returns-in-Satisfiable : goal.returns-in-Satisfiable
returns-in-Satisfiable c = finishes_as (sat_lines _ _ _ c.requires.1 c.in-Satisfiable.is) c.finish.ensures

pub returns : goal.returns
returns c = finishes_as (derived_lines _ _ (replicate 64002 0) _ _ (length-replicate {A = ℕ} 64002 0) c.derivation.ensures) c.finish-2.ensures

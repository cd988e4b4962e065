-- What a word and the word less 1 have in common.
use Rattle.std.proofs.Common.{◌-◌, arith}
use Rattle.std.proofs.lemmas.Nat.{and_le_r}
use Rattle.rows.proofs.Finds.{select_rest}
use Rattle.rows.proofs.rest.Goals as goal

pub returns : goal.returns
returns c = (let l = and_le_r c.args.row (c.args.row - 1) in omega arith, λ a e. select_rest _ a (omega arith) c.ranges.row.fits e)

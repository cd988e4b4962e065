-- One byte is stored. Assumes nothing.
use lib.ListN.{length-set}
use Rattle.routine_state.proofs.Stores.{flag_set, byte_of_flag}
use Rattle.routine_state.proofs.set_flag.Goals as goal

pub returns : goal.returns
returns c = (simp length-set, flag_set c.args.state.now c.requires.2 _ _ _ _ c.requires.0 c.requires.1 (byte_of_flag _ _ c.from.ensures))

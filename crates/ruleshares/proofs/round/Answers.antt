-- Just the bytes kept and those read behind them are processed.
use Rattle.std.proofs.Common.{rules}
use Rattle.sharing.proofs.Loops.{round_read}
use Rattle.share_stream.proofs.Rounds.{kept_moved, kept_front}
use Rattle.ruleshares.proofs.round.Goals as goal

pub returns-clause-round : goal.returns-clause-round
returns-clause-round g c =
    let read = c.read_piece-held.ensures in
    let done = c.process-done in
    round_read read c.requires.0 (kept_moved (kept_front done.result.kept done.new.held _ (search rules) done.ensures.kept_in_bounds) done.ensures.processes)

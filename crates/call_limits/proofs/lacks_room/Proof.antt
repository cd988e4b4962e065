-- Assumes nothing.
use borrow.Author.Rules.{rules}
use mathlib.Core.Path.{ap}
use lib.Dec.{ltb}
use Rattle.call_limits.proofs.lacks_room.Statement.{statement}
use Rattle.call_limits.proofs.lacks_room.Tie as tie

pub lacks_room_spec : {M : Type 1} → statement M
lacks_room_spec =
    tie.close
    (tie.spec
    -- room-requires
    (λ c κs. search rules)
    -- returns
    (λ c. ap (ltb c.before.args.length) c.room.ensures))

-- The bytes from i on are left.
use Rattle.std.proofs.Common.{◌≡◌, drop}
use Rattle.routine_tokens.specs.Tokens.{fits}
use Rattle.routine_tokens.proofs.fits.Given as goal

abbrev pub invariant-loop-i : goal.invariant-loop-i
invariant-loop-i l = fits l.whole (drop l.i l.bytes) (drop l.i l.row) ≡ fits l.whole l.bytes l.row

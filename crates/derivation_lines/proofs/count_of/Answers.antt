-- Two bytes.
use Rattle.std.proofs.Common.{ℕ, ◌+◌, ◌*◌, rules, ap₂}
use Rattle.checking.specs.CheckCall.{count_in}
use Rattle.derivation_lines.proofs.count_of.Goals as goal

pub returns : goal.returns
unfolding count_in
returns c = (ap₂ (λ (h l : ℕ). 256 * h + l) c.byte_at-high.ensures c.byte_at-low.ensures, search rules)

-- One link, or three.
use Rattle.std.proofs.Common.{ℕ, Bool, cond, sym, ap, arith}
use Rattle.facts.specs.Path.{path_of}
use Rattle.facts.proofs.Facts.links.Goals as goal

pub returns-then-self : goal.returns-then-self
unfolding path_of
returns-then-self c = (sym (ap (λ (b : Bool). cond {A = ℕ} b 1 3) c.if-self.true), omega arith, omega arith)

pub returns-else-self : goal.returns-else-self
unfolding path_of
returns-else-self c = (sym (ap (λ (b : Bool). cond {A = ℕ} b 1 3) c.if-self.false), omega arith, omega arith)

-- A chain of parts through one writer. Assumes nothing.
use Rattle.std.proofs.Common.{ℕ, ◌≡◌, List, ap}
use Rattle.text.specs.Text.{Writes}
use Rattle.dot_writer.specs.declared.Writer.{Writer}
use Rattle.dot_writer.specs.Written.{written}

-- what a part writes, and that the writer still holds the same borrow
pub appended : {v : Writer} (w : Writer) (bytes : List ℕ) → v ≡ written w bytes → Writes w.out.now w.fill bytes v.out.now v.fill
appended w bytes e = record { leaves = ap (λ (u : Writer). u.out.now) e; ends = ap (λ (u : Writer). u.fill) e }

pub holds_on : {v : Writer} (w : Writer) (bytes : List ℕ) → v ≡ written w bytes → v.out.ghost_name ≡ w.out.ghost_name
holds_on w bytes e = ap (λ (u : Writer). u.out.ghost_name) e

-- One byte written. Assumes nothing.
use borrow.Author.Rules.{rules}
use mathlib.Core.Path.{refl}
use Rattle.lent.proofs.Writing.{appends_byte}
use Rattle.lent.proofs.put.Statement.{statement}
use Rattle.lent.proofs.put.Tie as tie

pub put_spec : {M : Type 1} → statement M
put_spec =
    tie.close
    (tie.spec
    -- slice-write-buffer
    (λ c. search rules)
    -- add-result
    (λ c. search rules)
    -- same-length
    (λ c. search rules)
    -- returns
    (λ c. (refl, appends_byte _ _ _ c.requires)))

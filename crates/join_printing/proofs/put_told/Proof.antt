-- Assumes nothing.
use borrow.Author.Rules.{rules}
use native.Mathlib.Omega.{arith}
use mathlib.Core.Path.{sym}
use lib.Seq.{length-take-le}
use Rattle.text.proofs.Writing.{writes_as}
use Rattle.join_printing.proofs.Texts.{told_joined, told_handed}
use Rattle.join_printing.proofs.put_told.Statement.{statement}
use Rattle.join_printing.proofs.put_told.Tie as tie

pub put_told_spec : {M : Type 1} → statement M
put_told_spec =
    tie.close
    (tie.spec
    -- begins-clash-requires
    (λ c κs. search rules)
    -- put-joined-requires
    (λ c κs. search rules)
    -- same-length
    (λ c. search rules)
    -- returns
    (λ c.
    writes_as (told_joined _ _ _ c.begins_clash.ensures c.if-not-begins_clash.true) c.put_joined.ensures)
    -- slice-aggregate-read-line
    (λ c. search rules)
    -- read-line-requires
    (λ c κs. search rules)
    -- array-share-prefix-line
    (λ c. omega (arith, c.read_line-made.ensures.0))
    -- slice-aggregate-put-handed
    (λ c. sym (length-take-le _ _ (omega (arith, c.read_line-made.ensures.0))))
    -- put-handed-requires
    (λ c κs. c.requires)
    -- same-length-2
    (λ c. search rules)
    -- returns-2
    (λ c.
    writes_as (told_handed _ _ _ c.begins_clash.ensures c.if-not-begins_clash.false c.read_line-made.ensures.1) c.put_handed.ensures))

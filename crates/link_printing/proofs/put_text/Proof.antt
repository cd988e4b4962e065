-- The bytes that are read. Assumes nothing.
use native.Mathlib.Omega.{arith}
use borrow.Author.Rules.{rules}
use mathlib.Core.Path.{sym}
use lib.Seq.{length-take-le}
use Rattle.text.proofs.Writing.{writes_as}
use Rattle.link_printing.proofs.Texts.{text_cut, text_whole}
use Rattle.link_printing.proofs.put_text.Statement.{statement}
use Rattle.link_printing.proofs.put_text.Tie as tie

pub put_text_spec : {M : Type 1} → statement M
put_text_spec =
    tie.close
    (tie.spec
    -- slice-aggregate-put-linked
    (λ c. sym (length-take-le 1024 c.args.input.now (omega arith)))
    -- put-linked-requires
    (λ c κs. search rules)
    -- same-length
    (λ c. search rules)
    -- returns
    (λ c. writes_as (text_cut _) c.put_linked.ensures)
    -- put-linked-requires-2
    (λ c κs. search rules)
    -- same-length-2
    (λ c. search rules)
    -- returns-2
    (λ c. writes_as (text_whole _ c.if-input-gt1024.false) c.put_linked-2.ensures))

-- What the call answers, as text. Assumes nothing.
use Prim.Native.Nat.{ℕ}
use borrow.Author.Rules.{rules}
use lib.ListN.{length-replicate}
use Rattle.text.proofs.Writing.{writes_as}
use Rattle.link_printing.proofs.Texts.{linked_text}
use Rattle.link_printing.proofs.put_linked.Statement.{statement}
use Rattle.link_printing.proofs.put_linked.Tie as tie

pub put_linked_spec : {M : Type 1} → statement M
put_linked_spec =
    tie.close
    (tie.spec
    -- slice-aggregate-rewrite
    (λ c. search rules)
    -- rewrite-requires
    (λ c κs. search rules)
    -- slice-aggregate-put-answer
    (λ c. search rules)
    -- put-answer-requires
    (λ c κs. search rules)
    -- same-length
    (λ c. search rules)
    -- returns
    (λ c. writes_as (linked_text c.args.query.now _
    c.rewrite-answer.ensures (length-replicate {A = ℕ} 637 0)) c.put_answer.ensures))

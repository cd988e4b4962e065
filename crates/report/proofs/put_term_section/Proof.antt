-- The count, and then the bytes. Assumes nothing.
use native.Mathlib.Omega.{arith}
use borrow.Author.Rules.{rules}
use Rattle.lent.proofs.Writing.{appends_then}
use Rattle.report.proofs.put_term_section.Statement.{statement}
use Rattle.report.proofs.put_term_section.Tie as tie

pub put_term_section_spec : {M : Type 1} → statement M
put_term_section_spec =
    tie.close
    (tie.spec
    -- cast-put
    (λ c. search rules)
    -- put-requires
    (λ c κs. search rules)
    -- put-terms-requires
    (λ c κs. search rules)
    -- same-length
    (λ c. search rules)
    -- returns
    (λ c.
    let first = c.put-next in
    let rest = c.put_terms in (
      omega (arith, first.ensures.0, rest.ensures.0),
      appends_then _ first.new.buffer rest.new.buffer _ _ _ _ first.auto.buffer first.ensures.0 first.ensures.1 rest.ensures.1,
    )))

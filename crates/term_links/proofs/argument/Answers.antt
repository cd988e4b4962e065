-- 255 names nil, which is f of no term, and 0 a variable.
use Rattle.std.proofs.Common.{sym}
use borrow.Author.Tests.{eq-eqb, ne_eqb}
use Rattle.theory.proofs.Basics.Compare.{cond-false}
use Rattle.term_links.specs.Argument.{argument_by}
use Rattle.std.proofs.Common.{arith}
use Rattle.term_links.proofs.argument.Goals as goal
use Rattle.term_links.proofs.argument.Goals.{then-byte-eq0-via-then-byte-eq0, then-byte-eq0-via-else-byte-eq0+then-byte-eq-NIL}

pub returns-then-byte-eq0 : goal.returns-then-byte-eq0
unfolding argument_by
returns-then-byte-eq0 c =
    elim c.then-byte-eq0.branch [
      | then-byte-eq0-via-then-byte-eq0 w ↦ rw w.if-byte-eq0.true
      | then-byte-eq0-via-else-byte-eq0+then-byte-eq-NIL w ↦ rw (eq-eqb _ _ w.if-byte-eq-NIL.true)
    ]

pub returns : goal.returns
unfolding argument_by
returns c = (omega arith, sym (cond-false _ _ (ne_eqb _ _ c.if-byte-eq-NIL.false)))

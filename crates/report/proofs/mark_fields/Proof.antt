-- The marks so far and the literals left make the whole. Assumes nothing.
use Prim.Native.Nat.{◌-◌, ◌≤◌}
use native.Mathlib.Omega.{arith}
use borrow.Author.Rules.{rules}
use mathlib.Core.Path.{◌≡◌, sym, ap, ◌∙◌}
use lib.ListN.{length, length-set}
use Rattle.facts.specs.Path.{rep_of}
use Rattle.query.specs.LaysOut.{literal_in}
use Rattle.query.proofs.Literals.{listed}
use Rattle.report.specs.Bytes.{literals_at}
use Rattle.report.proofs.Held.{FieldMarks, fields_none, fields_skip, fields_here, fields_all}
use Rattle.report.proofs.mark_fields.Statement.{statement}
use Rattle.report.proofs.mark_fields.Tie as tie

abbrev invariant-loop-i : tie.invariant-loop-i
invariant-loop-i query at count rep marks₀ i₀ marks i = (length marks ≡ 17) × FieldMarks (rep_of rep) (literal_in query at) count i marks

abbrev decreases-loop-i : tie.decreases-loop-i
decreases-loop-i query at count rep marks₀ i₀ marks i = count - i

-- the term that stands for a literal's
stands_is : (c : tie.After-read_rep-stands invariant-loop-i decreases-loop-i) →
    c.read_rep-stands.result.0 ≡ rep_of c.args.rep.now
    (literal_in c.args.query.now c.args.at c.loop-i.i).right
stands_is c = c.read_rep-stands.ensures ∙ ap (rep_of _) c.right.ensures

stands_within : (c : tie.After-read_rep-stands invariant-loop-i decreases-loop-i) → c.read_rep-stands.result.0 ≤ 16
stands_within c =
    omega (arith, stands_is c, (c.requires.1 c.loop-i.i (omega arith)).2)

returns : tie.Need-returns invariant-loop-i decreases-loop-i
unfolding literals_at listed
returns c = fields_all _ _ _ _ _ (omega arith) c.loop-i.invariant.1

pub mark_fields_spec : {M : Type 1} → statement M
mark_fields_spec =
    tie.close
    (tie.spec
    invariant-loop-i
    decreases-loop-i
    -- loop-holds
    (λ c. (search rules, fields_none _ _ _))
    -- sign-requires
    (λ c κs. omega arith)
    -- add-i
    (λ c. omega arith)
    -- loop-less
    (λ c. omega arith)
    -- loop-again
    (λ c.
    (c.loop-i.invariant.0, fields_skip _ _ _ _ _ (omega arith) (sym c.sign.ensures ∙ c.if-not-sign.true) c.loop-i.invariant.1))
    -- field-requires
    (λ c κs. omega arith)
    -- right-requires
    (λ c κs. omega arith)
    -- read-rep-requires
    (λ c κs. search rules)
    -- mul-marks
    (λ c. omega (arith, stands_within c))
    -- array-read-marks
    (λ c. omega (arith, stands_within c))
    -- only-requires
    (λ c κs.
    let r = c.requires.1 c.loop-i.i (omega arith) in omega (arith, c.field-field.ensures))
    -- mul-marks-2
    (λ c. omega (arith, stands_within c.before))
    -- array-write-marks
    (λ c. omega (arith, stands_within c.before))
    -- add-i-2
    (λ c. omega arith)
    -- loop-less-2
    (λ c. omega arith)
    -- loop-again-2
    (λ c.
    let l = c.loop-i in let r = c.requires.1 l.i (omega arith) in (
      simp length-set l.invariant.0,
      fields_here _ _ _ l.i l.marks l.invariant.0 (omega arith) (sym c.sign.ensures ∙ c.if-not-sign.false) _ _ _
          (stands_within c.before) (omega (arith, c.field-field.ensures)) c.only.ensures (stands_is c.before)
          c.field-field.ensures l.invariant.1,
    ))
    returns)

-- One text for each answer.
use Rattle.std.proofs.Common.{ℕ, arith}
use Rattle.std.proofs.lemmas.List.{length-replicate}
use Rattle.text.proofs.Writing.{writes_then, writes_as}
use Rattle.between_printing.proofs.Told.{heap_text, none-text, refused_text_lem, heap_formed}
use Rattle.between_printing.proofs.put_answer.Goals as goal

pub put_report-requires : goal.put_report-requires
put_report-requires c = (
  omega (arith, c.put_bytes-to.ensures.ends),
  omega arith,
  omega arith,
  heap_formed _ _ _ _ c.between.ensures (length-replicate {A = ℕ} 53 0) (rw c.in-Ok-Heap.field-0-is at c.in-Ok-Heap.is),
)

pub returns-in-Ok-Heap : goal.returns-in-Ok-Heap
returns-in-Ok-Heap c = (
  writes_as (heap_text _ _ _ _ c.between.ensures (length-replicate {A = ℕ} 53 0) (rw c.in-Ok-Heap.field-0-is at c.in-Ok-Heap.is))
      (writes_then c.put_bytes-to.ensures c.put_report.ensures.0),
  omega (arith, c.put_bytes-to.ensures.ends, c.put_report.ensures.1),
)

pub returns-in-Ok-Nothing : goal.returns-in-Ok-Nothing
returns-in-Ok-Nothing c = (
  writes_as (none-text _ _ _ _ c.between.ensures (length-replicate {A = ℕ} 53 0) (rw c.in-Ok-Nothing.field-0-is at c.in-Ok-Nothing.is)) c.put_bytes.ensures,
  omega (arith, c.put_bytes.ensures.ends),
)

pub returns-in-Err : goal.returns-in-Err
returns-in-Err c = (
  writes_as (refused_text_lem _ _ _ _ c.between.ensures (length-replicate {A = ℕ} 53 0) _ c.in-Err.is) (rw (← c.number.ensures) c.put_refusal.ensures.0),
  omega (arith, c.put_refusal.ensures.1),
)

-- Mark, answer and count, with blanks between.
use Rattle.std.proofs.Common.{ℕ, replicate, arith}
use Rattle.std.proofs.lemmas.List.{length-replicate}
use Rattle.text.proofs.Writing.{writes_as, writes_then}
use Rattle.shares.proofs.Turns.{answered, line_words}
use Rattle.shares.proofs.put_query.Goals as goal

pub count_lines-requires : goal.count_lines-requires
count_lines-requires c = (
  omega (arith, c.put_hex_word-marked.ensures.1, c.put_byte-answered.ensures.ends, c.put_answer-worded.ensures.1, c.put_byte-counted.ensures.ends),
  answered _ _ (replicate 53 0) _ _ (length-replicate {A = ℕ} 53 0) c.verdict-answer.ensures,
)

pub returns : goal.returns
returns c =
    record {
      wrote = writes_as (line_words _ _ _ _ c.mark.ensures (answered _ _ (replicate 53 0) _ _ (length-replicate {A = ℕ} 53 0) c.verdict-answer.ensures))
          (writes_then c.put_hex_word-marked.ensures.0
          (writes_then c.put_byte-answered.ensures
          (writes_then c.put_answer-worded.ensures.0 (writes_then c.put_byte-counted.ensures c.count_lines.ensures.wrote))));
      short = omega (
        arith,
        c.put_hex_word-marked.ensures.1,
        c.put_byte-answered.ensures.ends,
        c.put_answer-worded.ensures.1,
        c.put_byte-counted.ensures.ends,
        c.count_lines.ensures.short,
      );
      leaves = c.count_lines.ensures.leaves;
    }

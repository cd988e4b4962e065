use Rattle.share_stream.proofs.Rounds.{takes_first, passes_first}
use Rattle.share_stream.proofs.first_turn.Goals as goal

pub returns-in-Continue : goal.returns-in-Continue
returns-in-Continue c =
    record {
      takes = takes_first _ _ c.min-behind.ensures _ _ c.min-end.ensures c.query_length-wanted.ensures.0 _ _ c.in-Continue.ensures;
      passes = passes_first _ _ c.min-behind.ensures _ _ c.min-end.ensures c.query_length-wanted.ensures.0;
    }

pub returns-in-Break : goal.returns-in-Break
returns-in-Break c =
    record {
      takes = takes_first _ _ c.min-behind.ensures _ _ c.min-end.ensures c.query_length-wanted.ensures.0 _ _ c.in-Break.ensures;
      passes = tt;
    }

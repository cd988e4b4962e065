-- What the start of a query hands back.
use Rattle.logic.specs.Query.{Query}
use Rattle.logic.specs.Facts.{Joined, start_joins, start}

-- the start of a query, and the pairs joined to make it
unfoldable pub started : Query → Joined
started q = record { pairs = (start_joins q).pairs; facts = start q }

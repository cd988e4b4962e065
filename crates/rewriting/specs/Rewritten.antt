-- The query that is written for an old query (02, R-13).
use Rattle.std.specs.Prelude.{ℕ, suc, List, [], ◌∷◌, ◌++◌, map}
use Rattle.logic.specs.Query.{Literal, Query, term_count}
use Rattle.rewriting.specs.OldQuery.{OldQuery}

-- "boolean j becomes its data field j": that of term t
unfoldable pub as_field : ℕ → Literal → Literal
as_field t l = record { plain = l.plain; link = l.link; left = l.left; right = t }

-- "one fresh variable is added last and boolean j becomes its data field j, appended to section 4"
unfoldable pub with_fresh : Query → List Literal → Query
with_fresh q booleans =
    record {
      links = q.links;
      entries = record { terms = q.entries.terms ++ (0 ∷ []); links = q.entries.links };
      equalities = q.equalities;
      reachability = q.reachability;
      fields = q.fields ++ map (as_field (suc (term_count q))) booleans;
    }

-- "if they hold boolean literals, ..; others are copied"
unfoldable pub rewritten : Query → List Literal → Query
rewritten q [] = q
rewritten q (b ∷ booleans) = with_fresh q (b ∷ booleans)

unfoldable pub rewrite : OldQuery → Query
rewrite o = rewritten o.base o.booleans

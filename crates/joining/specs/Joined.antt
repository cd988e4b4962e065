-- The query that is written for two queries and a pair list (02, R-12).
use Rattle.std.specs.Prelude.{ℕ, ◌+◌, true, cond, List, ◌++◌, map, eqb}
use Rattle.logic.specs.Search.{◌or◌}
use Rattle.logic.specs.Query.{Literal, Query, one_link, literal, term_count}
use Rattle.joining.specs.Pairs.{Pair}

-- "term numbers raised (0 and 255 in section 1 are kept)": by the number of the first's terms, n
unfoldable pub raised_entry : ℕ → ℕ → ℕ
raised_entry n e = cond (eqb e 0 or eqb e 255) e (n + e)

-- a literal whose numbers are raised, the left one by i and the right one by j
unfoldable pub raised : ℕ → ℕ → Literal → Literal
raised i j l = record { plain = l.plain; link = l.link; left = i + l.left; right = j + l.right }

-- "an equality per pair", plain
unfoldable pub pair_literal : ℕ → Pair → Literal
pair_literal n p = literal true p.first (n + p.second)

-- "in each section first's entries, then second's with term numbers raised .., then an equality per pair". A field's number
-- is no term number.
unfoldable pub joined : Query → Query → List Pair → Query
joined a b ps =
    let n : ℕ = term_count a in
    record {
      links = 1;
      entries = one_link (a.entries.terms ++ map (raised_entry n) b.entries.terms);
      equalities = a.equalities ++ (map (raised n n) b.equalities ++ map (pair_literal n) ps);
      reachability = a.reachability ++ map (raised n n) b.reachability;
      fields = a.fields ++ map (raised 0 n) b.fields;
    }

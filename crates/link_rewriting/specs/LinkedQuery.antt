-- The query with three links that is written for one in the old layout (02, R-11): "its rewriting with link 1".
use Rattle.std.specs.Prelude.{ℕ, cond, List, [], ◌∷◌, ◌++◌, map, length, eqb}
use Rattle.logic.specs.Search.{◌or◌, flat_map}
use Rattle.logic.specs.Query.{Literal, Query, term_count}
use Rattle.encoding.specs.QueryBytes.{sign_byte, section_bytes}

-- "a term entry is link and term (0 0 a variable, 0 255 nil)": link 1 stands before every other byte
unfoldable pub link_before : ℕ → ℕ
link_before b = cond (eqb b 0 or eqb b 255) 0 1

-- What is written says this. A literal of the old layout is about link 1 already.
unfoldable pub with_link_one : Query → Query
with_link_one q =
    record {
      links = 3;
      entries = record { terms = q.entries.terms; links = map link_before q.entries.terms };
      equalities = q.equalities;
      reachability = q.reachability;
      fields = q.fields;
    }

unfoldable pub entry_bytes : ℕ → List ℕ
entry_bytes b = link_before b ∷ b ∷ []

-- "a reachability literal is sign, link, from, to"
unfoldable pub reach_bytes : Literal → List ℕ
reach_bytes l = sign_byte l.plain ∷ 1 ∷ l.left ∷ l.right ∷ []

-- the bytes that are written for a query in the old layout; the sections of equalities and of data stay as they are
unfoldable pub encode_links : Query → List ℕ
encode_links q =
    (term_count q ∷ flat_map entry_bytes q.entries.terms)
    ++ (section_bytes q.equalities ++ ((length q.reachability ∷ flat_map reach_bytes q.reachability) ++ (section_bytes q.fields ++ (0 ∷ []))))

-- Queries as they stood with booleans: "Booleans, 0 to 60: sign, number 1 to 8." (01, "Query bytes")
use Rattle.std.specs.Prelude.{ℕ, Bool, List, [], ◌∷◌, eqb}
use Rattle.logic.specs.Query.{Literal, Query, literal, Form, five_sections, Layout, faulty, parts, layout_by, section, query_of}
use Rattle.encoding.specs.WritingCall.{accepts_in}

-- a query and its booleans; a boolean literal has its number on the left, and 0 on the right
pub record OldQuery : Type 0 where
  pub base : Query
  pub booleans : List Literal

-- five sections, where 60 booleans passed and more were refused 3, as in every other section
unfoldable pub old_sections : Form
old_sections = five_sections 60 3

-- "A query is accepted if it passes checks 2 to 8": these, since "the rewriting keeps 2 to 8 as they stood" (02, R-13)
abbrev pub accepts_old : List ℕ → Bool
accepts_old = accepts_in old_sections

-- the literals of a section of two bytes an entry
unfoldable pub flags : List ℕ → List Literal
flags [] = []
flags (s ∷ []) = []
flags (s ∷ a ∷ rest) = literal (eqb s 1) a 0 ∷ flags rest

-- the bytes of section 5 behind its count
unfoldable pub boolean_part : Layout → List ℕ
boolean_part (faulty k place) = []
boolean_part (parts ps) = section ps 4

-- what old query bytes say; it is read only of bytes that are laid out as they should be
unfoldable pub decode_old : List ℕ → OldQuery
decode_old bytes =
    let found : Layout = layout_by old_sections bytes in
    record { base = query_of found; booleans = flags (boolean_part found) }

-- The bytes of a query with between literals, and what is refused of them (02, R-10).
use Rattle.std.specs.Prelude.{ℕ, List, [], ◌∷◌, ◌++◌, eqb, ltb}
use Rattle.logic.specs.Search.{keep}
use Rattle.logic.specs.Query.{Section, Form, sign_role, term_role, sections, Layout, faulty, parts, first_byte, layout_by, section, query_of}
use Rattle.logic.specs.Calls.{Check, form_checks, room_check}
use Rattle.between.specs.Meaning.{BetweenLiteral, BetweenQuery}

-- "a sixth section of up to 60 such literals (sign, x, y, z)"
unfoldable pub between_section : ℕ → Section
between_section n = record { limit = 60; excess = 3; width = 4; roles = λ i. sign_role ∷ term_role n ∷ term_role n ∷ term_role n ∷ [] }

-- the sections of 01, and one section more
unfoldable pub six_sections : Form
six_sections n = sections n ++ (between_section n ∷ [])

unfoldable pub six_layout : List ℕ → Layout
six_layout bytes = layout_by six_sections bytes

-- the literals of a section of four bytes an entry
unfoldable pub triples : List ℕ → List BetweenLiteral
triples [] = []
triples (s ∷ []) = []
triples (s ∷ x ∷ []) = []
triples (s ∷ x ∷ y ∷ []) = []
triples (s ∷ x ∷ y ∷ z ∷ rest) = record { plain = eqb s 1; from = x; middle = y; to = z } ∷ triples rest

unfoldable pub betweens_of : Layout → List BetweenLiteral
betweens_of (faulty k place) = []
betweens_of (parts ps) = triples (section ps 5)

-- what the bytes say; it is read only of bytes that are laid out as they should be
unfoldable pub decode_six : List ℕ → BetweenQuery
decode_six bytes = record { base = query_of (six_layout bytes); betweens = betweens_of (six_layout bytes) }

-- "Checks: 2 to 9 over six sections (7 in the sixth too), then 21 more than five terms."
unfoldable pub six_checks : List Check
six_checks = form_checks six_sections

unfoldable pub five_terms_check : Check
five_terms_check = record { number = 21; place = λ i. keep (ltb 5 (first_byte i.query)) 0 }

unfoldable pub between_checks : List Check
between_checks = six_checks ++ (room_check ∷ five_terms_check ∷ [])

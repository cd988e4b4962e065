-- Queries with three links (02, R-11): "Calls of their own take queries with links 1 to 3".
use Rattle.std.specs.Prelude.{ℕ, ◌+◌, ◌≡◌, Bool, not, cond, List, [], ◌∷◌, ◌++◌, map, length, eqb, ltb, leb}
use Rattle.std.proofs.Math.Option.{Option, none}
use Rattle.logic.specs.Search.{◌and◌, ◌or◌, keep, or_else}
use Rattle.logic.specs.Query.{Literal, Query, Form, Layout, faulty, parts, entry_role, sign_role, term_role, number_role, count_role, boolean_section, layout_by, literals, section}
use Rattle.logic.specs.Calls.{Check, CallForm, layout_check, byte_check, verdict_checks_of, derivation_checks_of}
use Rattle.logic.specs.Demands.{numbers}

-- "a term entry is link and term .., a reachability literal is sign, link, from, to". What a link byte is held to, 22, hangs on the byte behind
-- it: as a single byte it is held to nothing.
unfoldable pub link_sections : Form
link_sections n =
    record { limit = 16; excess = 3; width = 2; roles = λ i. count_role ∷ entry_role i ∷ [] }
    ∷ record { limit = 60; excess = 3; width = 3; roles = λ i. sign_role ∷ term_role n ∷ term_role n ∷ [] }
    ∷ record { limit = 60; excess = 3; width = 4; roles = λ i. sign_role ∷ count_role ∷ term_role n ∷ term_role n ∷ [] }
    ∷ record { limit = 60; excess = 3; width = 3; roles = λ i. sign_role ∷ number_role ∷ term_role n ∷ [] }
    ∷ boolean_section 0 26
    ∷ []

-- "links 1 to 3"
unfoldable pub is_link : ℕ → Bool
is_link l = ltb 0 l and leb l 3

-- "a term's link not 0 before 0 or 255, or not 1 to 3 before another byte": the link l may stand before the byte b
unfoldable pub may_precede : ℕ → ℕ → Bool
may_precede l b = cond (eqb b 0 or eqb b 255) (eqb l 0) (is_link l)

-- the lowest link byte of section 1 that may not stand there, the section beginning at this place; and of section 3
unfoldable pub entry_link_fault : ℕ → List ℕ → Option ℕ
entry_link_fault place [] = none
entry_link_fault place (l ∷ []) = none
entry_link_fault place (l ∷ b ∷ rest) =
    let behind : Option ℕ = entry_link_fault (place + 2) rest in
    or_else (keep (not (may_precede l b)) place) behind

unfoldable pub reach_link_fault : ℕ → List ℕ → Option ℕ
reach_link_fault place [] = none
reach_link_fault place (s ∷ []) = none
reach_link_fault place (s ∷ l ∷ []) = none
reach_link_fault place (s ∷ l ∷ a ∷ []) = none
reach_link_fault place (s ∷ l ∷ a ∷ b ∷ rest) =
    let behind : Option ℕ = reach_link_fault (place + 4) rest in
    or_else (keep (not (is_link l)) (place + 1)) behind

-- "22 (the lowest such link byte)": section 1 stands behind its count, and section 3 behind two sections and three counts
unfoldable pub link_fault : Layout → Option ℕ
link_fault (faulty k place) = none
link_fault (parts ps) =
    or_else (entry_link_fault 1 (section ps 0)) (reach_link_fault (length (section ps 0) + length (section ps 1) + 3) (section ps 2))

unfoldable pub link_check : Check
link_check = record { number = 22; place = λ i. link_fault (layout_by link_sections i.query) }

-- "22 .. stands between 4 and 5"
unfoldable pub link_checks : List Check
link_checks =
    map (layout_check link_sections) (2 ∷ 3 ∷ 26 ∷ 4 ∷ []) ++ (link_check ∷ map (byte_check link_sections) (5 ∷ 6 ∷ 7 ∷ 8 ∷ []))

-- of each pair of bytes the first, and the second
unfoldable pub firsts : List ℕ → List ℕ
firsts [] = []
firsts (a ∷ []) = []
firsts (a ∷ b ∷ rest) = a ∷ firsts rest

unfoldable pub seconds : List ℕ → List ℕ
seconds [] = []
seconds (a ∷ []) = []
seconds (a ∷ b ∷ rest) = b ∷ seconds rest

-- the reachability literals of four bytes each
unfoldable pub linked_literals : List ℕ → List Literal
linked_literals [] = []
linked_literals (s ∷ []) = []
linked_literals (s ∷ l ∷ []) = []
linked_literals (s ∷ l ∷ a ∷ []) = []
linked_literals (s ∷ l ∷ a ∷ b ∷ rest) = record { plain = eqb s 1; link = l; left = a; right = b } ∷ linked_literals rest

unfoldable pub linked_query : Layout → Query
linked_query (faulty k place) = record { links = 3; entries = record { terms = []; links = [] }; equalities = []; reachability = []; fields = [] }
linked_query (parts ps) =
    record {
      links = 3;
      entries = record { terms = seconds (section ps 0); links = firsts (section ps 0) };
      equalities = literals (section ps 1);
      reachability = linked_literals (section ps 2);
      fields = literals (section ps 3);
    }

unfoldable pub decode_links : List ℕ → Query
decode_links bytes = linked_query (layout_by link_sections bytes)

-- "9 reads 85": 3 times 16 successors, 16 nodes, 16 data bytes, four counts and a byte. The longest query has 33, 181, 241, 181 bytes and one.
abbrev pub three_link_form : CallForm
three_link_form = record { links = 3; checks = link_checks; decode = decode_links; room = 85; longest = 637 }

-- the numbers of the checks, in their order
pub record LinkChecksInOrder : Type 0 where
  pub verdict_checks : numbers (verdict_checks_of three_link_form) ≡ 1 ∷ 2 ∷ 3 ∷ 26 ∷ 4 ∷ 22 ∷ 5 ∷ 6 ∷ 7 ∷ 8 ∷ 9 ∷ []
  pub derivation_checks : numbers (derivation_checks_of three_link_form) ≡ 1 ∷ 2 ∷ 3 ∷ 26 ∷ 4 ∷ 22 ∷ 5 ∷ 6 ∷ 7 ∷ 8 ∷ []

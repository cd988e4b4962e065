-- The query: its literals, its bytes, and what is refused of them (01, "Query bytes" and "Refusals, in checking order").
use Rattle.std.specs.Prelude.{ℕ, zero, suc, ◌+◌, ◌-◌, ◌*◌, Bool, true, not, cond, List, [], ◌∷◌, ◌++◌, length, get_or, take, drop, eqb, ltb, leb}
use Rattle.std.proofs.Math.Option.{Option, none}
use Rattle.logic.specs.Search.{◌and◌, ◌or◌, from, all, any, or_else, flat_map, keep}

-- "Sign 1 is plain, 0 negated." An equality or a reachability literal has two terms, a data literal a field and a term. Only in a
-- reachability literal does the link count (02, R-11); in the form of 01 it is 1.
pub record Literal : Type 0 where
  pub plain : Bool
  pub link : ℕ
  pub left : ℕ
  pub right : ℕ

-- Section 1. "Terms are numbered from 1." The entry of a term is 0 for a variable, j for f of term j, and 255 for nil (02, R-3), and beside
-- it stands the link that it follows (02, R-11). In the form of 01 every link is 1, and none is listed.
pub record Entries : Type 0 where
  pub terms : List ℕ
  pub links : List ℕ

-- Links are numbered from 1: a query says how many there are.
pub record Query : Type 0 where
  pub links : ℕ
  pub entries : Entries
  pub equalities : List Literal
  pub reachability : List Literal
  pub fields : List Literal

-- how many terms the query has, and the entry of term t
unfoldable pub term_count : Query → ℕ
term_count q = length q.entries.terms

unfoldable pub entry_of : Entries → ℕ → ℕ
entry_of entries zero = 0
entry_of entries (suc i) = get_or entries.terms i 0

-- the link that term t follows, where it is f of another
unfoldable pub link_of : Entries → ℕ → ℕ
link_of entries t = get_or entries.links (t - 1) 1

-- "Term byte 255 now names nil" (02, R-3)
unfoldable pub names_nil : Entries → ℕ → Bool
names_nil entries t = eqb (entry_of entries t) 255

-- the term that term t is f of, or 0 where t is a variable or names nil
unfoldable pub argument_of : Entries → ℕ → ℕ
argument_of entries t = cond (names_nil entries t) 0 (entry_of entries t)

-- the entries and a literal of the form of 01
abbrev pub one_link : List ℕ → Entries
one_link bytes = record { terms = bytes; links = [] }

abbrev pub literal : Bool → ℕ → ℕ → Literal
literal plain left right = record { plain = plain; link = 1; left = left; right = right }

-- What a byte of the query is held to: the refusal that it meets where it is not allowed. A count is held to nothing here.
pub record Role : Type 0 where
  pub refusal : ℕ
  pub allows : ℕ → Bool

-- "Five sections in this order, each after a one-byte count": the most entries, the refusal where there are more, the bytes of one, and
-- their roles in entry i.
pub record Section : Type 0 where
  pub limit : ℕ
  pub excess : ℕ
  pub width : ℕ
  pub roles : ℕ → List Role

-- 5: "A term byte is not below its own term's number." "5 lets 255 through" (02, R-3).
unfoldable pub entry_role : ℕ → Role
entry_role i = record { refusal = 5; allows = λ b. ltb b i or eqb b 255 }

-- 6: "A sign is neither 0 nor 1."
unfoldable pub sign_role : Role
sign_role = record { refusal = 6; allows = λ b. ltb b 2 }

-- 7: "A term number in sections 2 to 4 is 0 or above the term count", n.
unfoldable pub term_role : ℕ → Role
term_role n = record { refusal = 7; allows = λ b. ltb 0 b and leb b n }

-- 8: "A field or boolean number is not 1 to 8."
unfoldable pub number_role : Role
number_role = record { refusal = 8; allows = λ b. ltb 0 b and leb b 8 }

unfoldable pub count_role : Role
count_role = record { refusal = 0; allows = λ b. true }

-- sections 1 to 4 of a query of n terms: terms, equalities, reachability, data
unfoldable pub four_sections : ℕ → List Section
four_sections n =
    record { limit = 16; excess = 3; width = 1; roles = λ i. entry_role i ∷ [] }
    ∷ record { limit = 60; excess = 3; width = 3; roles = λ i. sign_role ∷ term_role n ∷ term_role n ∷ [] }
    ∷ record { limit = 60; excess = 3; width = 3; roles = λ i. sign_role ∷ term_role n ∷ term_role n ∷ [] }
    ∷ record { limit = 60; excess = 3; width = 3; roles = λ i. sign_role ∷ number_role ∷ term_role n ∷ [] }
    ∷ []

-- A form of query bytes: the sections of a query of n terms.
abbrev pub Form : Type 0
Form = ℕ → List Section

-- section 5, the booleans, and all five, where so many booleans pass and more meet this refusal
unfoldable pub boolean_section : ℕ → ℕ → Section
boolean_section most excess = record { limit = most; excess = excess; width = 2; roles = λ i. sign_role ∷ number_role ∷ [] }

unfoldable pub five_sections : ℕ → ℕ → Form
five_sections most excess n = four_sections n ++ (boolean_section most excess ∷ [])

-- "Its count must now be 0." "26 a boolean count above 0 (that count's place), instead of 3" (02, R-13)
unfoldable pub sections : Form
sections = five_sections 0 26

-- What the walk from the front meets: a refusal 2, 3, 26 or 4 with its place, or the bytes of each section.
pub data Layout : Type 0 where
  faulty : ℕ → ℕ → Layout
  parts : List (List ℕ) → Layout

unfoldable pub with_part : List ℕ → Layout → Layout
with_part p (faulty k place) = faulty k place
with_part p (parts ps) = parts (p ∷ ps)

-- "2. The query ends before a count or inside a section (place: its length). 3. A count is above its section's limit (place: that
-- count ..). 4. Bytes follow section 5 (place: the first of them)." The bytes from a place on, laid out by the sections that are left.
unfoldable pub layout : List Section → ℕ → List ℕ → Layout
layout [] place [] = parts []
layout [] place (b ∷ bytes) = faulty 4 place
layout (s ∷ ss) place [] = faulty 2 place
layout (s ∷ ss) place (c ∷ bytes) =
    let size : ℕ = c * s.width in
    let rest : Layout = with_part (take size bytes) (layout ss (suc place + size) (drop size bytes)) in
    cond (leb c s.limit) (cond (leb size (length bytes)) rest (faulty 2 (suc place + length bytes))) (faulty s.excess place)

-- the roles of the bytes of a query that is laid out by these sections
unfoldable pub roles_of : List Section → List ℕ → List Role
roles_of [] bytes = []
roles_of (s ∷ ss) [] = []
roles_of (s ∷ ss) (c ∷ bytes) =
    count_role ∷ (flat_map s.roles (from c 1) ++ roles_of ss (drop (c * s.width) bytes))

-- the term count of query bytes: the first of them
unfoldable pub first_byte : List ℕ → ℕ
first_byte bytes = get_or bytes 0 0

unfoldable pub layout_by : Form → List ℕ → Layout
layout_by form bytes = layout (form (first_byte bytes)) 0 bytes

unfoldable pub layout_of : List ℕ → Layout
layout_of bytes = layout_by sections bytes

-- refusal k of 2, 3, 26 and 4, where the walk from the front meets it
unfoldable pub fault_in : ℕ → Layout → Option ℕ
fault_in k (faulty j place) = keep (eqb j k) place
fault_in k (parts ps) = none

unfoldable pub layout_fault : Form → ℕ → List ℕ → Option ℕ
layout_fault form k bytes = fault_in k (layout_by form bytes)

-- the lowest place from `place` on whose byte meets refusal k of 5 to 8
unfoldable pub role_fault : ℕ → ℕ → List Role → List ℕ → Option ℕ
role_fault k place [] bytes = none
role_fault k place (r ∷ roles) [] = none
role_fault k place (r ∷ roles) (b ∷ bytes) =
    let rest : Option ℕ = role_fault k (suc place) roles bytes in
    or_else (keep (eqb r.refusal k and not (r.allows b)) place) rest

-- "For 5 to 8 the whole query is searched for one fault before the next, and the place is the lowest such byte."
unfoldable pub byte_fault : Form → ℕ → List ℕ → Option ℕ
byte_fault form k bytes = role_fault k 0 (roles_of (form (first_byte bytes)) bytes) bytes

-- "The order list is eight bytes holding 1 to 8 once each."
unfoldable pub is_order : List ℕ → Bool
is_order order = eqb (length order) 8 and all (λ r. any (eqb r) order) (from 8 1)

-- the literals of a section of three bytes an entry
unfoldable pub literals : List ℕ → List Literal
literals [] = []
literals (s ∷ []) = []
literals (s ∷ a ∷ []) = []
literals (s ∷ a ∷ b ∷ rest) = literal (eqb s 1) a b ∷ literals rest

unfoldable pub section : List (List ℕ) → ℕ → List ℕ
section ps i = get_or ps i []

unfoldable pub query_of : Layout → Query
query_of (faulty k place) = record { links = 1; entries = one_link []; equalities = []; reachability = []; fields = [] }
query_of (parts ps) =
    record {
      links = 1;
      entries = one_link (section ps 0);
      equalities = literals (section ps 1);
      reachability = literals (section ps 2);
      fields = literals (section ps 3);
    }

-- what query bytes say; it is read only of bytes that are laid out as they should be
unfoldable pub decode : List ℕ → Query
decode bytes = query_of (layout_of bytes)

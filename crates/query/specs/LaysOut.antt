-- Where the sections of a query that is laid out stand, in the words of what the query says.
use Rattle.std.specs.Prelude.{ℕ, ◌+◌, ◌*◌, ◌≤◌, ◌≡◌, List, length, get_or, take, drop, eqb}
use Rattle.logic.specs.Query.{Literal, Query, one_link, literal, term_count, five_sections, parts, layout_by, literals, section, query_of, decode}
use Rattle.query.specs.declared.Layout.{Layout}
use Rattle.query.specs.declared.FullLayout.{FullLayout}

-- the first four sections, of bytes that say q
pub record LaysOutAs (q : Query) (l : Layout) (bytes : List ℕ) : Type 0 where
  pub term_count_lem : l.terms ≡ term_count q
  pub terms_within : l.terms ≤ 16
  pub entries_fit : l.terms + 1 ≤ length bytes
  pub one_link_lem : l.links ≡ 1
  pub links_are : q.links ≡ 1
  pub entries_are : q.entries ≡ one_link (take l.terms (drop 1 bytes))
  pub equal_within : l.equal_count ≤ 60
  pub equal_fit : l.equal_at + 3 * l.equal_count ≤ length bytes
  pub equal_are : q.equalities ≡ literals (take (3 * l.equal_count) (drop l.equal_at bytes))
  pub reach_within : l.reach_count ≤ 60
  pub reach_fit : l.reach_at + 3 * l.reach_count ≤ length bytes
  pub reach_are : q.reachability ≡ literals (take (3 * l.reach_count) (drop l.reach_at bytes))
  pub field_within : l.field_count ≤ 60
  pub field_fit : l.field_at + 3 * l.field_count ≤ length bytes
  pub field_are : q.fields ≡ literals (take (3 * l.field_count) (drop l.field_at bytes))

abbrev pub LaysOut : Layout → List ℕ → Type 0
LaysOut l bytes = LaysOutAs (decode bytes) l bytes

-- all five, of bytes in the form where so many booleans pass and more meet this refusal
pub record FullLaysOut (l : FullLayout) (bytes : List ℕ) (most excess : ℕ) : Type 0 where
  pub four : LaysOutAs (query_of (layout_by (five_sections most excess) bytes)) l.layout bytes
  pub boolean_within : l.boolean_count ≤ most
  pub boolean_fit : l.boolean_at + 2 * l.boolean_count ≤ length bytes
  pub ps : List (List ℕ)
  pub laid : layout_by (five_sections most excess) bytes ≡ parts ps
  pub boolean_are : section ps 4 ≡ take (2 * l.boolean_count) (drop l.boolean_at bytes)

-- Literal i of a section at `at`, of three bytes an entry.
abbrev pub literal_in : List ℕ → ℕ → ℕ → Literal
literal_in bytes at i =
    literal (eqb (get_or bytes (at + 3 * i) 0) 1) (get_or bytes (at + 3 * i + 1) 0) (get_or bytes (at + 3 * i + 2) 0)

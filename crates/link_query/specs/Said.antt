-- What the bytes of a query say, by where its sections stand: in the form of 01, which has one link, and with three links (02, R-11).
use Rattle.std.specs.Prelude.{ℕ, ◌+◌, ◌-◌, ◌*◌, ◌≤◌, ◌≡◌, ◌⊎◌, cond, List, length, get_or, take, drop, eqb}
use Rattle.logic.specs.Query.{Entries, Literal, Query, one_link, literals}
use Rattle.logic.specs.ThreeLinks.{firsts, seconds, linked_literals}
use Rattle.entries.specs.Entries.{width_of}
use Rattle.query.specs.declared.Layout.{Layout}
use Rattle.query.specs.Forms.{entry_kind, reach_kind}
use Rattle.query.specs.LaysOut.{literal_in}

-- the bytes of an entry of section 1, and of a reachability literal
unfoldable pub entry_width : ℕ → ℕ
entry_width links = width_of (entry_kind links)

unfoldable pub reach_width : ℕ → ℕ
reach_width links = width_of (reach_kind links)

-- the bytes of section 1 as entries, and those of section 3 as literals
unfoldable pub entries_by : ℕ → List ℕ → Entries
entries_by links bytes = cond (eqb links 1) (one_link bytes) (record { terms = seconds bytes; links = firsts bytes })

unfoldable pub reach_by : ℕ → List ℕ → List Literal
reach_by links bytes = cond (eqb links 1) (literals bytes) (linked_literals bytes)

unfoldable pub said : Layout → List ℕ → Query
said l bytes =
    record {
      links = l.links;
      entries = entries_by l.links (take (entry_width l.links * l.terms) (drop 1 bytes));
      equalities = literals (take (3 * l.equal_count) (drop l.equal_at bytes));
      reachability = reach_by l.links (take (reach_width l.links * l.reach_count) (drop l.reach_at bytes));
      fields = literals (take (3 * l.field_count) (drop l.field_at bytes));
    }

-- the sections are within their limits and within the bytes
pub record Within (l : Layout) (bytes : List ℕ) : Type 0 where
  pub one_or_three : (l.links ≡ 1) ⊎ (l.links ≡ 3)
  pub terms_within : l.terms ≤ 16
  pub entries_fit : 1 + entry_width l.links * l.terms ≤ length bytes
  pub equal_within : l.equal_count ≤ 60
  pub equal_fit : l.equal_at + 3 * l.equal_count ≤ length bytes
  pub reach_within : l.reach_count ≤ 60
  pub reach_fit : l.reach_at + reach_width l.links * l.reach_count ≤ length bytes
  pub field_within : l.field_count ≤ 60
  pub field_fit : l.field_at + 3 * l.field_count ≤ length bytes

-- Read in place: the byte of term t, the link that stands before it, and reachability literal i of a section at `at`.
unfoldable pub entry_in : ℕ → List ℕ → ℕ → ℕ
entry_in links bytes t = cond (eqb links 1) (get_or bytes t 0) (get_or bytes (2 * t) 0)

unfoldable pub link_in : ℕ → List ℕ → ℕ → ℕ
link_in links bytes t = cond (eqb links 1) 1 (get_or bytes (2 * t - 1) 0)

abbrev pub linked_in : List ℕ → ℕ → ℕ → Literal
linked_in bytes at i =
    record {
      plain = eqb (get_or bytes (at + 4 * i) 0) 1;
      link = get_or bytes (at + 4 * i + 1) 0;
      left = get_or bytes (at + 4 * i + 2) 0;
      right = get_or bytes (at + 4 * i + 3) 0;
    }

unfoldable pub reach_in : ℕ → List ℕ → ℕ → ℕ → Literal
reach_in links bytes at i = cond (eqb links 1) (literal_in bytes at i) (linked_in bytes at i)

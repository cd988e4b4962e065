-- The sections of a query's bytes, at their places.
use Rattle.std.specs.Prelude.{ℕ, ◌+◌, ◌*◌, ◌≤◌, ◌<◌, ◌≡◌, List, ◌∷◌, length, get_or, drop, Result, Ok, Err}
use Rattle.logic.specs.Query.{Section, layout, faulty, layout_by}
use Rattle.refusals.specs.declared.Refusal.{Refusal}
use Rattle.refusals.specs.Numbers.{number_of}
use Rattle.entries.specs.Entries.{width_of}
use Rattle.query.specs.Forms.{entry_kind, reach_kind, form_by}
use Rattle.query.specs.declared.Part.{Part}
use Rattle.query.specs.declared.FullLayout.{FullLayout}

-- The section with its count at `at` and the next section at `next`.
pub record Stands (bytes : List ℕ) (limit width at count next : ℕ) : Type 0 where
  pub counted : at < length bytes
  pub count_is : get_or bytes at 0 ≡ count
  pub within : count ≤ limit
  pub next_is : next ≡ at + 1 + count * width
  pub fits : next ≤ length bytes

-- what is read at a section: the refusal that the walk from the front meets there, or the section
abbrev pub ReadAs : Result Part Refusal → List ℕ → ℕ → ℕ → ℕ → ℕ → Type 0
ReadAs (Err e) bytes at limit excess width =
    (s : Section) (ss : List Section) → s.limit ≡ limit → s.excess ≡ excess → s.width ≡ width → layout (s ∷ ss) at (drop at bytes) ≡ faulty (number_of e.fault) e.place
ReadAs (Ok part) bytes at limit excess width = Stands bytes limit width at part.count part.next

-- The five sections follow each other from the first byte to the last. How many booleans pass is not said here.
pub record Sections (l : FullLayout) (bytes : List ℕ) : Type 0 where
  pub second : ℕ
  pub third : ℕ
  pub fourth : ℕ
  pub fifth : ℕ
  pub terms : Stands bytes 16 (width_of (entry_kind l.layout.links)) 0 l.layout.terms second
  pub equalities : Stands bytes 60 3 second l.layout.equal_count third
  pub reachability : Stands bytes 60 (width_of (reach_kind l.layout.links)) third l.layout.reach_count fourth
  pub fields : Stands bytes 60 3 fourth l.layout.field_count fifth
  pub booleans : Stands bytes l.boolean_count 2 fifth l.boolean_count (length bytes)
  pub equal_at : l.layout.equal_at ≡ second + 1
  pub reach_at : l.layout.reach_at ≡ third + 1
  pub field_at : l.layout.field_at ≡ fourth + 1
  pub boolean_at : l.boolean_at ≡ fifth + 1

-- the refusal of the walk from the front, or the sections
abbrev pub LaidOut : Result FullLayout Refusal → List ℕ → ℕ → ℕ → ℕ → Type 0
LaidOut (Err e) bytes links most excess = layout_by (form_by links most excess) bytes ≡ faulty (number_of e.fault) e.place
LaidOut (Ok l) bytes links most excess = Sections l bytes × (l.boolean_count ≤ most) × (l.layout.links ≡ links)

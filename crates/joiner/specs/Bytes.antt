-- Numbers that fit a byte, also where they are raised.
use Rattle.std.specs.Prelude.{ℕ, ◌+◌, ◌*◌, ◌≤◌, ◌<◌, Bool, ◌&&◌, leb, map, length, take, drop}
use mathlib.Core.List.{List, Memᴰ}
use Rattle.logic.specs.Search.{flat_map}
use Rattle.logic.specs.Query.{Literal, literals}
use Rattle.query.specs.declared.Layout.{Layout}
use Rattle.joining.specs.Pairs.{Pair}
use Rattle.encoding.specs.QueryBytes.{literal_bytes}
use Rattle.joining.specs.Joined.{raised_entry, raised}
use Rattle.joiner.specs.declared.Section.{Section}

-- a section's literals, where it lies in its query, and their bytes, with the numbers raised
abbrev pub literals_of : Section → List Literal
literals_of s = literals (take (3 * s.2) (drop s.1 s.0.now))

abbrev pub Lies : Section → Type 0
Lies s = s.1 + 3 * s.2 ≤ length s.0.now

abbrev pub raised_bytes : ℕ → ℕ → Section → List ℕ
raised_bytes i j s = flat_map literal_bytes (map (raised i j) (literals_of s))

abbrev pub Small : ℕ → ℕ → List Literal → Type 0
Small i j ls = (l : Literal) → Memᴰ l ls → (i + l.left < 256) × (j + l.right < 256)

abbrev pub SmallEntries : ℕ → List ℕ → Type 0
SmallEntries n es = (e : ℕ) → Memᴰ e es → raised_entry n e < 256

abbrev pub SmallPairs : ℕ → List Pair → Type 0
SmallPairs n ps = (p : Pair) → Memᴰ p ps → (p.first < 256) × (n + p.second < 256)

abbrev pub pair_of : ℕ → ℕ → Pair
pair_of a b = record { first = a; second = b }

-- the counts of a query that is laid out
pub record Bounded (l : Layout) : Type 0 where
  pub terms_within : l.terms ≤ 16
  pub equal_within : l.equal_count ≤ 60
  pub reach_within : l.reach_count ≤ 60
  pub field_within : l.field_count ≤ 60

-- the limits of a joined query, by the counts of the two and of the pairs
unfoldable pub keeps_limits : Layout → Layout → ℕ → Bool
keeps_limits f s count =
    leb (f.terms + s.terms) 16 && leb (f.equal_count + s.equal_count + count) 60
    && leb (f.reach_count + s.reach_count) 60
    && leb (f.field_count + s.field_count) 60

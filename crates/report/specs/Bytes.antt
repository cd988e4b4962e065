-- The report's bytes as they are written.
use Rattle.std.specs.Prelude.{ℕ, ◌-◌, ◌≤◌, ◌<◌, ◌≡◌, Bool, List, [], ◌∷◌, ◌++◌, map, length, eqb}
use Rattle.logic.specs.Search.{◌and◌, from, any, flat_map}
use Rattle.logic.specs.Query.{Literal}
use Rattle.logic.specs.Facts.{terms, link_numbers}
use Rattle.logic.specs.Facts as logic
use Rattle.logic.specs.Shown.{place_of, shown_link}
use Rattle.theory.proofs.Query.Tied.{Accepted}
use Rattle.facts.specs.declared.Facts.{Facts}
use Rattle.facts.specs.Path.{rep_of, path_of}
use Rattle.query.specs.declared.Layout.{Layout}
use Rattle.query.specs.LaysOut.{literal_in}
use Rattle.heap_nodes.specs.Nodes.{marked, Numbers}
use Rattle.report.specs.declared.Nodes.{Nodes}
use Rattle.link_query.specs.Said.{said, Within}

-- "set exactly by a plain literal": the field j of the node of term v
unfoldable pub field_held : (ℕ → ℕ) → List Literal → ℕ → ℕ → Bool
field_held rep ls v j = any (λ l. l.plain and eqb l.left j and eqb (rep l.right) v) ls

-- the literals at a place of the query
unfoldable pub literals_at : List ℕ → ℕ → ℕ → List Literal
literals_at query at count = map (literal_in query at) (from (count - 0) 0)

-- their numbers are in range
abbrev pub FieldsIn : List ℕ → ℕ → ℕ → (ℕ → ℕ) → Type 0
FieldsIn query at count rep =
    (i : ℕ) → i < count → ((literal_in query at i).left ≤ 8) × ((literal_in query at i).right ≤ 16) × (rep (literal_in query at i).right ≤ 16)

-- the terms that are nodes, counted and numbered
pub record Numbered (nodes : Nodes) : Type 0 where
  pub terms_within : nodes.terms ≤ 16
  pub few : nodes.count ≤ 16
  pub counted : nodes.count ≡ length (marked nodes.marks nodes.terms)
  pub numbers : Numbers nodes.list (marked nodes.marks nodes.terms)

-- What a report is written of: an accepted query, and facts of its links in which every term stands for a term.
pub record Reportable (l : Layout) (query : List ℕ) (s : Facts) : Type 0 where
  pub laid : Within l query
  pub passes : Accepted (said l query)
  pub stands : (t : ℕ) → 1 ≤ t → t ≤ l.terms → rep_of s.rep t ≤ 16
  pub linked : (path_of s).links ≡ (said l query).links

-- the successors along link i of the terms that are nodes, as nodes
unfoldable pub successors_among : ℕ → logic.Facts → List ℕ → ℕ → List ℕ
successors_among n s ts i = map (λ v. place_of (shown_link n s i v) ts) ts

-- the successors along every link, link by link
abbrev pub all_successors : ℕ → logic.Facts → List ℕ → List ℕ
all_successors n s ts = flat_map (successors_among n s ts) (link_numbers s.links)

-- the four sections, from the terms that are nodes, the successors, and the bytes of each; the byte of booleans is 0
abbrev pub sections : ℕ → List ℕ → List ℕ → (ℕ → ℕ) → (ℕ → ℕ) → List ℕ
sections n ts successors node datum =
    (length successors ∷ successors)
    ++ ((n ∷ map node (terms n)) ++ ((length ts ∷ map datum ts) ++ (1 ∷ 0 ∷ [])))

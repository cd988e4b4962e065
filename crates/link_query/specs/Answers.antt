-- The answer of the checks of a query, in whichever form calls take.
use Rattle.std.specs.Prelude.{ℕ, ◌≡◌, List, Result, Ok, Err}
use Rattle.std.proofs.Math.Option.{none, some}
use Rattle.logic.specs.Query.{layout_by}
use Rattle.logic.specs.ThreeLinks.{link_sections, link_fault}
use Rattle.logic.specs.Calls.{Input, CallForm, refused, refusal_of}
use Rattle.query.specs.declared.Layout.{Layout}
use Rattle.refusals.specs.declared.Refusal.{Refusal}
use Rattle.refusals.specs.Numbers.{number_of}
use Rattle.link_query.specs.Said.{said, Within}

-- refusal 22 with its place, or none
abbrev pub LinksChecked : {A : Type 0} → Result A Refusal → List ℕ → Type 0
LinksChecked (Err e) bytes = (number_of e.fault ≡ 22) × (link_fault (layout_by link_sections bytes) ≡ some e.place)
LinksChecked (Ok a) bytes = link_fault (layout_by link_sections bytes) ≡ none

-- an accepted query: no check stands, whatever else a call is given, the sections stand where the layout says, and they say the query
pub record Taken (f : CallForm) (l : Layout) (bytes : List ℕ) : Type 0 where
  pub free : (i : Input) → i.query ≡ bytes → refusal_of f.checks i ≡ none
  pub within : Within l bytes
  pub says : said l bytes ≡ f.decode bytes

abbrev pub CheckedBy : CallForm → Result Layout Refusal → List ℕ → Type 0
CheckedBy f (Err e) bytes = (i : Input) → i.query ≡ bytes → refusal_of f.checks i ≡ some (refused (number_of e.fault) e.place)
CheckedBy f (Ok l) bytes = Taken f l bytes

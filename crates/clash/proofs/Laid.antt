-- The clash of a path, section by section, each where the query's bytes have it.
use Prim.Native.Nat.{ℕ}
use mathlib.Core.Path.{◌≡◌, ap₂, sym, ◌∙◌}
use mathlib.Core.Bool.{Bool}
use mathlib.Core.List.{List}
use mathlib.Core.Option.{Option, none, some}
use Rattle.logic.specs.Search.{or_else}
use Rattle.logic.specs.Facts.{Facts, Line, clash}
use Rattle.query.specs.declared.Layout.{Layout}
use Rattle.link_query.specs.Said.{said}
use Rattle.logic.specs.Query.{Query}
use Rattle.literal_tests.specs.Tests.{one_term, reach_held, same_field}
use Rattle.clash.specs.Sections.{literals_in, alone, paired}
use Rattle.clash.proofs.Decomposed.{path_clash, clash_split}

abbrev pub reach_of : Facts → ℕ → ℕ → ℕ → Bool
reach_of s k = (s.graph k).reach

-- every path with the same representatives and the same reachability has the same clash
pub same_clash : (q : Query) (s t : Facts) → s.rep ≡ t.rep → reach_of s ≡ reach_of t → clash q s ≡ clash q t
unfolding path_clash
same_clash q s t e f =
    clash_split q s
    ∙ ap₂ (λ (r : ℕ → ℕ) (g : ℕ → ℕ → ℕ → Bool).
    or_else (alone 2 q.equalities (one_term r))
    (or_else (alone 3 q.reachability (λ l. g l.link (r l.left) (r l.right))) (paired 4 q.fields (same_field r)))) e f
    ∙ sym (clash_split q t)

module _ (l : Layout) (bytes : List ℕ) (s : Facts) where
  abbrev in_equalities : Option Line
  in_equalities = alone 2 (literals_in bytes l.equal_at l.equal_count) (one_term s.rep)

  abbrev in_reachability : Option Line
  in_reachability = alone 3 (said l bytes).reachability (reach_held s)

  abbrev in_fields : Option Line
  in_fields = paired 4 (literals_in bytes l.field_at l.field_count) (same_field s.rep)

  pub clash_laid : clash (said l bytes) s ≡ or_else in_equalities (or_else in_reachability in_fields)
  unfolding path_clash said
  clash_laid = clash_split (said l bytes) s

  pub equality_first : (x : Line) → in_equalities ≡ some x → clash (said l bytes) s ≡ some x
  unfolding or_else
  equality_first x g = clash_laid ∙ rw g

  pub reach-second : (x : Line) → in_equalities ≡ none → in_reachability ≡ some x → clash (said l bytes) s ≡ some x
  unfolding or_else
  reach-second x g h = clash_laid ∙ rw (g, h)

  pub fields_third : in_equalities ≡ none → in_reachability ≡ none → clash (said l bytes) s ≡ in_fields
  unfolding or_else
  fields_third g h = clash_laid ∙ rw (g, h)

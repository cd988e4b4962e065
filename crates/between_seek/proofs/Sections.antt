-- The sections that the tests read are those of the query.
use mathlib.Core.Path.{◌≡◌, ap, ◌∙◌}
use mathlib.Core.Bool.{Bool}
use mathlib.Core.List.{List}
use Prim.Native.Nat.{ℕ}
use Rattle.logic.specs.Query.{Literal, decode}
use Rattle.query.specs.declared.Layout.{Layout}
use Rattle.query.specs.LaysOut.{LaysOut}
use Rattle.between_tests.specs.Tables.{literals_in}

module _ (bytes : List ℕ) (l : Layout) (laid : LaysOut l bytes) (p : List Literal → Bool) (b : Bool) where
  pub equal_section : p (literals_in bytes l.equal_at l.equal_count) ≡ b → p (decode bytes).equalities ≡ b
  unfolding literals_in
  equal_section h = ap p laid.equal_are ∙ h

  pub reach_section : p (literals_in bytes l.reach_at l.reach_count) ≡ b → p (decode bytes).reachability ≡ b
  unfolding literals_in
  reach_section h = ap p laid.reach_are ∙ h

  pub field_section : p (literals_in bytes l.field_at l.field_count) ≡ b → p (decode bytes).fields ≡ b
  unfolding literals_in
  field_section h = ap p laid.field_are ∙ h

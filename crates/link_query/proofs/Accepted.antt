-- A query that is taken, in either form, is all that the theory asks, and what is read of it in place is in its ranges.
use Prim.Native.Nat.{ℕ, ◌≤◌, ◌<◌}
use mathlib.Core.Path.{◌≡◌, refl, sym, subst}
use mathlib.Core.Bool.{true}
use mathlib.Core.List.{List, []}
use Rattle.logic.specs.Search.{is_some}
use Rattle.logic.specs.Query.{term_count, argument_of, link_of}
use Rattle.logic.specs.Calls.{CallForm, one_link_form, accepts_by}
use Rattle.theory.proofs.Query.Tied.{Accepted}
use Rattle.theory.proofs.Calls.CallLaws.{FormLaws}
use Rattle.query.specs.declared.Layout.{Layout}
use Rattle.refusals.specs.declared.Refusal.{Refusal}
use Rattle.std.specs.Prelude.{Result, Ok, Err}
use Rattle.query.specs.LaysOut.{literal_in}
use Rattle.query_checks.specs.Answers.{CheckedAs}
use Rattle.query.proofs.Ranges.{UpTo, below_of, entry_linked_of, equal_terms_of, reach_terms_of, reach_linked_of, field_number_term_of}
use Rattle.link_query.specs.Said.{said, reach_in}
use Rattle.link_query.specs.Answers.{Taken, CheckedBy}
use Rattle.link_query.proofs.Said.{terms-said, equalities-said, reachability-said, fields-said, one_within, one-said}

-- the checks of the form of 01, in the same words as those of three links
pub one_checked : (r : Result Layout Refusal) (bytes : List ℕ) → CheckedAs r bytes → CheckedBy one_link_form r bytes
one_checked (Err e) bytes h = h
one_checked (Ok l) bytes h = record { free = h.0; within = one_within l bytes h.1; says = one-said l bytes h.1 }

module _ (f : CallForm) (laws : FormLaws f) (l : Layout) (bytes : List ℕ) (taken : Taken f l bytes) where
  pub taken_accepts : accepts_by f bytes ≡ true
  unfolding accepts_by is_some
  taken_accepts = rw (taken.free (record { order = []; query = bytes; room = 0 }) refl)

  pub accepted_said : Accepted (said l bytes)
  accepted_said = subst Accepted (sym taken.says) (laws.accepted_query bytes taken_accepts)

  counted : l.terms ≡ term_count (said l bytes)
  counted = sym (terms-said l bytes taken.within)

  pub entry_below : (t : ℕ) → 1 ≤ t → t ≤ l.terms → argument_of (said l bytes).entries t < t
  entry_below = below_of accepted_said counted

  pub entry_linked : (t : ℕ) → 1 ≤ t → t ≤ l.terms → 1 ≤ argument_of (said l bytes).entries t → UpTo l.links (link_of (said l bytes).entries t)
  unfolding said
  entry_linked = entry_linked_of accepted_said counted

  pub equal_terms : (i : ℕ) → i < l.equal_count → UpTo l.terms (literal_in bytes l.equal_at i).left × UpTo l.terms (literal_in bytes l.equal_at i).right
  equal_terms i h = equal_terms_of accepted_said counted _ l.equal_count i h (equalities-said l bytes taken.within)

  pub reach_terms : (i : ℕ) → i < l.reach_count → UpTo l.terms (reach_in l.links bytes l.reach_at i).left × UpTo l.terms (reach_in l.links bytes l.reach_at i).right
  reach_terms i h = reach_terms_of accepted_said counted _ l.reach_count i h (reachability-said l bytes taken.within)

  pub reach_linked : (i : ℕ) → i < l.reach_count → UpTo l.links (reach_in l.links bytes l.reach_at i).link
  unfolding said
  reach_linked i h = reach_linked_of accepted_said counted _ l.reach_count i h (reachability-said l bytes taken.within)

  pub field_number_term : (i : ℕ) → i < l.field_count → UpTo 8 (literal_in bytes l.field_at i).left × UpTo l.terms (literal_in bytes l.field_at i).right
  field_number_term i h = field_number_term_of accepted_said counted _ l.field_count i h (fields-said l bytes taken.within)

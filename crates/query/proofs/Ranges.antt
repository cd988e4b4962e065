-- What acceptance says of the bytes that are read in place: arguments are below their terms, and numbers are in their ranges.
use Prim.Native.Nat.{ℕ, ◌≤◌, ◌<◌}
use mathlib.Core.Path.{◌≡◌, sym, subst}
use mathlib.Core.Bool.{true}
use mathlib.Core.List.{List, Memᴰ}
use Rattle.logic.specs.Query.{Literal, Query, argument_of, link_of, term_count, decode}
use Rattle.logic.specs.Calls.{accepts}
use Rattle.theory.proofs.Query.Tied.{InTerms, Accepted}
use Rattle.theory.proofs.Query.AcceptedBytes.{accepted}
use Rattle.query.specs.declared.Layout.{Layout}
use Rattle.query.specs.LaysOut.{LaysOut, literal_in}
use Rattle.query.proofs.Literals.{listed, listed-mem, equalities-listed, reachability-listed, fields-listed}

abbrev pub UpTo : ℕ → ℕ → Type 0
UpTo most b = (1 ≤ b) × (b ≤ most)

-- of a query of so many terms whose literals are read by f
module _ {q : Query} (known : Accepted q) {terms : ℕ} (counted : terms ≡ term_count q) where
  in_terms : {b : ℕ} → InTerms q b → UpTo terms b
  in_terms {b} h = rw counted h

  member : {ls : List Literal} (f : ℕ → Literal) (count i : ℕ) → ls ≡ listed f count 0 → i < count → Memᴰ (f i) ls
  member f count i e h = subst (Memᴰ (f i)) (sym e) (listed-mem f count i h)

  pub below_of : (t : ℕ) → 1 ≤ t → t ≤ terms → argument_of q.entries t < t
  below_of t h u = known.entry_below t (h, rw (sym counted) u)

  pub entry_linked_of : (t : ℕ) → 1 ≤ t → t ≤ terms → 1 ≤ argument_of q.entries t → UpTo q.links (link_of q.entries t)
  entry_linked_of t h u = known.entry_linked t (h, rw (sym counted) u)

  module _ (f : ℕ → Literal) (count i : ℕ) (h : i < count) where
    pub equal_terms_of : q.equalities ≡ listed f count 0 → UpTo terms (f i).left × UpTo terms (f i).right
    equal_terms_of e = let r = known.equal_terms _ (member f count i e h) in (in_terms r.0, in_terms r.1)

    pub reach_terms_of : q.reachability ≡ listed f count 0 → UpTo terms (f i).left × UpTo terms (f i).right
    reach_terms_of e = let r = known.reach_terms _ (member f count i e h) in (in_terms r.0, in_terms r.1)

    pub reach_linked_of : q.reachability ≡ listed f count 0 → UpTo q.links (f i).link
    reach_linked_of e = known.reach_linked _ (member f count i e h)

    pub field_number_term_of : q.fields ≡ listed f count 0 → UpTo 8 (f i).left × UpTo terms (f i).right
    field_number_term_of e = let m = member f count i e h in (known.field_number _ m, in_terms (known.field_term _ m))

module _ (l : Layout) (bytes : List ℕ) (laid : LaysOut l bytes) (passes : accepts bytes ≡ true) where
  known_query : Accepted (decode bytes)
  known_query = accepted bytes passes

  pub entry_below : (t : ℕ) → 1 ≤ t → t ≤ l.terms → argument_of (decode bytes).entries t < t
  entry_below = below_of known_query laid.term_count_lem

  pub equal_terms : (i : ℕ) → i < l.equal_count → UpTo l.terms (literal_in bytes l.equal_at i).left × UpTo l.terms (literal_in bytes l.equal_at i).right
  equal_terms i h = equal_terms_of known_query laid.term_count_lem (literal_in bytes l.equal_at) l.equal_count i h (equalities-listed l bytes laid)

  pub reach_terms : (i : ℕ) → i < l.reach_count → UpTo l.terms (literal_in bytes l.reach_at i).left × UpTo l.terms (literal_in bytes l.reach_at i).right
  reach_terms i h = reach_terms_of known_query laid.term_count_lem (literal_in bytes l.reach_at) l.reach_count i h (reachability-listed l bytes laid)

  pub field_number_term : (i : ℕ) → i < l.field_count → UpTo 8 (literal_in bytes l.field_at i).left × UpTo l.terms (literal_in bytes l.field_at i).right
  field_number_term i h = field_number_term_of known_query laid.term_count_lem (literal_in bytes l.field_at) l.field_count i h (fields-listed l bytes laid)

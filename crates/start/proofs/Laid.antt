-- The start of a query, from its sections as the bytes say them.
use Prim.Native.Nat.{ℕ, ◌+◌, ◌-◌, ◌*◌}
use native.Mathlib.Omega.{arith}
use mathlib.Core.Path.{◌≡◌, refl, sym, ap, ap₂, ◌∙◌, subst}
use mathlib.Core.Bool.{Bool, true, false, cond}
use mathlib.Core.List.{List, [], ◌∷◌}
use lib.ListN.{take, drop}
use lib.Dec.{eqb}
use Rattle.logic.specs.Query.{Literal, literals}
use Rattle.logic.specs.Facts.{Facts, Joined, unjoined, links_of, and_then, settle, terms, nil_terms, join_nil, join_each, add_reach, reach_each, start_joins, start}
use Rattle.theory.proofs.Query.Tied.{Accepted}
use Rattle.theory.proofs.Paths.Start.{start_tied}
use Rattle.query.specs.declared.Layout.{Layout}
use Rattle.link_query.specs.Said.{said, Within}
use Rattle.link_query.proofs.Said.{terms-said}
use Rattle.link_rows.specs.Cube.{cube}
use Rattle.facts.specs.Path.{rep_of, path_of}
use Rattle.facts.specs.declared.Facts as code
use Rattle.plain_literals.specs.Taken.{Bounded}
use Rattle.plain_literals.proofs.Bounded.{settled, linked_bounded}
use Rattle.joins.specs.Pairs.{Fits}
use Rattle.joins.proofs.Joins.{none_before, fits_left}
use Rattle.term_links.proofs.Entries.{linked_in_rows}
use Rattle.start.proofs.Room.{start_pairs}
use Rattle.plain_literals.proofs.Read.{counted}
use Rattle.nil_terms.specs.Nil.{nil_from}
use Rattle.start.specs.Started.{started}

-- adding reachability leaves the links that there are
reach_each-links : (ls : List Literal) (s : Facts) → (reach_each ls s).links ≡ s.links
unfolding reach_each add_reach
reach_each-links [] s = refl
reach_each-links (l ∷ ls) s = reach_each-links ls _ ∙ go l.plain
  where
    go : (b : Bool) → (cond b (add_reach l.link (s.rep l.left) (s.rep l.right) s) s).links ≡ s.links
    go true = refl
    go false = refl

module _ {l : Layout} {bytes : List ℕ} (w : Within l bytes) where
  abbrev pub equalities : List Literal
  equalities = literals (take (3 * l.equal_count) (drop l.equal_at bytes))

  abbrev pub links : Joined
  links = settle l.terms l.terms (links_of (said l bytes))

  abbrev with_nil : Joined → Joined
  with_nil j = and_then j (join_nil l.terms (nil_from (said l bytes).entries l.terms 1))

  abbrev with_equalities : Joined → Joined
  with_equalities j = and_then j (join_each l.terms equalities)

  abbrev pub joins : Joined
  joins = with_equalities (with_nil links)

  -- each made of the one before
  pub joins_made : (settled nilled joined : Joined) → settled ≡ links → nilled ≡ with_nil settled → joined ≡ with_equalities nilled → joined ≡ joins
  joins_made settled nilled joined e f g = g ∙ ap (λ (j : Joined). with_equalities j) (f ∙ ap (λ (j : Joined). with_nil j) e)

  nil_laid : nil_terms (said l bytes) ≡ nil_from (said l bytes).entries l.terms 1
  unfolding nil_terms terms nil_from
  nil_laid = rw (terms-said l bytes w, all)
    where
      all : l.terms + 1 - 1 ≡ l.terms
      all = omega arith

  joins_laid : start_joins (said l bytes) ≡ joins
  unfolding start_joins said
  joins_laid = rw (nil_laid, terms-said l bytes w)

  pub start_laid : (j : Joined) (s : Facts) → j ≡ joins → s ≡ reach_each (said l bytes).reachability j.facts → record { pairs = j.pairs; facts = s } ≡ started (said l bytes)
  unfolding started start
  start_laid j s e h =
      let f : j ≡ start_joins (said l bytes) = e ∙ sym joins_laid in
      ap₂ (λ (ps : List (ℕ × ℕ)) (t : Facts). record { pairs = ps; facts = t }) (ap (λ (i : Joined). i.pairs) f) (h ∙ ap (λ (i : Joined). reach_each (said l bytes).reachability i.facts) f)

  module _ (acc : Accepted (said l bytes)) where
    -- the links that a path holds, of which no two terms were joined, are settled
    pub links_laid : (s : code.Facts) → s.single ≡ eqb l.links 1 → rep_of s.rep ≡ (λ t. t) → ((k : ℕ) → cube s.link k ≡ ((links_of (said l bytes)).graph k).link) →
        ((k a b : ℕ) → cube s.reach k a b ≡ false) → (j : Joined) → j ≡ unjoined (path_of s) → and_then j (settle l.terms l.terms) ≡ links
    unfolding said path_of
    links_laid s e r f none j of =
        ap (λ (i : Joined). and_then i (settle l.terms l.terms)) of
        ∙ none_before (path_of s) (settle l.terms l.terms)
        ∙ ap (settle l.terms l.terms) (linked_in_rows (said l bytes) acc s.single s.rep s.link s.reach e w.one_or_three r f none)

    -- and their terms are within the arrays
    pub links_bounded : (j : Joined) → j ≡ links → Bounded j.facts
    links_bounded j e = subst (λ (i : Joined). Bounded i.facts) (sym e) (settled l.terms w.terms_within l.terms _ (linked_bounded (said l bytes)))

    -- the joins leave the links that there are
    pub joins-links : joins.facts.links ≡ l.links
    unfolding start said
    joins-links =
        ap (λ (j : Joined). j.facts.links) (sym joins_laid) ∙ sym (reach_each-links (said l bytes).reachability (start_joins (said l bytes)).facts)
        ∙ (start_tied (said l bytes) acc).same_links

    -- there is room for all pairs
    pub joins_fit : Fits joins
    joins_fit = subst Fits joins_laid (omega (arith, start_pairs (said l bytes) acc, counted w, w.terms_within))

    pub nil_fits : (settled : Joined) → settled ≡ links → Fits (with_nil settled)
    nil_fits settled e = subst (λ (j : Joined). Fits (with_nil j)) (sym e) (fits_left _ _ joins_fit)

    pub equalities_fit : (settled nilled : Joined) → settled ≡ links → nilled ≡ with_nil settled → Fits (with_equalities nilled)
    equalities_fit settled nilled e f = subst (λ (j : Joined). Fits (with_equalities j)) (sym (f ∙ ap (λ (j : Joined). with_nil j) e)) joins_fit

    pub started_fits : Fits (started (said l bytes))
    unfolding started
    started_fits = omega (arith, start_pairs (said l bytes) acc, counted w, w.terms_within)

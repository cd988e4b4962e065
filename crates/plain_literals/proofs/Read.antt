-- The literals that are read in place are in their ranges.
use Prim.Native.Nat.{ℕ, ◌≤◌, ◌<◌}
use native.Mathlib.Omega.{arith}
use mathlib.Core.Path.{◌≡◌, sym}
use mathlib.Core.List.{List}
use Rattle.logic.specs.Query.{Literal, term_count}
use Rattle.theory.proofs.Query.Tied.{Accepted}
use Rattle.query.specs.declared.Layout.{Layout}
use Rattle.query.proofs.Ranges.{UpTo, equal_terms_of, reach_terms_of, reach_linked_of}
use Rattle.link_query.specs.Said.{said, Within, reach_in}
use Rattle.link_query.proofs.Said.{terms-said, equalities-said, reachability-said, few_links}
use Rattle.plain_literals.specs.Taken.{Terms, TermsIn}

module _ {l : Layout} {bytes : List ℕ} (w : Within l bytes) where
  pub counted : l.terms ≡ term_count (said l bytes)
  counted = sym (terms-said l bytes w)

  ranged : (m : Literal) → UpTo l.terms m.left × UpTo l.terms m.right → Terms m
  ranged m r = record { left_within = omega (arith, r.0.1, w.terms_within); right_within = omega (arith, r.1.1, w.terms_within) }

  module _ (acc : Accepted (said l bytes)) where
    pub equal_terms_in : TermsIn bytes l.equal_at l.equal_count
    equal_terms_in = record { terms = λ i h. ranged _ (equal_terms_of acc counted _ l.equal_count i h (equalities-said l bytes w)) }

    module _ (i : ℕ) (h : i < l.reach_count) where
      pub reach_terms : Terms (reach_in l.links bytes l.reach_at i)
      reach_terms = ranged _ (reach_terms_of acc counted _ l.reach_count i h (reachability-said l bytes w))

      reach_linked : UpTo l.links (reach_in l.links bytes l.reach_at i).link
      unfolding said
      reach_linked = reach_linked_of acc counted _ l.reach_count i h (reachability-said l bytes w)

      module _ (by : ℕ) (e : by ≡ (reach_in l.links bytes l.reach_at i).link) where
        -- the link of a literal has rows
        pub linked_rows : (0 < by) × (by ≤ 3)
        linked_rows =
            let r = reach_linked in (omega (arith, e, r.0), omega (arith, e, r.1, few_links l bytes w))

        -- and is one of the path
        pub linked_in : (links : ℕ) → links ≡ l.links → by ≤ links
        linked_in links f = omega (arith, e, f, reach_linked.1)

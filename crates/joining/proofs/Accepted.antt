-- A joined query's numbers are as they should be. Assumes nothing.
use Prim.Native.Nat.{ℕ, ◌+◌, ◌≤◌, ◌<◌}
use native.Mathlib.Omega.{arith}
use native.Mathlib.Nat.{zero-add}
use mathlib.Core.Path.{◌≡◌, refl, sym, ap, ◌∙◌, subst}
use mathlib.Core.Logic.{⊎_elim}
use mathlib.Core.List.Memᴰ
use mathlib.Core.List.{List, ◌++◌, map, Memᴰ}
use Rattle.logic.specs.Query.{Literal, Query, term_count, argument_of, link_of, decode}
use Rattle.theory.proofs.Basics.Search.{map-mem}
use Rattle.theory.proofs.Basics.Compare.{le_cases}
use Rattle.theory.proofs.Query.Tied.{Accepted, InTerms}
use Rattle.joining.specs.Pairs.{Pair}
use Rattle.joining.specs.Joined.{raised, raised_entry, pair_literal, joined}
use Rattle.joining.specs.Claims.{BothAccepted, ListsPairs, as_one}
use Rattle.joining.proofs.Counts.{count_terms}
use Rattle.joining.proofs.Terms.{Among, first_among, second_among, whose}
use Rattle.encoding.proofs.Encoded.{Limits, limits_within, AboutOne, OneLinked, Encodable}
use Rattle.encoding.proofs.Decoded.{accepted_encodable}

-- a pair names a term of either query
abbrev pub Paired : Query → Query → Pair → Type 0
Paired a b p = InTerms a p.first × InTerms b p.second

module _ (a b : Query) (ps : List Pair) (first : Encodable a) (second : Encodable b) (paired : (p : Pair) → Memᴰ p ps → Paired a b p) where
  -- a term of the first, and one of the second raised
  in_first : (t : ℕ) → InTerms a t → InTerms (joined a b ps) t
  in_first t h = omega (arith, count_terms a b ps, h.0, h.1)

  in_second : (t : ℕ) → InTerms b t → InTerms (joined a b ps) (term_count a + t)
  in_second t h = (omega (arith, h.0), omega (arith, count_terms a b ps, h.1))

  module _ (small : term_count (joined a b ps) ≤ 16) where
    pub of_first_lem : Among (λ t. t) (joined a b ps).entries a.entries (term_count a)
    unfolding joined term_count
    of_first_lem = first_among a.entries (map (raised_entry (term_count a)) b.entries.terms) first.one_linked.entries

    pub of_second_lem : Among (λ t. term_count a + t) (joined a b ps).entries b.entries (term_count b)
    unfolding joined term_count
    of_second_lem = second_among (term_count a) a.entries.terms b.entries second.one_linked.entries refl second.accepted.entry_below (omega (arith, count_terms a b ps))

    entry_below : (t : ℕ) → InTerms (joined a b ps) t → argument_of (joined a b ps).entries t < t
    entry_below t h = ⊎_elim low high (whose (term_count a) (term_count b) t h.0 (omega (arith, count_terms a b ps, h.1)))
      where
        low : t ≤ term_count a → argument_of (joined a b ps).entries t < t
        low u =
            ⊎_elim
            (λ one. omega (arith, of_first_lem.argument t h.0 u one, first.accepted.entry_below t (h.0, u)))
            (λ none. omega (arith, of_first_lem.no_argument t h.0 u (omega arith), h.0))
            (le_cases 1 (argument_of a.entries t))

        high : (u : ℕ) × (t ≡ term_count a + u) × (1 ≤ u) × (u ≤ term_count b) → argument_of (joined a b ps).entries t < t
        high r =
            let (u, e, l, m) = r in
            subst (λ (k : ℕ). argument_of (joined a b ps).entries k < k) (sym e)
            (⊎_elim
            (λ one. omega (arith, of_second_lem.argument u l m one, second.accepted.entry_below u (l, m)))
            (λ none. omega (arith, of_second_lem.no_argument u l m (omega arith), l))
            (le_cases 1 (argument_of b.entries u)))

    -- what a raised literal and a pair's name are terms
    both_raised : (l : Literal) (ls : List Literal) → ((k : Literal) → Memᴰ k ls → InTerms b k.left × InTerms b k.right) →
        Memᴰ l (map (raised (term_count a) (term_count a)) ls) → InTerms (joined a b ps) l.left × InTerms (joined a b ps) l.right
    unfolding raised
    both_raised l ls h m =
        let (k, own, e) = map-mem (raised (term_count a) (term_count a)) l ls m in
        let r = h k own in
        rw e (in_second k.left r.0, in_second k.right r.1)

    right-raised : (l : Literal) → Memᴰ l (map (raised 0 (term_count a)) b.fields) → ((1 ≤ l.left) × (l.left ≤ 8)) × InTerms (joined a b ps) l.right
    unfolding raised
    right-raised l m =
        let (k, own, e) = map-mem (raised 0 (term_count a)) l b.fields m in
        rw (e, zero-add k.left) (second.accepted.field_number k own, in_second k.right (second.accepted.field_term k own))

    of_pair : (l : Literal) → Memᴰ l (map (pair_literal (term_count a)) ps) → InTerms (joined a b ps) l.left × InTerms (joined a b ps) l.right
    unfolding pair_literal
    of_pair l m =
        let (p, own, e) = map-mem (pair_literal (term_count a)) l ps m in
        let r = paired p own in
        rw e (in_first p.first r.0, in_second p.second r.1)

    both_first : (l : Literal) → InTerms a l.left × InTerms a l.right → InTerms (joined a b ps) l.left × InTerms (joined a b ps) l.right
    both_first l h = (in_first l.left h.0, in_first l.right h.1)

    -- each literal of the whole is about link 1
    raised-one : (i j : ℕ) (ls : List Literal) → AboutOne ls → AboutOne (map (raised i j) ls)
    unfolding raised
    raised-one i j ls h l m = let (k, own, e) = map-mem (raised i j) l ls m in ap (λ (x : Literal). x.link) e ∙ h k own

    pair_one : AboutOne (map (pair_literal (term_count a)) ps)
    unfolding pair_literal
    pair_one l m = let (p, own, e) = map-mem (pair_literal (term_count a)) l ps m in ap (λ (x : Literal). x.link) e

    both_one : (ls ms : List Literal) → AboutOne ls → AboutOne ms → AboutOne (ls ++ ms)
    both_one ls ms h g l m = ⊎_elim (h l) (g l) (Memᴰ.append_cases ls m)

    pub joined_linked : OneLinked (joined a b ps)
    unfolding joined
    joined_linked =
        let f = first.one_linked in
        let g = second.one_linked in
        record {
          links = refl;
          entries = refl;
          equalities = both_one _ _ f.equalities (both_one _ _ (raised-one _ _ _ g.equalities) pair_one);
          reachability = both_one _ _ f.reachability (raised-one _ _ _ g.reachability);
          fields = both_one _ _ f.fields (raised-one _ _ _ g.fields);
        }

    pub joined_accepted : Accepted (joined a b ps)
    unfolding joined link_of
    joined_accepted =
        record {
          term_count_lem = small;
          some_link = omega arith;
          entry_below = entry_below;
          entry_linked = λ t h one. (omega arith, omega arith);
          equal_terms =
              λ l m. ⊎_elim (λ x. both_first l (first.accepted.equal_terms l x))
              (λ x. ⊎_elim (both_raised l b.equalities second.accepted.equal_terms) (of_pair l) (Memᴰ.append_cases (map (raised (term_count a) (term_count a)) b.equalities) x))
              (Memᴰ.append_cases a.equalities m);
          reach_terms =
              λ l m. ⊎_elim (λ x. both_first l (first.accepted.reach_terms l x)) (both_raised l b.reachability second.accepted.reach_terms) (Memᴰ.append_cases a.reachability m);
          reach_linked = λ l m. let e = joined_linked.reachability l m in (omega arith, omega arith);
          field_number = λ l m. ⊎_elim (first.accepted.field_number l) (λ x. (right-raised l x).0) (Memᴰ.append_cases a.fields m);
          field_term = λ l m. ⊎_elim (λ x. in_first l.right (first.accepted.field_term l x)) (λ x. (right-raised l x).1) (Memᴰ.append_cases a.fields m);
        }

-- two queries and pairs of their terms that can be joined
module _ (first second pairs : List ℕ) (ps : List Pair) (both : BothAccepted first second) (listed : ListsPairs first second pairs ps) where
  pub all_paired : (p : Pair) → Memᴰ p ps → Paired (decode first) (decode second) p
  all_paired p m = (listed.first_terms p m, listed.second_terms p m)

  pub one_encodable : Limits (as_one first second ps) → Encodable (as_one first second ps)
  one_encodable l =
      let a = accepted_encodable first both.0 in
      let b = accepted_encodable second both.1 in
      record {
        accepted = joined_accepted (decode first) (decode second) ps a b all_paired l.terms;
        one_linked = joined_linked (decode first) (decode second) ps a b all_paired l.terms;
        within = limits_within (as_one first second ps) l;
      }

-- The tests of a choice, in the order in which the code asks them: what each answers, of the sections where they stand, is what the
-- definition says of the query.
use Prim.Native.Nat.{ℕ, ◌+◌, ◌-◌, ◌≤◌, ◌<◌}
use mathlib.Core.Path.{◌≡◌, sym, ◌∙◌, subst}
use mathlib.Core.Bool.{Bool, true, false}
use mathlib.Core.List.{List}
use Rattle.logic.specs.Search.{any}
use Rattle.logic.specs.Query.{Literal, decode}
use Rattle.between_search.specs.Bytes.{triples}
use Rattle.between_search.specs.Tests.{used, breaks, nil_breaks, field_breaks, pair_breaks, triple_breaks}
use Rattle.between_search.specs.Search.{entry}
use Rattle.between_tests.specs.Tables.{Stepped, Opposed, literals_in}
use Rattle.between_seek.specs.declared.Linked.{Linked}
use Rattle.between_seek.specs.Answers.{query_in, Sized, Tested}
use Rattle.between_seek.proofs.Laws.{breaks_unnamed, breaks-nil, breaks-field, breaks-equal, breaks_reach, breaks_between}
use Rattle.between_seek.proofs.Sections.{equal_section, reach_section, field_section}

module _ (base between : List ℕ) (apart : List Bool) (h : Linked) (nodes : List ℕ) (t : ℕ) (sized : Sized base between apart h.q) (tested : Tested h nodes) where
  abbrev node : ℕ → ℕ
  node = entry nodes

  abbrev link : ℕ → ℕ
  link = entry h.links

  abbrev Breaks : Bool
  Breaks = breaks (query_in base between) h.q.m (entry h.links) (entry nodes) h.q.l.terms t

  -- what a test of equalities (`most` is 0) or of reachability literals (5) answers
  abbrev OfPairs : Bool → ℕ → ℕ → ℕ → Type 0
  OfPairs r most at count = (f : ℕ → ℕ) → Stepped h.steps f → r ≡ any (pair_breaks f (entry nodes) most t) (literals_in base at count)

  module _ (k : ℕ) (counted : k ≡ used (entry nodes) t) where
    pub by_unnamed : k + (h.q.l.terms - t) < h.q.m → true ≡ Breaks
    by_unnamed l = breaks_unnamed _ _ _ _ _ _ (subst (λ (j : ℕ). j + (h.q.l.terms - t) < h.q.m) counted l)

    module _ (many : h.q.m ≤ k + (h.q.l.terms - t)) (a : Bool) (of_nil : a ≡ nil_breaks (decode base).entries (entry h.links) (entry nodes) t) where
      named : h.q.m ≤ used node t + (h.q.l.terms - t)
      named = subst (λ (j : ℕ). h.q.m ≤ j + (h.q.l.terms - t)) counted many

      pub by_nil : a ≡ true → true ≡ Breaks
      by_nil e = breaks-nil _ _ _ _ _ _ named (sym of_nil ∙ e)

      module _ (no-nil : a ≡ false) (b : Bool) (of_Fields : (fields : List Literal) → Opposed apart fields → b ≡ field_breaks fields (entry nodes) t) where
        nil : nil_breaks (decode base).entries link node t ≡ false
        nil = sym of_nil ∙ no-nil

        field : (x : Bool) → b ≡ x → field_breaks (decode base).fields node t ≡ x
        field x e =
            field_section base h.q.l sized.given.entered.laid (λ fs. field_breaks fs node t) x
            (sym (of_Fields _ sized.given.opposed) ∙ e)

        pub by_field : b ≡ true → true ≡ Breaks
        by_field e = breaks-field _ _ _ _ _ _ named nil (field true e)

        module _ (no_field : b ≡ false) (c : Bool) (of_equal : OfPairs c 0 h.q.l.equal_at h.q.l.equal_count) where
          equal : (x : Bool) → c ≡ x → any (pair_breaks link node 0 t) (decode base).equalities ≡ x
          equal x e =
              equal_section base h.q.l sized.given.entered.laid (any (pair_breaks link node 0 t)) x
              (sym (of_equal link tested.stepped) ∙ e)

          pub by_equal : c ≡ true → true ≡ Breaks
          by_equal e = breaks-equal _ _ _ _ _ _ named nil (field false no_field) (equal true e)

          module _ (no_equal : c ≡ false) (d : Bool) (of_reach : OfPairs d 5 h.q.l.reach_at h.q.l.reach_count) where
            reach : (x : Bool) → d ≡ x → any (pair_breaks link node 5 t) (decode base).reachability ≡ x
            reach x e =
                reach_section base h.q.l sized.given.entered.laid (any (pair_breaks link node 5 t)) x
                (sym (of_reach link tested.stepped) ∙ e)

            pub by_reach : d ≡ true → true ≡ Breaks
            by_reach e = breaks_reach _ _ _ _ _ _ named nil (field false no_field) (equal false no_equal) (reach true e)

            pub by_between : d ≡ false → (e : Bool) → ((f : ℕ → ℕ) → Stepped h.steps f → e ≡ any (triple_breaks f (entry nodes) t) (triples between)) → e ≡ Breaks
            by_between no_reach e of_between =
                of_between link tested.stepped
                ∙ breaks_between (query_in base between) _ _ _ _ _ named nil (field false no_field) (equal false no_equal) (reach false no_reach)

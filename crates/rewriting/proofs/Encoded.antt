-- The rewritten query can be written: its numbers are as they should be, and where there is room it keeps the limits. Assumes nothing.
use Prim.Native.Nat.{ℕ, suc, ◌≤◌, ◌<◌}
use native.Mathlib.Omega.{arith}
use mathlib.Core.Path.{◌≡◌, ap, ◌∙◌}
use mathlib.Core.Logic.{⊎_elim}
use mathlib.Core.Bool.{true}
use mathlib.Core.List.Memᴰ
use mathlib.Core.List.{List, [], ◌∷◌, map, Memᴰ}
use lib.ListN.{length, length-append}
use borrow.Author.Tests.{leb-true, le-leb}
use Rattle.logic.specs.Query.{Literal, Query, term_count, argument_of, link_of}
use Rattle.theory.proofs.Basics.Search.{and_left, and_right, and_intro, map-mem}
use Rattle.theory.proofs.Basics.Compare.{le_cases}
use Rattle.theory.proofs.Query.Tied.{Accepted, InTerms, InLinks, ToEight}
use Rattle.theory.proofs.Query.Entries.{argument_range}
use Rattle.theory.proofs.Soundness.Value.{accepted_below}
use Rattle.encoding.specs.QueryBytes.{encode}
use Rattle.encoding.proofs.Encoded.{Limits, limits_within, AboutOne, OneLinked, Encodable}
use Rattle.rewriting.specs.OldQuery.{OldQuery}
use Rattle.rewriting.specs.Rewritten.{as_field, with_fresh, rewritten, rewrite}
use Rattle.rewriting.specs.Call.{has_room}
use Rattle.rewriting.proofs.Fresh.{argument_same}

module _ (q : Query) (ok : Accepted q) (booleans : List Literal) (numbered : (l : Literal) → Memᴰ l booleans → ToEight l.left) where
  abbrev fresh : ℕ
  fresh = suc (term_count q)

  pub count_fresh : term_count (with_fresh q booleans) ≡ fresh
  unfolding with_fresh term_count
  count_fresh = length-append q.entries.terms (0 ∷ []) ∙ omega arith

  old_term : (t : ℕ) → InTerms q t → InTerms (with_fresh q booleans) t
  old_term t r = (r.0, omega (arith, count_fresh, r.1))

  both_old : (l : Literal) → InTerms q l.left × InTerms q l.right → InTerms (with_fresh q booleans) l.left × InTerms (with_fresh q booleans) l.right
  both_old l r = (old_term l.left r.0, old_term l.right r.1)

  entry_below : (t : ℕ) → InTerms (with_fresh q booleans) t → argument_of (with_fresh q booleans).entries t < t
  unfolding with_fresh
  entry_below t r =
      rw (argument_same q.entries t)
      (⊎_elim (λ one. accepted_below q ok t one) (λ none. omega (arith, r.0)) (le_cases 1 (argument_of q.entries t)))

  entry_linked : (t : ℕ) → InTerms (with_fresh q booleans) t → 1 ≤ argument_of (with_fresh q booleans).entries t → InLinks q (link_of q.entries t)
  unfolding with_fresh term_count
  entry_linked t r h =
      let one : 1 ≤ argument_of q.entries t = rw (argument_same q.entries t) at h in
      ok.entry_linked t (argument_range q.entries t one) one

  appended : (l : Literal) → Memᴰ l (map (as_field fresh) booleans) → ToEight l.left × InTerms (with_fresh q booleans) l.right
  unfolding as_field
  appended l m =
      let (b, own, e) = map-mem (as_field fresh) l booleans m in
      rw e (numbered b own, (omega arith, omega (arith, count_fresh)))

  -- the form of 01 stays
  fresh_linked : OneLinked q → AboutOne booleans → OneLinked (with_fresh q booleans)
  unfolding with_fresh as_field
  fresh_linked f one =
      record {
        links = f.links;
        entries = f.entries;
        equalities = f.equalities;
        reachability = f.reachability;
        fields =
            λ l m. ⊎_elim (f.fields l) (λ x. let (b, own, e) = map-mem (as_field fresh) l booleans x in ap (λ (k : Literal). k.link) e ∙ one b own)
            (Memᴰ.append_cases q.fields m);
      }

  fresh_accepted : term_count (with_fresh q booleans) ≤ 16 → Accepted (with_fresh q booleans)
  unfolding with_fresh link_of
  fresh_accepted small =
      record {
        term_count_lem = small;
        some_link = ok.some_link;
        entry_below = entry_below;
        entry_linked = entry_linked;
        equal_terms = λ l m. both_old l (ok.equal_terms l m);
        reach_terms = λ l m. both_old l (ok.reach_terms l m);
        reach_linked = ok.reach_linked;
        field_number = λ l m. ⊎_elim (ok.field_number l) (λ x. (appended l x).0) (Memᴰ.append_cases q.fields m);
        field_term = λ l m. ⊎_elim (λ x. old_term l.right (ok.field_term l x)) (λ x. (appended l x).1) (Memᴰ.append_cases q.fields m);
      }

-- the room that was looked for
pub record Room (room : ℕ) (q : Query) : Type 0 where
  pub terms : term_count q ≤ 16
  pub fields : length q.fields ≤ 60
  pub output : length (encode q) ≤ room

pub room_has : (room : ℕ) (q : Query) → has_room room q ≡ true → Room room q
unfolding has_room
room_has room q h =
    let two = and_left _ _ h in
    record {
      terms = leb-true _ 16 (and_left _ _ two);
      fields = leb-true _ 60 (and_right _ _ two);
      output = leb-true _ room (and_right _ _ h);
    }

pub room_intro : (room : ℕ) (q : Query) → Room room q → has_room room q ≡ true
unfolding has_room
room_intro room q r = and_intro (and_intro (le-leb _ 16 r.terms) (le-leb _ 60 r.fields)) (le-leb _ room r.output)

rewritten_encodable : (q : Query) (booleans : List Literal) → Accepted q → OneLinked q → AboutOne booleans → Limits q →
    ((l : Literal) → Memᴰ l booleans → ToEight l.left) → term_count (rewritten q booleans) ≤ 16 → length (rewritten q booleans).fields ≤ 60 →
    Accepted (rewritten q booleans) × OneLinked (rewritten q booleans) × Limits (rewritten q booleans)
unfolding rewritten with_fresh
rewritten_encodable q [] ok f one l numbered terms fields = (ok, f, l)
rewritten_encodable q (b ∷ booleans) ok f one l numbered terms fields = (
  fresh_accepted q ok (b ∷ booleans) numbered terms,
  fresh_linked q ok (b ∷ booleans) numbered f one,
  record { terms = terms; equalities = l.equalities; reachability = l.reachability; fields = fields },
)

module _ (o : OldQuery) (ok : Accepted o.base) (f : OneLinked o.base) (one : AboutOne o.booleans) (l : Limits o.base)
    (numbered : (l : Literal) → Memᴰ l o.booleans → ToEight l.left) (room : ℕ) (r : Room room (rewrite o)) where
  all : Accepted (rewrite o) × OneLinked (rewrite o) × Limits (rewrite o)
  unfolding rewrite
  all = rewritten_encodable o.base o.booleans ok f one l numbered r.terms r.fields

  pub rewrite_limits : Limits (rewrite o)
  rewrite_limits = all.2

  pub rewrite_encodable : Encodable (rewrite o)
  rewrite_encodable = record { accepted = all.0; one_linked = all.1; within = limits_within (rewrite o) all.2 }

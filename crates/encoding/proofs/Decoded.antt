-- What bytes that are accepted say can be written again, and so can a query with fewer of its literals. Assumes nothing.
use Prim.Native.Nat.{ℕ, zero, suc, ◌*◌, ◌≤◌}
use native.Mathlib.Omega.{arith}
use mathlib.Core.Path.{◌≡◌, refl, sym, ap, ◌∙◌, subst}
use mathlib.Core.Bool.{true}
use mathlib.Core.List.{List, [], ◌∷◌, Memᴰ}
use mathlib.Core.Option.{some}
use lib.ListN.{length}
use Rattle.logic.specs.Search.{at, is_some}
use Rattle.logic.specs.Query.{Literal, Query, term_count, Layout, faulty, parts, Section, four_sections, five_sections, sections, first_byte, layout_of, literals, section, query_of, decode}
use Rattle.logic.specs.Calls.{accepts, accepts_by}
use Rattle.theory.proofs.Basics.Search.{none-some}
use Rattle.theory.proofs.Query.Bytes.{Part, retired_number, literals-link}
use Rattle.theory.proofs.Query.AcceptedBytes.{accepted, query-passes, five_laid}
use Rattle.encoding.specs.QueryBytes.{encode}
use Rattle.encoding.proofs.Encoded.{Limits, limits_within, within_limits_lem, OneLinked, Encodable, passed}

-- how many literals a section has
literals-count : (c : ℕ) (bytes : List ℕ) → length bytes ≡ c * 3 → length (literals bytes) ≤ c
unfolding literals
literals-count c [] e = omega arith
literals-count c (s ∷ []) e = omega arith
literals-count c (s ∷ a ∷ []) e = omega arith
literals-count zero (s ∷ a ∷ b ∷ rest) e = absurd (omega arith)
literals-count (suc c) (s ∷ a ∷ b ∷ rest) e = omega (arith, literals-count c rest (omega arith))

-- bytes of sections are those of a query in the form of 01
pub layout_linked : (l : Layout) → OneLinked (query_of l)
unfolding query_of literals
layout_linked (faulty k place) =
    record { links = refl; entries = refl; equalities = literals-link []; reachability = literals-link []; fields = literals-link [] }
layout_linked (parts ps) =
    record {
      links = refl;
      entries = refl;
      equalities = literals-link (section ps 1);
      reachability = literals-link (section ps 2);
      fields = literals-link (section ps 3);
    }

pub decode_linked : (bytes : List ℕ) → OneLinked (decode bytes)
unfolding decode
decode_linked bytes = layout_linked (layout_of bytes)

-- the parts of bytes that are laid out and allowed, section by section
pub record Parts (bytes : List ℕ) : Type 0 where
  pub found : List (List ℕ)
  pub laid : layout_of bytes ≡ parts found
  pub part : (i : ℕ) (s : Section) → at (sections (first_byte bytes)) (suc i) ≡ some s → Part s (section found i)

module _ (bytes : List ℕ) (h : accepts bytes ≡ true) where
  parts_limited : (n : ℕ) (ps : List (List ℕ)) → ((i : ℕ) (s : Section) → at (sections n) (suc i) ≡ some s → Part s (section ps i)) → Limits (query_of (parts ps))
  unfolding query_of term_count sections five_sections four_sections at
  parts_limited n ps part =
      record {
        terms = let p = part 0 _ refl in omega (arith, p.within, p.sized);
        equalities = let p = part 1 _ refl in omega (arith, p.within, literals-count p.count (section ps 1) p.sized);
        reachability = let p = part 2 _ refl in omega (arith, p.within, literals-count p.count (section ps 2) p.sized);
        fields = let p = part 3 _ refl in omega (arith, p.within, literals-count p.count (section ps 3) p.sized);
      }

  pub accepted_parts : Parts bytes
  unfolding layout_of sections five_sections
  accepted_parts =
      let l = five_laid 0 26 retired_number bytes (query-passes bytes h) in
      record { found = l.ps; laid = l.laid; part = l.part }

  pub accepted_limits : Limits (decode bytes)
  unfolding decode
  accepted_limits =
      let p = accepted_parts in
      subst Limits (ap query_of (sym p.laid)) (parts_limited (first_byte bytes) p.found p.part)

  -- what accepted bytes say can be written
  pub accepted_encodable : Encodable (decode bytes)
  accepted_encodable = record { accepted = accepted bytes h; one_linked = decode_linked bytes; within = limits_within (decode bytes) accepted_limits }

-- what stands at a place of a list is one of it
pub at_own : {A : Type 0} (xs : List A) (k : ℕ) (x : A) → at xs k ≡ some x → Memᴰ x xs
unfolding at
at_own xs zero x e = absurd (none-some e)
at_own [] (suc k) x e = absurd (none-some e)
at_own (y ∷ xs) (suc zero) x e = let q : x ≡ y = cc in Memᴰ.head q
at_own (y ∷ xs) (suc (suc k)) x e = Memᴰ.tail (at_own xs (suc k) x e)

-- and the place is one of the list's
pub at-within : {A : Type 0} (xs : List A) (k : ℕ) (x : A) → at xs k ≡ some x → (1 ≤ k) × (k ≤ length xs)
unfolding at
at-within xs zero x e = absurd (none-some e)
at-within [] (suc k) x e = absurd (none-some e)
at-within (y ∷ xs) (suc zero) x e = (omega arith, omega arith)
at-within (y ∷ xs) (suc (suc k)) x e = let r = at-within xs (suc k) x e in (omega arith, omega arith)

-- each of some literals is one of others, and they are no more
pub record Fewer (ls ms : List Literal) : Type 0 where
  pub no_more : length ls ≤ length ms
  pub own : (l : Literal) → Memᴰ l ls → Memᴰ l ms

-- a query of the same terms with fewer literals in each section
pub record Part-of (r q : Query) : Type 0 where
  pub links : r.links ≡ q.links
  pub entries : r.entries ≡ q.entries
  pub equalities : Fewer r.equalities q.equalities
  pub reachability : Fewer r.reachability q.reachability
  pub fields : Fewer r.fields q.fields

pub part_encodable : (q r : Query) → Part-of r q → Encodable q → Encodable r
unfolding term_count
part_encodable q r p ok =
    let a = ok.accepted in
    let l = within_limits_lem q ok.within in
    record {
      accepted =
          record {
            term_count_lem = rw p.entries a.term_count_lem;
            some_link = rw p.links a.some_link;
            entry_below = rw p.entries a.entry_below;
            entry_linked = rw (p.links, p.entries) a.entry_linked;
            equal_terms = λ x m. rw p.entries (a.equal_terms x (p.equalities.own x m));
            reach_terms = λ x m. rw p.entries (a.reach_terms x (p.reachability.own x m));
            reach_linked = λ x m. rw p.links (a.reach_linked x (p.reachability.own x m));
            field_number = λ x m. a.field_number x (p.fields.own x m);
            field_term = λ x m. rw p.entries (a.field_term x (p.fields.own x m));
          };
      one_linked =
          let f = ok.one_linked in
          record {
            links = p.links ∙ f.links;
            entries = rw p.entries f.entries;
            equalities = λ x m. f.equalities x (p.equalities.own x m);
            reachability = λ x m. f.reachability x (p.reachability.own x m);
            fields = λ x m. f.fields x (p.fields.own x m);
          };
      within =
          limits_within r
          (record {
            terms = rw p.entries l.terms;
            equalities = omega (arith, p.equalities.no_more, l.equalities);
            reachability = omega (arith, p.reachability.no_more, l.reachability);
            fields = omega (arith, p.fields.no_more, l.fields);
          });
    }

-- what is written is accepted
pub encoded_accepts : (q : Query) → Encodable q → accepts (encode q) ≡ true
unfolding accepts_by is_some
encoded_accepts q ok = rw (passed q ok (record { order = []; query = encode q; room = 0 }) refl)

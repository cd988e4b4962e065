-- The checks of three links from those of any form: 22 stands between 4 and 5.
use Prim.Native.Nat.{ℕ, ◌+◌, ◌*◌, ◌≤◌}
use native.Mathlib.Omega.{arith}
use mathlib.Core.Path.{◌≡◌, refl, sym, ap, ◌∙◌, subst}
use mathlib.Core.Logic.{inr}
use mathlib.Core.List.{List, [], ◌∷◌}
use Rattle.std.specs.Prelude.{Ok, Err}
use mathlib.Core.Option.{Option, none, some, Option-elim}
use lib.ListN.{length, take, drop, length-drop}
use lib.Seq.{length-take-le}
use Rattle.logic.specs.Search.{or_else, first_of}
use Rattle.logic.specs.Query.{faulty, parts, first_byte, layout_by, fault_in, layout_fault, boolean_section, section}
use Rattle.logic.specs.Calls.{Input, Answer, layout_check, form_checks, refused, refusal_of}
use Rattle.logic.specs.ThreeLinks.{link_sections, link_fault, link_check, link_checks, linked_query, decode_links, three_link_form}
use Rattle.theory.proofs.Query.ThreeLinks.{link_sections_excesses}
use Rattle.entries.specs.declared.Linked.TheVariants as linked
use Rattle.entries.specs.Links.{links_from}
use Rattle.entries.proofs.Links.{entry_links, reach_links}
use Rattle.query.specs.declared.Layout.{Layout}
use Rattle.query.specs.declared.FullLayout.{FullLayout}
use Rattle.query.specs.Forms.{entry_kind, reach_kind, form_by}
use Rattle.refusals.specs.declared.Refusal.{Refusal}
use Rattle.refusals.specs.Numbers.{number_of}
use Rattle.query.specs.Sections.{Stands, Sections}
use Rattle.query_checks.specs.Answers.{ByteAnswer}
use Rattle.query_checks.proofs.Checks.{layout_refused, laid_out, part_is}
use Rattle.link_query.specs.Said.{entry_width, reach_width, entries_by, reach_by, said, Within}
use Rattle.link_query.specs.Answers.{Taken, CheckedBy}

-- with three links the five sections are those of R-11
pub three_form : link_sections ≡ form_by 3 0 26
unfolding link_sections boolean_section form_by entry_kind reach_kind
three_form = refl

module _ (bytes : List ℕ) (i : Input) (q : i.query ≡ bytes) where
  -- where 22 does not stand, the other checks answer
  pub link_free : link_fault (layout_by link_sections bytes) ≡ none → refusal_of link_checks i ≡ refusal_of (form_checks link_sections) i
  unfolding refusal_of link_checks link_check form_checks first_of or_else Option-elim
  link_free e = rw (q, e)

  pub link_refused : (ps : List (List ℕ)) (place : ℕ) → layout_by link_sections bytes ≡ parts ps → link_fault (layout_by link_sections bytes) ≡ some place → refusal_of link_checks i ≡ some (refused 22 place)
  unfolding refusal_of link_checks link_check layout_check layout_fault fault_in first_of or_else Option-elim
  link_refused ps place laid e = rw (q, e, laid)

  pub front_refused : (k place : ℕ) → layout_by link_sections bytes ≡ faulty k place → refusal_of link_checks i ≡ some (refused k place)
  unfolding link_fault
  front_refused k place e =
      link_free (ap link_fault e) ∙ layout_refused link_sections bytes k place (link_sections_excesses (first_byte bytes)) e i q

-- Where the sections stand

module _ (full : FullLayout) (bytes : List ℕ) (s : Sections full bytes) (few : full.boolean_count ≤ 0) (three : full.layout.links ≡ 3) where
  abbrev l : Layout
  l = full.layout

  pub terms_stand : Stands bytes 16 2 0 l.terms s.second
  unfolding entry_kind
  terms_stand = rw three at s.terms

  pub reach_stands : Stands bytes 60 4 s.third l.reach_count s.fourth
  unfolding reach_kind
  reach_stands = rw three at s.reachability

  abbrev link_parts : List (List ℕ)
  link_parts =
      take (l.terms * 2) (drop 1 bytes)
      ∷ take (l.equal_count * 3) (drop (s.second + 1) bytes)
      ∷ take (l.reach_count * 4) (drop (s.third + 1) bytes)
      ∷ take (l.field_count * 3) (drop (s.fourth + 1) bytes)
      ∷ take (full.boolean_count * 2) (drop (s.fifth + 1) bytes)
      ∷ []

  pub links_laid : layout_by link_sections bytes ≡ parts link_parts
  unfolding link_sections boolean_section form_by entry_kind reach_kind
  links_laid = rw three at (laid_out full bytes s 0 26 few)

  sized : (count width at : ℕ) → at + count * width ≤ length bytes → length (take (count * width) (drop at bytes)) ≡ count * width
  sized count width at h = length-take-le (count * width) (drop at bytes) (rw length-drop (omega arith))

  -- the search of the code is the definition's
  pub link_fault_is : link_fault (layout_by link_sections bytes) ≡ or_else (links_from linked.Terms bytes l.terms 1) (links_from linked.Pairs bytes l.reach_count l.reach_at)
  unfolding link_fault section
  link_fault_is =
      let t = terms_stand in
      let e = s.equalities in
      let r = reach_stands in
      let first = sized l.terms 2 1 (omega (arith, t.fits, t.next_is)) in
      let second = sized l.equal_count 3 (s.second + 1) (omega (arith, e.fits, e.next_is)) in
      let place : length (take (l.terms * 2) (drop 1 bytes)) + length (take (l.equal_count * 3) (drop (s.second + 1) bytes)) + 3 ≡ s.third + 1 =
      omega (arith, first, second, t.next_is, e.next_is) in
      rw (links_laid, place, entry_links bytes l.terms 1 (omega (arith, t.fits, t.next_is)), reach_links bytes l.reach_count (s.third + 1) (omega (arith, r.fits, r.next_is)), s.reach_at)

  pub links-within : Within l bytes
  unfolding entry_width reach_width entry_kind reach_kind
  links-within =
      record {
        one_or_three = inr three;
        terms_within = s.terms.within;
        entries_fit = let t = terms_stand in rw three (omega (arith, t.fits, t.next_is));
        equal_within = s.equalities.within;
        equal_fit = let t = s.equalities in omega (arith, t.fits, t.next_is, s.equal_at);
        reach_within = s.reachability.within;
        reach_fit = let t = reach_stands in rw three (omega (arith, t.fits, t.next_is, s.reach_at));
        field_within = s.fields.within;
        field_fit = let t = s.fields in omega (arith, t.fits, t.next_is, s.field_at);
      }

  part_at : (count width at place : ℕ) → place ≡ at + 1 → take (width * count) (drop place bytes) ≡ take (count * width) (drop (at + 1) bytes)
  part_at count width at place e = sym (part_is full bytes s 0 26 few count width at place e)

  pub links-said : said l bytes ≡ decode_links bytes
  unfolding said entries_by reach_by entry_width reach_width entry_kind reach_kind decode_links linked_query section
  links-said = rw (
    links_laid,
    three,
    part_at l.terms 2 0 1 refl,
    part_at l.equal_count 3 s.second l.equal_at s.equal_at,
    part_at l.reach_count 4 s.third l.reach_at s.reach_at,
    part_at l.field_count 3 s.fourth l.field_at s.field_at,
  )

  answered : link_fault (layout_by link_sections bytes) ≡ none → {o : Option Answer} →
      ((i : Input) → i.query ≡ bytes → refusal_of (form_checks (form_by l.links 0 26)) i ≡ o) → (i : Input) → i.query ≡ bytes → refusal_of link_checks i ≡ o
  answered free h i q = link_free bytes i q free ∙ rw (three_form, ← three) (h i q)

  -- where the walk from the front meets no refusal, 22 answers
  pub link_checked : (e : Refusal) → (number_of e.fault ≡ 22) × (link_fault (layout_by link_sections bytes) ≡ some e.place) → CheckedBy three_link_form (Err e) bytes
  link_checked e h = λ i q. link_refused bytes i q link_parts e.place links_laid h.1 ∙ rw h.0

  -- and then the search of the bytes
  pub byte_refused : (e : Refusal) → link_fault (layout_by link_sections bytes) ≡ none → ByteAnswer (Err e) full (form_by l.links 0 26) bytes → CheckedBy three_link_form (Err e) bytes
  byte_refused e free h = answered free h

  pub byte_passed : (m : FullLayout) → link_fault (layout_by link_sections bytes) ≡ none → ByteAnswer (Ok m) full (form_by l.links 0 26) bytes → Taken three_link_form m.layout bytes
  byte_passed m free h =
      subst (λ (f : FullLayout). Taken three_link_form f.layout bytes) (sym h.1) (record { free = answered free h.0; within = links-within; says = links-said })

-- The search for a byte that meets refusal k, section by section.
use Prim.Native.Nat.{ℕ, zero, suc, ◌+◌, ◌*◌}
use native.Mathlib.Nat.{suc-mul, zero-mul}
use native.Mathlib.Omega.{arith}
use mathlib.Core.Path.{◌≡◌, refl, sym, ap, ◌∙◌}
use mathlib.Core.Bool.{Bool, ◌&&◌}
use mathlib.Core.List.{List, [], ◌∷◌, ◌++◌}
use mathlib.Core.Option.{Option}
use lib.ListN.{length, drop, length-append}
use lib.Seq.{drop-drop}
use Rattle.logic.specs.Search.{from, or_else, flat_map}
use Rattle.logic.specs.Query.{Role, Section, count_role, roles_of, first_byte, role_fault, byte_fault}
use Rattle.entries.specs.declared.Kind.{Kind}
use Rattle.entries.specs.declared.Kind.TheVariants as kind
use Rattle.entries.specs.Entries.{width_of, roles_at, section_fault, Passes}
use Rattle.entries.proofs.Loops.{drop_next}
use Rattle.entries.proofs.Faults.{or_else_last, free_first, append_at, roles_regular}
use Rattle.entries.proofs.Passes.{both_none, both}
use Rattle.query.specs.declared.Layout.{Layout}
use Rattle.query.specs.declared.FullLayout.{FullLayout}
use Rattle.query.specs.Forms.{entry_kind, reach_kind, section_of, form_by}
use Rattle.query.specs.Sections.{Stands, Sections}
use Rattle.query_checks.specs.Answers.{PassesIn}

section_length : (kind : Kind) (n count i : ℕ) → length (flat_map (roles_at kind n) (from count i)) ≡ count * width_of kind
unfolding flat_map from
section_length kind n zero i = sym (zero-mul (width_of kind))
section_length kind n (suc count) i = rw (length-append, suc-mul) (omega (arith, roles_regular kind n i, section_length kind n count (suc i)))

module _ (k : ℕ) (kind : Kind) (n limit excess : ℕ) (ss : List Section) (bytes : List ℕ) (at place count next : ℕ) {within : ℕ} (stands : Stands bytes within (width_of kind) at count next) where
  -- the count is held to nothing
  behind_count : role_fault k at (roles_of (section_of kind n limit excess ∷ ss) (drop at bytes)) (drop at bytes) ≡ role_fault k (at + 1)
      (flat_map (roles_at kind n) (from count 1) ++ roles_of ss (drop next bytes)) (drop (at + 1) bytes)
  unfolding roles_of
  behind_count = ap (λ (rs : List Role). role_fault k at rs (drop at bytes)) roles_here ∙ free_first k bytes _ at stands.counted
    where
      roles_here : roles_of (section_of kind n limit excess ∷ ss) (drop at bytes) ≡ count_role ∷ (flat_map (roles_at kind n) (from count 1) ++ roles_of ss (drop next bytes))
      roles_here = rw (drop_next bytes at stands.counted, stands.count_is, drop-drop, stands.next_is)

  pub section_first : place ≡ at + 1 → role_fault k at (roles_of (section_of kind n limit excess ∷ ss) (drop at bytes)) (drop at bytes) ≡ or_else
      (section_fault k kind n place count bytes) (role_fault k next (roles_of ss (drop next bytes)) (drop next bytes))
  unfolding section_fault
  section_first e =
      rw e
      (behind_count
      ∙ append_at k (at + 1) (count * width_of kind) (flat_map (roles_at kind n) (from count 1)) (roles_of ss (drop next bytes)) bytes (section_length kind n count 1)
      ∙ ap (λ (m : ℕ). or_else (role_fault k (at + 1) (flat_map (roles_at kind n) (from count 1)) (drop (at + 1) bytes))
      (role_fault k m (roles_of ss (drop next bytes)) (drop m bytes))) (sym stands.next_is))

behind_last : (k at : ℕ) (bytes : List ℕ) (o : Option ℕ) → or_else o (role_fault k at (roles_of [] bytes) bytes) ≡ o
unfolding roles_of role_fault
behind_last k at bytes o = or_else_last o

-- the lowest byte that meets refusal k from the fifth section on, from the fourth, and so on to the first
module _ (k : ℕ) (full : FullLayout) (bytes : List ℕ) where
  abbrev pub from₅ : Option ℕ
  from₅ = section_fault k kind.Booleans full.layout.terms full.boolean_at full.boolean_count bytes

  abbrev pub from₄ : Option ℕ
  from₄ = or_else (section_fault k kind.Fields full.layout.terms full.layout.field_at full.layout.field_count bytes) from₅

  abbrev pub from₃ : Option ℕ
  from₃ = or_else (section_fault k (reach_kind full.layout.links) full.layout.terms full.layout.reach_at full.layout.reach_count bytes) from₄

  abbrev pub from₂ : Option ℕ
  from₂ = or_else (section_fault k kind.Pairs full.layout.terms full.layout.equal_at full.layout.equal_count bytes) from₃

  abbrev pub from₁ : Option ℕ
  from₁ = or_else (section_fault k (entry_kind full.layout.links) full.layout.terms 1 full.layout.terms bytes) from₂

  pub byte_faults : Sections full bytes → (most excess : ℕ) → byte_fault (form_by full.layout.links most excess) k bytes ≡ from₁
  unfolding byte_fault form_by first_byte
  byte_faults s most excess =
      ap (λ (n : ℕ). role_fault k 0 (roles_of (form_by links most excess n) bytes) bytes) s.terms.count_is
      ∙ section_first k (entry_kind links) n 16 3 _ bytes 0 1 n s.second s.terms refl
      ∙ ap (or_else _) (section_first k kind.Pairs n 60 3 _ bytes s.second _ _ s.third s.equalities s.equal_at
      ∙ ap (or_else _) (section_first k (reach_kind links) n 60 3 _ bytes s.third _ _ s.fourth s.reachability s.reach_at
      ∙ ap (or_else _) (section_first k kind.Fields n 60 3 _ bytes s.fourth _ _ s.fifth s.fields s.field_at
      ∙ ap (or_else _) (section_first k kind.Booleans n most excess [] bytes s.fifth _ _ (length bytes) s.booleans s.boolean_at
      ∙ behind_last k _ _ _))))
    where
      n : ℕ
      n = full.layout.terms

      links : ℕ
      links = full.layout.links

-- where the tests of the five sections pass, no byte meets a refusal
module _ (full : FullLayout) (bytes : List ℕ) (s : Sections full bytes) where
  abbrev l : Layout
  l = full.layout

  abbrev SectionPasses : Bool → Kind → ℕ → ℕ → Type 0
  SectionPasses b kind at count = Passes b (λ k. section_fault k kind l.terms at count bytes)

  pub sections_pass : (a b c d e : Bool) → SectionPasses a (entry_kind l.links) 1 l.terms →
      SectionPasses b kind.Pairs l.equal_at l.equal_count → SectionPasses c (reach_kind l.links) l.reach_at l.reach_count →
      SectionPasses d kind.Fields l.field_at l.field_count → SectionPasses e kind.Booleans full.boolean_at full.boolean_count →
      PassesIn ((((a && b) && c) && d) && e) l.links bytes
  sections_pass a b c d e pa pb pc pd pe most excess h k =
      let (h₄, he) = both _ e h in
      let (h₃, hd) = both _ d h₄ in
      let (h₂, hc) = both _ c h₃ in
      let (ha, hb) = both a b h₂ in
      byte_faults k full bytes s most excess
      ∙ both_none (pa ha k) (both_none (pb hb k) (both_none (pc hc k) (both_none (pd hd k) (pe he k))))

-- Six sections that pass their checks give all that the theory asks of the query.
use Prim.Native.Nat.{ℕ, zero, suc, ◌*◌, ◌≤◌}
use native.Mathlib.Omega.{arith}
use mathlib.Core.Path.{◌≡◌, refl, sym, ap, ◌∙◌, subst}
use mathlib.Core.Logic.{⊎_elim}
use mathlib.Core.List.Memᴰ
use mathlib.Core.List.{List, [], ◌∷◌, Memᴰ}
use lib.ListN.{length}
use Rattle.logic.specs.Search.{from, at, flat_map}
use Rattle.logic.specs.Query.{term_count, Role, Form, sign_role, term_role, four_sections, boolean_section, five_sections, sections, Layout, parts, first_byte, section, query_of}
use Rattle.theory.proofs.Query.Tied.{InTerms}
use Rattle.theory.proofs.Query.Bytes.{Allows, Allowed, Excesses, three_number, retired_number}
use Rattle.theory.proofs.Query.AcceptedBytes.{Passes, Orderly, LaidOut, four_excesses, form_laid, laid_accepted, term_allows}
use Rattle.between.specs.Meaning.{BetweenLiteral}
use Rattle.between_search.specs.Bytes.{between_section, six_sections, six_layout, triples, betweens_of, decode_six}
use Rattle.between_search.proofs.OneLink.{AcceptedSix}

triples-allowed : (sign x y z : Role) (c i : ℕ) (bytes : List ℕ) → length bytes ≡ c * 4 →
    Allowed (flat_map (λ j. sign ∷ x ∷ y ∷ z ∷ []) (from c i)) bytes → (l : BetweenLiteral) → Memᴰ l (triples bytes) → Allows x l.from
    × Allows y l.middle × Allows z l.to
unfolding flat_map from triples
triples-allowed sign x y z zero i [] e h l m = absurd (Memᴰ.not-nil m)
triples-allowed sign x y z zero i (s ∷ bytes) e h l m = absurd (omega arith)
triples-allowed sign x y z (suc c) i [] e h l m = absurd (Memᴰ.not-nil m)
triples-allowed sign x y z (suc c) i (s ∷ []) e h l m = absurd (Memᴰ.not-nil m)
triples-allowed sign x y z (suc c) i (s ∷ a ∷ []) e h l m = absurd (Memᴰ.not-nil m)
triples-allowed sign x y z (suc c) i (s ∷ a ∷ b ∷ []) e h l m = absurd (Memᴰ.not-nil m)
triples-allowed sign x y z (suc c) i (s ∷ a ∷ b ∷ d ∷ rest) e h l m =
    ⊎_elim (λ q. (rw q h.1.0, rw q h.1.1.0, rw q h.1.1.1.0)) (triples-allowed sign x y z c (suc i) rest (omega arith) h.1.1.1.1 l)
    (Memᴰ.cases_cons m)

-- the sections behind the first four
abbrev behind : Form
behind n = boolean_section 0 26 ∷ between_section n ∷ []

behind_orderly : Orderly behind
unfolding boolean_section between_section
behind_orderly = record { regular = λ n. (λ i. refl, (λ i. refl, tt)); excesses = λ n. (retired_number, (three_number, tt)) }

pub six_excesses : (n : ℕ) → Excesses (six_sections n)
unfolding six_sections sections five_sections four_sections
six_excesses = four_excesses behind behind_orderly

-- where no check of the six sections stands
module _ (bytes : List ℕ) (passes : Passes six_sections bytes) where
  laid : LaidOut behind bytes
  unfolding six_sections sections five_sections four_sections
  laid = form_laid behind behind_orderly bytes passes

  six_laid : six_layout bytes ≡ parts laid.ps
  unfolding six_layout six_sections sections five_sections four_sections
  six_laid = laid.laid

  pub terms_first : term_count (decode_six bytes).base ≡ first_byte bytes
  unfolding decode_six query_of term_count
  terms_first = ap (λ (l : Layout). term_count (query_of l)) six_laid ∙ laid.counted

  in_terms : (b : ℕ) → Allows (term_role (first_byte bytes)) b → InTerms (decode_six bytes).base b
  in_terms b h = subst (λ (n : ℕ). (1 ≤ b) × (b ≤ n)) (sym terms_first) (term_allows (first_byte bytes) b h)

  between_terms : (l : BetweenLiteral) → Memᴰ l (decode_six bytes).betweens → InTerms (decode_six bytes).base l.from
      × InTerms (decode_six bytes).base l.middle × InTerms (decode_six bytes).base l.to
  unfolding decode_six betweens_of four_sections between_section at
  between_terms l m =
      let p = laid.part 5 _ refl in
      let term : Role = term_role (first_byte bytes) in
      let a = triples-allowed sign_role term term term p.count 1 (section laid.ps 5) p.sized p.allowed l (subst (λ (x : Layout). Memᴰ l (betweens_of x)) six_laid m) in
      (in_terms l.from a.0, in_terms l.middle a.1, in_terms l.to a.2)

  six_link : (decode_six bytes).base.links ≡ 1
  unfolding decode_six query_of
  six_link = ap (λ (l : Layout). (query_of l).links) six_laid

  pub accepted_six : AcceptedSix (decode_six bytes)
  unfolding decode_six six_layout six_sections sections five_sections four_sections
  accepted_six = record { accepted = record { base = laid_accepted behind bytes laid; between_terms = between_terms }; one_link_lem = six_link }

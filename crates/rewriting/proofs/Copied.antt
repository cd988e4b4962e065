-- Old query bytes that pass their checks, section by section; so an old query without boolean literals is its own rewriting. Assumes
-- nothing.
use Prim.Native.Nat.{ℕ, suc}
use native.Mathlib.Omega.{arith}
use mathlib.Core.Path.{◌≡◌, refl, sym, ap, ap₂, ◌∙◌}
use mathlib.Core.Bool.{true}
use mathlib.Core.List.{List, [], ◌∷◌, ◌++◌, append-nil}
use mathlib.Core.Option.{some}
use lib.ListN.{length}
use Rattle.logic.specs.Search.{at}
use Rattle.logic.specs.Query.{Query, term_count, Section, term_role, number_role, four_sections, boolean_section, five_sections, parts, first_byte, layout_by, section, query_of}
use Rattle.logic.specs.Calls.{accepts}
use Rattle.theory.proofs.Query.Bytes.{Part}
use Rattle.encoding.specs.QueryBytes.{section_bytes, encode}
use Rattle.encoding.proofs.Encoded.{limits_within}
use Rattle.encoding.proofs.Decoded.{encoded_accepts}
use Rattle.encoding.proofs.Recovered.{Laid, none_left, one_more, laid, piece, literals_of, none_of}
use Rattle.rewriting.specs.OldQuery.{old_sections, accepts_old, flags, decode_old}
use Rattle.rewriting.specs.Rewritten.{rewritten, rewrite}
use Rattle.rewriting.proofs.OldBytes.{old_parts, layout_is, base_is, base_accepted, base_linked, base_limits, booleans_are, section-part, boolean_part_lem, flags-count}

-- the bytes of a query's first four sections, and of the booleans behind their count
unfoldable pub old_bytes : Query → List ℕ → List ℕ
old_bytes q part =
    (term_count q ∷ q.entries.terms)
    ++ (section_bytes q.equalities ++ (section_bytes q.reachability ++ (section_bytes q.fields ++ (length (flags part) ∷ part))))

written : (n : ℕ) (bytes : List ℕ) (ps : List (List ℕ)) → Laid (five_sections 60 3 n) bytes ps →
    ((i : ℕ) (s : Section) → at (five_sections 60 3 n) (suc i) ≡ some s → Part s (section ps i)) → old_bytes (query_of (parts ps)) (section ps 4) ≡ bytes
unfolding five_sections four_sections boolean_section query_of section old_bytes section_bytes term_count at
written n bytes ps (one_more c₁ p₁ e₁ (one_more c₂ p₂ e₂ (one_more c₃ p₃ e₃ (one_more c₄ p₄ e₄ (one_more c₅ p₅ e₅ none_left))))) part =
    let l₂ = literals_of (term_role n) (term_role n) c₂ p₂ e₂ (part 1 _ refl) in
    let l₃ = literals_of (term_role n) (term_role n) c₃ p₃ e₃ (part 2 _ refl) in
    let l₄ = literals_of number_role (term_role n) c₄ p₄ e₄ (part 3 _ refl) in
    piece {p = p₁} {p' = p₁} (omega (arith, e₁)) refl
    (piece l₂.0 l₂.1 (piece l₃.0 l₃.1 (piece l₄.0 l₄.1 (ap₂ (λ (x : ℕ) (xs : List ℕ). x ∷ xs) (flags-count c₅ p₅ e₅) (sym (append-nil p₅))))))

module _ (bytes : List ℕ) (h : accepts_old bytes ≡ true) where
  pub old_written : old_bytes (decode_old bytes).base (section (old_parts bytes h) 4) ≡ bytes
  unfolding layout_by old_sections
  old_written =
      ap (λ (q : Query). old_bytes q (section (old_parts bytes h) 4)) (base_is bytes h)
      ∙ written (first_byte bytes) bytes (old_parts bytes h) (laid (five_sections 60 3 (first_byte bytes)) 0 bytes (old_parts bytes h) (layout_is bytes h)) (section-part bytes h)

  module _ (empty : (decode_old bytes).booleans ≡ []) where
    no_part : section (old_parts bytes h) 4 ≡ []
    unfolding boolean_section
    no_part =
        let p = boolean_part_lem bytes h in
        sym (none_of (section (old_parts bytes h) 4) (omega (arith, p.sized, flags-count p.count (section (old_parts bytes h) 4) p.sized, ap length (sym (booleans_are bytes h) ∙ empty))))

    rewrite-none : rewrite (decode_old bytes) ≡ (decode_old bytes).base
    unfolding rewrite rewritten
    rewrite-none = ap (rewritten (decode_old bytes).base) empty

    pub copied : encode (rewrite (decode_old bytes)) ≡ bytes
    unfolding encode old_bytes flags
    copied = ap encode rewrite-none ∙ ap (old_bytes (decode_old bytes).base) (sym no_part) ∙ old_written

    pub copied_accepts : accepts bytes ≡ true
    copied_accepts =
        ap accepts (sym copied ∙ ap encode rewrite-none)
        ∙ encoded_accepts (decode_old bytes).base (record { accepted = base_accepted bytes h; one_linked = base_linked bytes; within = limits_within (decode_old bytes).base (base_limits bytes h) })

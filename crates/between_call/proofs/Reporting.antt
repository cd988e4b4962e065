-- The report's bytes are those of the heap that was found.
use Prim.Native.Nat.{ℕ, ◌≤◌, ◌<◌}
use native.Mathlib.Omega.{arith}
use mathlib.Core.Path.{◌≡◌, refl, sym, ap, ◌∙◌}
use mathlib.Core.Bool.{Bool, true, false, ◌&&◌}
use mathlib.Core.List.{List, map, Memᴰ}
use lib.ListN.{length, get_or, length-map}
use lib.Dec.{eqb}
use Rattle.logic.specs.Search.{◌and◌}
use Rattle.logic.specs.Query.{Literal, decode}
use Rattle.logic.specs.Facts.{terms}
use Rattle.logic.specs.Shown.{byte_of}
use Rattle.theory.proofs.Basics.Search.{from-mem, any_alike}
use Rattle.theory.proofs.Completeness.Placed.{length_from}
use Rattle.rows.specs.Square.{square}
use Rattle.query.specs.declared.Layout.{Layout}
use Rattle.query.proofs.Literals.{listed, fields-listed}
use Rattle.query.proofs.Ranges.{field_number_term}
use Rattle.heap_nodes.specs.Nodes.{node_of}
use Rattle.report.specs.Bytes.{field_held, literals_at, FieldsIn, sections}
use Rattle.report.proofs.Held.{byte_alike}
use Rattle.report.proofs.Successors.{map_alike}
use Rattle.between_search.specs.Search.{entry, data_byte, report_of}
use Rattle.between_tests.proofs.Laws.{node-read}
use Rattle.between_seek.specs.Answers.{query_in}
use Rattle.between_call.specs.Promise.{Reportable}

pub node_in : (nodes : List ℕ) (t u v : ℕ) → (v ≡ node_of nodes t) × (v < 256) → t ≡ u → v ≡ entry nodes u
node_in nodes t u v h e = node-read nodes t v h ∙ ap (entry nodes) e

-- the tests of a data literal, in the report's words and in the search's
and_are : (a b c : Bool) → a and b and c ≡ (a && b && c)
unfolding ◌and◌
and_are true true c = refl
and_are true false c = refl
and_are false b c = refl

pub terms-length : (m : ℕ) → length (terms m) ≡ m
unfolding terms
terms-length m = length_from m 1

module _ (l : Layout) (base links nodes : List ℕ) (ready : Reportable l base links nodes) where
  -- what the parts ask
  pub fields_in : FieldsIn base l.field_at l.field_count (entry nodes)
  fields_in i h =
      let r = field_number_term l base ready.laid ready.passes i h in
      let v = ready.few_nodes _ r.1.0 r.1.1 in
      (r.0.1, omega (arith, r.1.1, ready.laid.terms_within), omega (arith, v))

  pub few_successors : get_or links 0 0 ≤ 5
  unfolding entry
  few_successors = ready.few_links

  module _ (marks fields : List ℕ) (m : ℕ) (counted : m ≡ get_or links 0 0)
      (held : (v j : ℕ) → v ≤ 16 → j ≤ 16 → square marks v j ≡ field_held (entry nodes) (literals_at base l.field_at l.field_count) v j)
      (rows : (v : ℕ) → v ≤ m → get_or fields v 0 ≡ byte_of (square marks v) 1 8) where
    datum : (v : ℕ) → Memᴰ v (terms m) → get_or fields v 0 ≡ data_byte (decode base).fields (entry nodes) v
    unfolding terms data_byte field_held literals_at listed
    datum v h =
        let r = from-mem m 1 v h in
        let small : v ≤ 16 = omega (arith, r.1, few_successors, counted) in
        rows v (omega (arith, r.1))
        ∙ byte_alike (square marks v) _ 1 8 (λ j a b. held v j small (omega arith))
        ∙ ap (λ (ls : List Literal). byte_of (field_held (entry nodes) ls v) 1 8) (sym (fields-listed l base ready.laid))
        ∙ byte_alike _ _ 1 8 (λ j a b. any_alike _ _ (decode base).fields (λ k i. and_are k.plain (eqb k.left j) (eqb (entry nodes k.right) v)))

    pub report_is : (between : List ℕ) → sections l.terms (terms m) (map (λ t. get_or links t 0) (terms m)) (λ t. get_or nodes t 0)
        (λ t. get_or fields t 0) ≡ report_of (query_in base between) (record { links = links; nodes = nodes })
    unfolding report_of entry
    report_is between =
        rw (length-map (terms m) (λ t. get_or links t 0), terms-length m, map_alike _ _ (terms m) datum, ready.laid.term_count_lem, counted)

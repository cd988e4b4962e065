-- The sections of the report put together.
use Prim.Native.Nat.{ℕ, ◌+◌, ◌*◌, ◌≤◌}
use native.Mathlib.Nat.{mul-le-mul, le_refl}
use native.Mathlib.Omega.{arith}
use mathlib.Core.Path.{◌≡◌, sym, ap, ap₂, ◌∙◌}
use mathlib.Core.Bool.{Bool}
use mathlib.Core.List.{List, [], ◌∷◌, ◌++◌, map, Memᴰ}
use lib.ListN.{length, get_or, replicate, length-map}
use Rattle.logic.specs.Search.{flat_map}
use Rattle.logic.specs.Query.{Literal, Query, term_count}
use Rattle.logic.specs.Facts.{Facts, link_numbers, terms}
use Rattle.logic.specs.Calls.{padded}
use Rattle.logic.specs.Shown.{nodes, place_of, byte_of, field_byte, successors_shown, report}
use Rattle.theory.proofs.Basics.Search.{from-mem}
use Rattle.theory.proofs.Completeness.ShownNodes.{nodes-length}
use Rattle.facts.specs.declared.Facts as code
use Rattle.facts.specs.Path.{rep_of, path_of}
use Rattle.query.specs.declared.Layout.{Layout}
use Rattle.query.proofs.Literals.{listed}
use Rattle.query.proofs.Ranges.{field_number_term_of}
use Rattle.link_query.specs.Said.{said}
use Rattle.link_query.proofs.Said.{terms-said, fields-said}
use Rattle.heap_nodes.specs.Nodes.{node_of, marked, nodes_by, Numbers}
use Rattle.lent.specs.Appending.{Appends}
use Rattle.report.specs.Bytes.{field_held, literals_at, FieldsIn, Reportable, successors_among, all_successors, sections}
use Rattle.heap_nodes.proofs.Nodes.{nodes_by_lem, every_selected, every_length, marked_below}
use Rattle.report.proofs.Successors.{map_alike, successors_length, rows-length}
use Rattle.lent.proofs.Writing.{appends_then, appends_zeros}

-- five pieces, each behind the one before
pub sections_written : (room : ℕ) (b0 b1 b2 b3 b4 b5 : List ℕ) (n m count : ℕ) (ts rows : List ℕ) (g h : ℕ → ℕ) (p1 p2 p3 p4 : ℕ) → m ≡ length ts →
    count ≡ length rows → b0 ≡ replicate room 0 → length b1 ≡ length b0 → length b2 ≡ length b1 → length b3 ≡ length b2 → length b4 ≡ length b3 →
    (p1 ≡ 0 + 1 + count) × Appends b0 b1 0 (count ∷ rows) → (p2 ≡ p1 + 1 + n) × Appends b1 b2 p1 (n ∷ map g (terms n)) → (p3 ≡ p2 + 1 + m)
    × Appends b2 b3 p2 (m ∷ map h ts) → (p4 ≡ p3 + 1) × Appends b3 b4 p3 (1 ∷ []) → Appends b4 b5 p4 (0 ∷ []) → b5 ≡ padded room (sections n ts rows g h)
sections_written room b0 b1 b2 b3 b4 b5 n m count ts rows g h p1 p2 p3 p4 counted sized cleared l1 l2 l3 l4 s1 s2 s3 s4 s5 =
    let last = appends_then b3 b4 b5 p3 p4 (1 ∷ []) (0 ∷ []) l4 s4.0 s4.1 s5 in
    let third = appends_then b2 b3 b5 p2 p3 (m ∷ map h ts) (1 ∷ 0 ∷ []) l3 (omega (arith, s3.0, length-map ts h)) s3.1 last in
    let second = appends_then b1 b2 b5 p1 p2 (n ∷ map g (terms n)) ((m ∷ map h ts) ++ (1 ∷ 0 ∷ [])) l2 (omega (arith, s2.0, length-map (terms n) g, terms-length)) s2.1 third in
    let first = appends_then b0 b1 b5 0 p1 (count ∷ rows) ((n ∷ map g (terms n)) ++ ((m ∷ map h ts) ++ (1 ∷ 0 ∷ []))) l1 (omega (arith, s1.0, sized)) s1.1 second in
    appends_zeros b0 b5 room _ cleared first
    ∙ ap₂ (λ (j k : ℕ). padded room ((j ∷ rows) ++ ((n ∷ map g (terms n)) ++ ((k ∷ map h ts) ++ (1 ∷ 0 ∷ []))))) sized counted
  where
    terms-length : length (terms n) ≡ n
    terms-length = ap length (sym (every_selected n)) ∙ every_length n

-- as many successors as links and nodes
pub successors_counted : (n : ℕ) (s : Facts) (ts : List ℕ) → length (all_successors n s ts) ≡ s.links * length ts
successors_counted n s ts = rows-length (successors_among n s ts) (length ts) (successors_length n s ts) s.links

-- room for the sections of 16 terms and nodes is room for these
pub sections-room : (n m links room : ℕ) → n ≤ 16 → m ≤ 16 → 37 + 16 * links ≤ room → 5 + n + m + links * m ≤ room
sections-room n m links room h k r = omega (arith, mul-le-mul (le_refl links) k)

-- the report of a path of the query's links
report-sections : (q : Query) (s : Facts) → s.links ≡ q.links →
    sections (term_count q) (nodes (term_count q) s) (all_successors (term_count q) s (nodes (term_count q) s))
    (λ t. place_of (s.rep t) (nodes (term_count q) s)) (field_byte q s) ≡ report q s
unfolding report successors_shown successors_among
report-sections q s e =
    let n : ℕ = term_count q in
    let ts : List ℕ = nodes n s in
    let behind : List ℕ = (n ∷ map (λ t. place_of (s.rep t) ts) (terms n)) ++ ((length ts ∷ map (field_byte q s) ts) ++ (1 ∷ 0 ∷ [])) in
    ap (λ (k : ℕ). (k ∷ all_successors n s ts) ++ behind) (successors_counted n s ts)
    ∙ ap (λ (k : ℕ). (k * length ts ∷ flat_map (successors_shown n s) (link_numbers k)) ++ behind) e

module _ (l : Layout) (query : List ℕ) (s : code.Facts) (ready : Reportable l query s) where
  counted : l.terms ≡ term_count (said l query)
  counted = sym (terms-said l query ready.laid)

  -- what the parts ask
  pub fields_in : FieldsIn query l.field_at l.field_count (rep_of s.rep)
  fields_in i h =
      let r = field_number_term_of ready.passes counted _ l.field_count i h (fields-said l query ready.laid) in
      (r.0.1, omega (arith, r.1.1, ready.laid.terms_within), ready.stands _ r.1.0 r.1.1)

  module _ (marks : List Bool) (are : marked marks l.terms ≡ nodes_by (rep_of s.rep) l.terms) where
    are-nodes : marked marks l.terms ≡ nodes l.terms (path_of s)
    unfolding path_of
    are-nodes = are ∙ sym (nodes_by_lem l.terms (path_of s))

    pub few_nodes : length (marked marks l.terms) ≤ 16
    few_nodes = omega (arith, ap length are-nodes, (nodes-length l.terms (path_of s) ready.laid.terms_within).1)

    -- the sections are the report's
    module _ (list : List ℕ) (numbers : Numbers list (marked marks l.terms)) (places fields : List ℕ)
        (placed : (t : ℕ) → 1 ≤ t → t ≤ l.terms → get_or places t 0 ≡ node_of list (rep_of s.rep t))
        (held : (v : ℕ) → v ≤ l.terms → get_or fields v 0 ≡ byte_of (field_held (rep_of s.rep) (literals_at query l.field_at l.field_count) v) 1 8) where
      node : (t : ℕ) → Memᴰ t (terms l.terms) → get_or places t 0 ≡ place_of ((path_of s).rep t) (marked marks l.terms)
      unfolding terms path_of
      node t m =
          let r = from-mem l.terms 1 t m in
          let h : t ≤ l.terms = omega arith in
          placed t r.0 h ∙ numbers (rep_of s.rep t) (ready.stands t r.0 h)

      datum : (v : ℕ) → Memᴰ v (marked marks l.terms) → get_or fields v 0 ≡ field_byte (said l query) (path_of s) v
      unfolding field_byte field_held literals_at path_of listed
      datum v m = held v (marked_below marks l.terms v m) ∙ ap (λ (ls : List Literal). byte_of (field_held (rep_of s.rep) ls v) 1 8) (sym (fields-said l query ready.laid))

      pub report_is : sections l.terms (marked marks l.terms) (all_successors l.terms (path_of s) (marked marks l.terms))
          (λ t. get_or places t 0) (λ t. get_or fields t 0) ≡ report (said l query) (path_of s)
      report_is =
          parts
          ∙ ap (λ (ts : List ℕ). sections l.terms ts (all_successors l.terms (path_of s) ts) (λ t. place_of ((path_of s).rep t) ts) (field_byte (said l query) (path_of s))) are-nodes
          ∙ ap (λ (n : ℕ). sections n (nodes n (path_of s)) (all_successors n (path_of s) (nodes n (path_of s)))
          (λ t. place_of ((path_of s).rep t) (nodes n (path_of s))) (field_byte (said l query) (path_of s))) counted
          ∙ report-sections (said l query) (path_of s) ready.linked
        where
          parts : sections l.terms (marked marks l.terms) (all_successors l.terms (path_of s) (marked marks l.terms)) (λ t. get_or places t 0)
              (λ t. get_or fields t 0) ≡ sections l.terms (marked marks l.terms) (all_successors l.terms (path_of s) (marked marks l.terms))
              (λ t. place_of ((path_of s).rep t) (marked marks l.terms)) (field_byte (said l query) (path_of s))
          parts = rw (map_alike _ _ (terms l.terms) node, map_alike _ _ (marked marks l.terms) datum)

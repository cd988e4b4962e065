-- The bytes that are written are those of the query with link 1. Assumes nothing.
use Prim.Native.Nat.{ℕ, ◌+◌, ◌*◌, ◌≤◌}
use native.Mathlib.Omega.{arith}
use mathlib.Core.Path.{◌≡◌, refl, sym, ap, ap₂, ◌∙◌}
use mathlib.Core.Bool.{true}
use mathlib.Core.List.{List, [], ◌∷◌, ◌++◌, append_assoc, append-nil}
use lib.ListN.{length, length-append}
use Rattle.logic.specs.Search.{flat_map}
use Rattle.logic.specs.Query.{Literal, Query, term_count, decode}
use Rattle.logic.specs.Calls.{accepts}
use Rattle.encoding.specs.QueryBytes.{sign_byte, literal_bytes, section_bytes, encode}
use Rattle.encoding.proofs.Encoded.{literal-bytes}
use Rattle.encoding.proofs.Lengths.{encode-length, encode_within}
use Rattle.encoding.proofs.Decoded.{accepted_limits, accepted_encodable}
use Rattle.encoding.proofs.Recovered.{recovered}
use Rattle.query.specs.LaysOut.{LaysOut}
use Rattle.query.specs.declared.Layout.{Layout}
use Rattle.rewriter.specs.Bytes.{cut}
use Rattle.rewriter.proofs.Written.{cut_at, equal-count, reach-count}
use Rattle.link_rewriting.specs.LinkedQuery.{entry_bytes, reach_bytes, encode_links}
use Rattle.link_rewriting.specs.Call.{linked_bytes}
use Rattle.link_rewriting.proofs.Encoded.{links-length}
use Rattle.link_rewriter.specs.Bytes.{with_links, rewritten_bytes}

-- literals with their links
links_are : (ls : List Literal) → with_links (flat_map literal_bytes ls) ≡ flat_map reach_bytes ls
unfolding with_links flat_map literal_bytes reach_bytes
links_are [] = refl
links_are (l ∷ ls) = ap (λ (xs : List ℕ). sign_byte l.plain ∷ 1 ∷ l.left ∷ l.right ∷ xs) (links_are ls)

-- The parts of the bytes of a query
module _ (q : Query) where
  abbrev at : ℕ
  at = term_count q + 3 * length q.equalities + 3

  abbrev behind : ℕ
  behind = at + 3 * length q.reachability

  unfoldable between : List ℕ
  between = section_bytes q.equalities ++ (length q.reachability ∷ [])

  unfoldable literals : List ℕ
  literals = flat_map literal_bytes q.reachability

  unfoldable rest : List ℕ
  rest = section_bytes q.fields ++ (0 ∷ [])

  unfoldable head : List ℕ
  head = (term_count q ∷ q.entries.terms) ++ between

  between_long : term_count q + 1 + length between ≡ at
  unfolding between section_bytes
  between_long = omega (arith, length-append (section_bytes q.equalities) (length q.reachability ∷ []), literal-bytes q.equalities)

  literals_long : length literals ≡ 3 * length q.reachability
  unfolding literals
  literals_long = literal-bytes q.reachability ∙ omega arith

  head_long : length head ≡ at
  unfolding head term_count
  head_long = omega (arith, length-append (length q.entries.terms ∷ q.entries.terms) between, between_long)

  -- the bytes, by where they are cut
  first_cut : encode q ≡ (term_count q ∷ []) ++ (q.entries.terms ++ (between ++ (literals ++ rest)))
  unfolding encode between literals rest section_bytes
  first_cut = ap (λ (xs : List ℕ). term_count q ∷ (q.entries.terms ++ xs)) (sym (append_assoc (section_bytes q.equalities) (length q.reachability ∷ []) _))

  third_cut : encode q ≡ head ++ (literals ++ rest)
  unfolding head
  third_cut = first_cut ∙ sym (append_assoc (term_count q ∷ q.entries.terms) between (literals ++ rest))

  last_cut : encode q ≡ (head ++ literals) ++ (rest ++ [])
  last_cut = third_cut ∙ sym (append_assoc head literals rest) ∙ ap (λ (xs : List ℕ). (head ++ literals) ++ xs) (sym (append-nil rest))

  terms-cut : cut (encode q) 1 (term_count q + 1) ≡ q.entries.terms
  unfolding term_count
  terms-cut = ap (λ (xs : List ℕ). cut xs 1 (length q.entries.terms + 1)) first_cut ∙ cut_at (term_count q ∷ []) q.entries.terms _ 1 (length q.entries.terms + 1) refl (omega arith)

  between-cut : cut (encode q) (term_count q + 1) at ≡ between
  unfolding term_count
  between-cut =
      ap (λ (xs : List ℕ). cut xs (term_count q + 1) at) first_cut
      ∙ cut_at (term_count q ∷ q.entries.terms) between (literals ++ rest) (term_count q + 1) at (omega arith) between_long

  literals-cut : cut (encode q) at behind ≡ literals
  literals-cut = ap (λ (xs : List ℕ). cut xs at behind) third_cut ∙ cut_at head literals rest at behind head_long (omega (arith, literals_long))

  rest-cut : cut (encode q) behind (length (encode q)) ≡ rest
  rest-cut =
      ap₂ (λ (xs : List ℕ) (k : ℕ). cut xs behind k) last_cut (ap length last_cut)
      ∙ cut_at (head ++ literals) rest [] behind (length ((head ++ literals) ++ (rest ++ []))) (omega (arith, length-append head literals, head_long, literals_long))
      (omega (arith, length-append (head ++ literals) (rest ++ []), length-append head literals, length-append rest [], head_long, literals_long))

  written_are : rewritten_bytes (term_count q) at (length q.reachability) (encode q) ≡ encode_links q
  unfolding rewritten_bytes encode_links between literals rest
  written_are =
      rw (terms-cut, between-cut, literals-cut, rest-cut)
      (ap (λ (xs : List ℕ). term_count q ∷ (flat_map entry_bytes q.entries.terms ++ xs))
      (append_assoc (section_bytes q.equalities) (length q.reachability ∷ []) (with_links literals ++ rest)
      ∙ ap (λ (xs : List ℕ). section_bytes q.equalities ++ (length q.reachability ∷ (xs ++ rest))) (links_are q.reachability)))

-- A query that passes its checks
module _ (l : Layout) (bytes : List ℕ) (laid : LaysOut l bytes) (ok : accepts bytes ≡ true) where
  abbrev q : Query
  q = decode bytes

  -- where the reachability literals stand
  abbrev pub reach_place : ℕ
  reach_place = l.terms + 3 * l.equal_count + 3

  place_is : reach_place ≡ at q
  place_is = omega (arith, laid.term_count_lem, equal-count laid)

  old_long : length bytes ≡ term_count q + 3 * length q.equalities + 3 * length q.reachability + 3 * length q.fields + 5
  old_long = ap length (sym (recovered bytes ok)) ∙ encode-length q

  pub place_fits : reach_place + 3 * l.reach_count ≤ length bytes
  place_fits = omega (arith, old_long, laid.term_count_lem, equal-count laid, reach-count laid)

  pub bytes_low : length bytes ≤ 561
  bytes_low = omega (arith, ap length (recovered bytes ok), encode_within q (accepted_limits bytes ok))

  same_bytes : {n n' i i' k k' : ℕ} {bs bs' : List ℕ} → n ≡ n' → i ≡ i' → k ≡ k' → bs ≡ bs' → rewritten_bytes n i k bs ≡ rewritten_bytes n' i' k' bs'
  same_bytes a b c d = cc

  -- what the code writes, and how long it is
  pub written_is : rewritten_bytes l.terms reach_place l.reach_count bytes ≡ linked_bytes bytes
  written_is = same_bytes laid.term_count_lem place_is (reach-count laid) (sym (recovered bytes ok)) ∙ written_are q

  pub written_long : length (linked_bytes bytes) ≡ length bytes + l.terms + l.reach_count
  written_long = omega (arith, links-length q (accepted_encodable bytes ok), old_long, laid.term_count_lem, reach-count laid)

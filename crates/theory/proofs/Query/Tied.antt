-- What the theory needs to know of a query, all of which acceptance of its bytes gives, and of a path of it.
use Prim.Native.Nat.{ℕ, ◌≤◌, ◌<◌}
use mathlib.Core.Path.{◌≡◌}
use mathlib.Core.Bool.{true}
use mathlib.Core.List.{Memᴰ}
use Rattle.logic.specs.Query.{Literal, Query, names_nil, argument_of, link_of, term_count}
use Rattle.logic.specs.Facts.{Facts, live}

abbrev pub InTerms : Query → ℕ → Type 0
InTerms q t = (1 ≤ t) × (t ≤ term_count q)

abbrev pub InLinks : Query → ℕ → Type 0
InLinks q i = (1 ≤ i) × (i ≤ q.links)

abbrev pub ToEight : ℕ → Type 0
ToEight j = (1 ≤ j) × (j ≤ 8)

pub record Accepted (q : Query) : Type 0 where
  pub term_count_lem : term_count q ≤ 16
  pub some_link : 1 ≤ q.links
  pub entry_below : (t : ℕ) → InTerms q t → argument_of q.entries t < t
  pub entry_linked : (t : ℕ) → InTerms q t → 1 ≤ argument_of q.entries t → InLinks q (link_of q.entries t)
  pub equal_terms : (l : Literal) → Memᴰ l q.equalities → InTerms q l.left × InTerms q l.right
  pub reach_terms : (l : Literal) → Memᴰ l q.reachability → InTerms q l.left × InTerms q l.right
  pub reach_linked : (l : Literal) → Memᴰ l q.reachability → InLinks q l.link
  pub field_number : (l : Literal) → Memᴰ l q.fields → ToEight l.left
  pub field_term : (l : Literal) → Memᴰ l q.fields → InTerms q l.right

-- the path holds the query: its terms' links, nil's rule, and its plain equalities and reachability literals, read through `rep`
pub record Tied (q : Query) (s : Facts) : Type 0 where
  pub rep_live : (t : ℕ) → InTerms q t → live (term_count q) s (s.rep t) ≡ true
  pub same_links : s.links ≡ q.links
  pub entry_link : (t : ℕ) → InTerms q t → 1 ≤ argument_of q.entries t → (s.graph (link_of q.entries t)).link (s.rep (argument_of q.entries t)) (s.rep t) ≡ true
  pub nil_same : (t u : ℕ) → names_nil q.entries t ≡ true → names_nil q.entries u ≡ true → s.rep t ≡ s.rep u
  pub nil_link : (i t : ℕ) → InLinks q i → names_nil q.entries t ≡ true → (s.graph i).link (s.rep t) (s.rep t) ≡ true
  pub equal_held : (l : Literal) → Memᴰ l q.equalities → l.plain ≡ true → s.rep l.left ≡ s.rep l.right
  pub reach_held : (l : Literal) → Memᴰ l q.reachability → l.plain ≡ true → (s.graph l.link).reach (s.rep l.left) (s.rep l.right) ≡ true

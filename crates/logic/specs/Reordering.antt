-- Joins in either order (02, R-9): what is claimed of joins, and of queries whose equalities stand in another order.
use Rattle.std.specs.Prelude.{ℕ, ◌≤◌, ◌≡◌, ◌↔◌, true}
use mathlib.Core.List.{List, [], ◌∷◌, Memᴰ}
use Rattle.logic.specs.Query.{Query, term_count}
use Rattle.logic.specs.Facts.{Facts, join, add_reach}
use Rattle.logic.specs.Walk.{Pick, hand_row}
use Rattle.logic.specs.Calls.{CallForm, accepts_by, verdict_call_of}

-- "with replaced terms read as what they became": terms a and b joined, and a reachability fact about them and link i added
unfoldable pub join_terms : ℕ → ℕ × ℕ → Facts → Facts
join_terms n ab s = (join n (s.rep ab.0) (s.rep ab.1) s).facts

unfoldable pub reach_terms : ℕ → ℕ × ℕ → Facts → Facts
reach_terms i ab s = add_reach i (s.rep ab.0) (s.rep ab.1) s

-- a list of joins, one after the other
unfoldable pub join_all : ℕ → List (ℕ × ℕ) → Facts → Facts
join_all n [] s = s
join_all n (ab ∷ rest) s = join_all n rest (join_terms n ab s)

-- two lists with the same elements, in whichever order and however often
abbrev pub SameElements : {A : Type 0} → List A → List A → Type 0
SameElements {A} xs ys = (x : A) → Memᴰ x xs ↔ Memᴰ x ys

-- two queries that differ at most in the order of their equalities, plain ones and negated ones
pub record Reordered (q q' : Query) : Type 0 where
  pub links : q.links ≡ q'.links
  pub entries : q.entries ≡ q'.entries
  pub equalities : SameElements q.equalities q'.equalities
  pub reachability : q.reachability ≡ q'.reachability
  pub fields : q.fields ≡ q'.fields

-- facts that a walk can hold: a path of a hand's row
abbrev pub Held : Query → Facts → Type 0
Held q s = (picks : List Pick) × Memᴰ s (hand_row q picks)

-- pairs of terms of the query
abbrev pub PairsOf : Query → List (ℕ × ℕ) → Type 0
PairsOf q ps = (ab : ℕ × ℕ) → Memᴰ ab ps → ((1 ≤ ab.0) × (ab.0 ≤ term_count q)) × ((1 ≤ ab.1) × (ab.1 ≤ term_count q))

-- R-9, for every accepted query and facts that a walk of it can hold
pub record JoinsAgree (f : CallForm) : Type 0 where
  -- "two joins, with replaced terms read as what they became, leave the same facts in either order": so do any lists of the same joins
  pub joins_any_order : (query : List ℕ) (s : Facts) (ps qs : List (ℕ × ℕ)) → accepts_by f query ≡ true → Held (f.decode query) s → PairsOf (f.decode query) ps → PairsOf (f.decode query) qs → SameElements ps qs → join_all (term_count (f.decode query)) ps s ≡ join_all (term_count (f.decode query)) qs s
  pub two_joins : (query : List ℕ) (s : Facts) (ab cd : ℕ × ℕ) → accepts_by f query ≡ true → Held (f.decode query) s → PairsOf (f.decode query) (ab ∷ cd ∷ []) → join_terms (term_count (f.decode query)) cd (join_terms (term_count (f.decode query)) ab s) ≡ join_terms (term_count (f.decode query)) ab (join_terms (term_count (f.decode query)) cd s)
  -- "a reachability fact may be added before or after a join alike", and before or after a list of joins
  pub reach_any_side : (n i : ℕ) (s : Facts) (ab : ℕ × ℕ) (ps : List (ℕ × ℕ)) → join_all n ps (reach_terms i ab s) ≡ reach_terms i ab (join_all n ps s)
  pub reach_either_side : (n i : ℕ) (s : Facts) (ab cd : ℕ × ℕ) → join_terms n cd (reach_terms i ab s) ≡ reach_terms i ab (join_terms n cd s)
  -- "So reordering the plain equalities never changes a heap report": nor the verdict call's answer, nor any byte of what is lent
  pub report_stays : (order query query' : List ℕ) (room : ℕ) → accepts_by f query ≡ true → accepts_by f query' ≡ true → Reordered (f.decode query) (f.decode query') → verdict_call_of f (record { order = order; query = query; room = room }) ≡ verdict_call_of f (record { order = order; query = query'; room = room })

-- What a customer reads off the pairs that joining hands back (02, R-1).
use Rattle.std.specs.Prelude.{ℕ, ◌<◌, min, max, ◌≡◌, true, not, cond, length, eqb}
use mathlib.Core.List.{List, [], ◌∷◌, ◌++◌, map, Memᴰ}
use Rattle.std.proofs.Math.Option.{none, some}
use Rattle.logic.specs.Search.{◌and◌, select}
use Rattle.logic.specs.Query.{Literal, Query, term_count, decode}
use Rattle.logic.specs.Facts.{Facts, Joined, live, replace, doubled, unjoined, join_pair, add_reach, links_of, nil_terms, equal_to, add_nil_links, start_joins, start}
use Rattle.logic.specs.Rules.{Move, Fact, equal, reaches, alternatives, applies, branch}
use Rattle.logic.specs.Calls.{CallForm, accepts_by}
use Rattle.logic.specs.Reordering.{Held}

-- what a term becomes, the pairs read in order: a replaced term gives way to the one kept
unfoldable pub follow_pairs : List (ℕ × ℕ) → ℕ → ℕ
follow_pairs [] t = t
follow_pairs (ab ∷ rest) t = follow_pairs rest (cond (eqb t ab.1) ab.0 t)

-- how many of the pairs have the term as the replaced one
unfoldable pub times_replaced : ℕ → List (ℕ × ℕ) → ℕ
times_replaced t pairs = length (select (λ ab. eqb ab.1 t) pairs)

-- The pairs account for what joining made of a path.
pub record Accounts (n : ℕ) (s : Facts) (j : Joined) : Type 0 where
  -- following kept terms leads from what a term was to what it became
  pub followed : (t : ℕ) → j.facts.rep t ≡ follow_pairs j.pairs (s.rep t)
  -- a term that was itself and is so no longer is replaced in one pair, and every other number in none
  pub once : (t : ℕ) → times_replaced t j.pairs ≡ cond (live n s t and not (live n j.facts t)) 1 0
  -- a replaced term stays so
  pub stays : (t : ℕ) → live n j.facts t ≡ true → live n s t ≡ true
  -- "replaces the higher number by the lower"
  pub lower : (ab : ℕ × ℕ) → Memᴰ ab j.pairs → ab.0 < ab.1

-- R-1, for every accepted query: of the start, and of each branch of a rule that applies to facts that a walk can hold
pub record PairsAccount (f : CallForm) : Type 0 where
  pub start_pairs : (query : List ℕ) → accepts_by f query ≡ true → Accounts (term_count (f.decode query)) (links_of (f.decode query)) (start_joins (f.decode query))
  pub start_followed : (query : List ℕ) → accepts_by f query ≡ true → (t : ℕ) → (start (f.decode query)).rep t ≡ follow_pairs (start_joins (f.decode query)).pairs t
  pub branch_pairs : (query : List ℕ) (s : Facts) (m : Move) (c : Fact) → accepts_by f query ≡ true → Held (f.decode query) s → applies (term_count (f.decode query)) s m ≡ true → Memᴰ c (alternatives (term_count (f.decode query)) s.graph m) → Accounts (term_count (f.decode query)) s (branch (term_count (f.decode query)) s c)

-- The pairs in order. `Accounts` says what became of each term, and lets other pairs stand that come to the same: for (2,3), (1,2) also
-- (1,2), (1,3). What follows does not: each pair is the one that is due where it stands.

-- What a path is given, one after the other: a fact, its terms read as what they became by then, or the links of nil, which this term names.
pub data Given : Type 0 where
  fact : Fact → Given
  nil_links : ℕ → Given

-- what is given taken into a path: two terms that differ by then are a pair, "the higher number by the lower" replaced; the rest is no pair
unfoldable pub taken : Given → Facts → Joined
taken (fact (equal a b)) s =
    let x : ℕ = s.rep a in
    let y : ℕ = s.rep b in
    cond (eqb x y) (unjoined s) (join_pair (min x y, max x y) s)
taken (fact (reaches i a b)) s = unjoined (add_reach i (s.rep a) (s.rep b) s)
taken (nil_links t) s = unjoined (add_nil_links t s)

-- "every pair it joined, in order": the pairs lead from facts by what is given to the facts at the end
pub data Replays (n : ℕ) : Facts → List Given → List (ℕ × ℕ) → Facts → Type 0 where
  -- "While a term has two successors, the two lowest successors of the lowest such term are joined": the next pair is theirs
  doubles : {s end : Facts} {given : List Given} {pairs : List (ℕ × ℕ)} (ab : ℕ × ℕ) → doubled n s ≡ some ab → Replays n (replace ab.0 ab.1 s) given pairs end → Replays n s given (ab ∷ pairs) end
  -- where no term has two, what is given next is taken
  takes : {s end : Facts} (g : Given) {given : List Given} {pairs : List (ℕ × ℕ)} → doubled n s ≡ none → Replays n (taken g s).facts given pairs end → Replays n s (g ∷ given) ((taken g s).pairs ++ pairs) end
  -- where nothing is left either, no pair is
  all_taken : {s : Facts} → doubled n s ≡ none → Replays n s [] [] s

-- what the plain literals of a section give, in query order
unfoldable pub plain_given : (Literal → Fact) → List Literal → List Given
plain_given said ls = map (λ l. fact (said l)) (select (λ l. l.plain) ls)

unfoldable pub equal_given : List Literal → List Given
equal_given = plain_given (λ l. equal l.left l.right)

-- what the nil terms give: "the start joins the nil terms to the lowest, ascending, then adds nil's link" (02, R-3)
unfoldable pub nil_given : List ℕ → List Given
nil_given [] = []
nil_given (t ∷ us) = equal_given (equal_to t us) ++ (nil_links t ∷ [])

-- what a start is given behind the links of section 1: nil, "then each plain equality joined in query order, then the plain reachability facts"
unfoldable pub start_given : Query → List Given
start_given q =
    (nil_given (nil_terms q) ++ equal_given q.equalities) ++ plain_given (λ l. reaches l.link l.left l.right) q.reachability

-- the facts with pairs replaced one after the other, and with the links of nil, if a term names it
unfoldable pub replace_each : List (ℕ × ℕ) → Facts → Facts
replace_each [] s = s
replace_each (ab ∷ rest) s = replace_each rest (replace ab.0 ab.1 s)

unfoldable pub with_nil : List ℕ → Facts → Facts
with_nil [] s = s
with_nil (t ∷ us) s = add_nil_links t s

-- R-1's "in order", for every accepted query, of the start and of each branch of a rule that applies to facts that a walk can hold
pub record PairsReplay (f : CallForm) : Type 0 where
  pub start_replays : (query : List ℕ) → accepts_by f query ≡ true → Replays (term_count (f.decode query)) (links_of (f.decode query)) (start_given (f.decode query)) (start_joins (f.decode query)).pairs (start (f.decode query))
  pub branch_replays : (query : List ℕ) (s : Facts) (m : Move) (c : Fact) → accepts_by f query ≡ true → Held (f.decode query) s → applies (term_count (f.decode query)) s m ≡ true → Memᴰ c (alternatives (term_count (f.decode query)) s.graph m) → Replays (term_count (f.decode query)) s (fact c ∷ []) (branch (term_count (f.decode query)) s c).pairs (branch (term_count (f.decode query)) s c).facts
  -- no other pairs, nor these in another order, lead from the same facts by the same: none is left out, added or written twice
  pub one_replay : (n : ℕ) (s end end' : Facts) (given : List Given) (pairs pairs' : List (ℕ × ℕ)) → Replays n s given pairs end → Replays n s given pairs' end' → (pairs ≡ pairs') × (end ≡ end')
  -- the facts of a branch that joins are those of its parent with the pairs replaced one after the other, in order; those of the start are the
  -- links of section 1 likewise, with nil's links where they stand, between two of the replacements
  pub branch_facts : (n a b : ℕ) (s : Facts) → (branch n s (equal a b)).facts ≡ replace_each (branch n s (equal a b)).pairs s
  pub start_facts : (q : Query) → (before : List (ℕ × ℕ)) × (behind : List (ℕ × ℕ)) × ((start_joins q).pairs ≡ before ++ behind) × ((start_joins q).facts ≡ replace_each behind (with_nil (nil_terms q) (replace_each before (links_of q))))

-- Three variables, 2=3 and then 1=2: the pairs are (2,3) and (1,2). Replacing by (1,2), (1,3) makes 1 of all three too, and is no replay.
unfoldable pub three_equal : Query
three_equal = decode (3 ∷ 0 ∷ 0 ∷ 0 ∷ 2 ∷ 1 ∷ 2 ∷ 3 ∷ 1 ∷ 1 ∷ 2 ∷ 0 ∷ 0 ∷ 0 ∷ [])

abbrev pub ReplaysThree : List (ℕ × ℕ) → Facts → Type 0
ReplaysThree pairs end = Replays 3 (links_of three_equal) (start_given three_equal) pairs end

pub record ReplayExample : Type 0 where
  pub in_order : ReplaysThree ((2, 3) ∷ (1, 2) ∷ []) (start three_equal)
  pub other_replaced : map (replace_each ((1, 2) ∷ (1, 3) ∷ []) (links_of three_equal)).rep (1 ∷ 2 ∷ 3 ∷ []) ≡ map (start three_equal).rep (1 ∷ 2 ∷ 3 ∷ [])
  pub other_order : (end : Facts) → ReplaysThree ((1, 2) ∷ (1, 3) ∷ []) end → ⊥
  pub left_out : (end : Facts) → ReplaysThree ((2, 3) ∷ []) end → ⊥
  pub written_twice : (end : Facts) → ReplaysThree ((2, 3) ∷ (2, 3) ∷ (1, 2) ∷ []) end → ⊥

-- The pairs that joins hand back are pairs of terms.
use Prim.Native.Nat.{ℕ, zero, suc, min, max, ◌≤◌}
use native.Mathlib.Omega.{arith}
use mathlib.Core.Path.{◌≡◌, refl, sym, subst}
use mathlib.Core.Logic.{⊎_elim}
use mathlib.Core.Bool.{Bool, true, false, cond}
use mathlib.Core.List.Memᴰ
use mathlib.Core.List.{List, [], ◌∷◌, Memᴰ}
use mathlib.Core.Option.{Option, none, some, Option-elim}
use lib.Dec.{eqb}
use Rattle.logic.specs.Search.{first_of}
use Rattle.logic.specs.Query.{Literal, Query, literal, term_count}
use Rattle.logic.specs.Facts.{Facts, Joined, link_numbers, terms, live, successors, first_two, doubled, unjoined, join_pair, and_then}
use Rattle.logic.specs.Facts.{settle, join, links_of, join_each, nil_terms, equal_to, add_nil_links, join_nil, start_joins}
use Rattle.logic.specs.Rules.{Fact, equal, reaches, branch}
use Rattle.theory.proofs.Basics.Search.{first_of-some, select-mem, from-mem, map-mem}
use Rattle.theory.proofs.Query.Tied.{Accepted}
use Rattle.theory.proofs.Query.Entries.{nil_terms_names}
use Rattle.theory.proofs.Paths.Ranged.{InRange, live_range}
use Rattle.theory.proofs.Paths.Doubled.{first_two-some}
use Rattle.theory.proofs.Paths.Kept.{Sane, LiveFact, kept_settle, join_kept}
use Rattle.theory.proofs.Paths.Start.{links_of_ranged, nilled_sane}

-- both of each pair are at most n
abbrev pub InPairs : ℕ → List (ℕ × ℕ) → Type 0
InPairs n ps = (ab : ℕ × ℕ) → Memᴰ ab ps → (ab.0 ≤ n) × (ab.1 ≤ n)

module _ (n : ℕ) where
  none_in : InPairs n []
  none_in ab m = absurd (Memᴰ.not-nil m)

  pair_in_lem : (ab : ℕ × ℕ) → ab.0 ≤ n → ab.1 ≤ n → InPairs n (ab ∷ [])
  pair_in_lem ab l r cd m = subst (λ (x : ℕ × ℕ). (x.0 ≤ n) × (x.1 ≤ n)) (sym (Memᴰ.eq_of_singleton m)) (l, r)

  then_in : (j : Joined) (f : Facts → Joined) → InPairs n j.pairs → InPairs n (f j.facts).pairs → InPairs n (and_then j f).pairs
  unfolding and_then
  then_in j f p r ab m = ⊎_elim (p ab) (r ab) (Memᴰ.append_cases j.pairs m)

  -- doubled successors are terms
  doubled_in : (s : Facts) (ab : ℕ × ℕ) → doubled n s ≡ some ab → (ab.0 ≤ n) × (ab.1 ≤ n)
  unfolding doubled successors terms
  doubled_in s ab h =
      let at : ℕ → ℕ → Option (ℕ × ℕ) = λ t i. first_two (successors n (s.graph i) t) in
      let f = first_of-some (λ t. first_of (at t) (link_numbers s.links)) (terms n) ab h in
      let e = first_of-some (at f.0) (link_numbers s.links) ab f.2 in
      let l = first_two-some (successors n (s.graph e.0) f.0) ab e.2 in
      let low = subst (Memᴰ ab.0) (sym l.1) (Memᴰ.head refl) in
      let high = subst (Memᴰ ab.1) (sym l.1) (Memᴰ.tail (Memᴰ.head refl)) in
      (term e.0 f.0 ab.0 low, term e.0 f.0 ab.1 high)
    where
      term : (i t u : ℕ) → Memᴰ u (successors n (s.graph i) t) → u ≤ n
      term i t u m = let r = from-mem n 1 u (select-mem ((s.graph i).link t) u (terms n) m).0 in omega arith

  pub settle_in : (k : ℕ) (s : Facts) → InPairs n (settle n k s).pairs
  unfolding settle unjoined join_pair Option-elim
  settle_in zero s = none_in
  settle_in (suc k) s = go (doubled n s) refl (λ s'. settle_in k s')
    where
      go : (o : Option (ℕ × ℕ)) → doubled n s ≡ o → ((s' : Facts) → InPairs n (settle n k s').pairs) → InPairs n (Option-elim o (unjoined s) (λ ab. and_then (join_pair ab s) (settle n k))).pairs
      go none e ih = none_in
      go (some ab) e ih = let r = doubled_in s ab e in then_in (join_pair ab s) (settle n k) (pair_in_lem ab r.0 r.1) (ih (join_pair ab s).facts)

  pub join_in : (a b : ℕ) (s : Facts) → a ≤ n → b ≤ n → InPairs n (join n a b s).pairs
  unfolding join unjoined join_pair
  join_in a b s l r = go (eqb a b)
    where
      go : (c : Bool) → InPairs n (cond c (unjoined s) (and_then (join_pair (min a b, max a b) s) (settle n n))).pairs
      go true = none_in
      go false = then_in (join_pair (min a b, max a b) s) (settle n n) (pair_in_lem (min a b, max a b) (omega arith) (omega arith)) (settle_in n _)

  -- the pairs of plain equalities between terms
  abbrev InTerms : Literal → Type 0
  InTerms l = InRange n l.left × InRange n l.right

  pub join_each_in : (ls : List Literal) (s : Facts) → ((l : Literal) → Memᴰ l ls → InTerms l) → Sane n s → InPairs n (join_each n ls s).pairs
  unfolding join_each unjoined
  join_each_in [] s r h = none_in
  join_each_in (l ∷ ls) s r h = go l.plain (λ s' h'. join_each_in ls s' (λ l' m. r l' (Memᴰ.tail m)) h')
    where
      a : ℕ
      a = s.rep l.left

      b : ℕ
      b = s.rep l.right

      la : live n s a ≡ true
      la = h.ranged.rep_live l.left (r l (Memᴰ.head refl)).0

      lb : live n s b ≡ true
      lb = h.ranged.rep_live l.right (r l (Memᴰ.head refl)).1

      go : (c : Bool) → ((s' : Facts) → Sane n s' → InPairs n (join_each n ls s').pairs) → InPairs n (and_then (cond c (join n a b s) (unjoined s)) (join_each n ls)).pairs
      go true ih =
          then_in (join n a b s) (join_each n ls) (join_in a b s (live_range n s a la).1 (live_range n s b lb).1) (ih (join n a b s).facts (join_kept n a b s la lb h).0.sane)
      go false ih = then_in (unjoined s) (join_each n ls) none_in (ih s h)

  nil-terms : (t : ℕ) (us : List ℕ) → ((u : ℕ) → Memᴰ u (t ∷ us) → InRange n u) → (l : Literal) → Memᴰ l (equal_to t us) → InTerms l
  unfolding equal_to
  nil-terms t us r l m =
      let (u, k, e) = map-mem (literal true t) l us m in
      subst InTerms (sym e) (r t (Memᴰ.head refl), r u (Memᴰ.tail k))

  join_nil_in : (ts : List ℕ) (s : Facts) → ((t : ℕ) → Memᴰ t ts → InRange n t) → Sane n s → InPairs n (join_nil n ts s).pairs
  unfolding join_nil unjoined
  join_nil_in [] s r h = none_in
  join_nil_in (t ∷ us) s r h =
      then_in (join_each n (equal_to t us) s) (λ s'. settle n n (add_nil_links t s')) (join_each_in (equal_to t us) s (nil-terms t us r) h) (settle_in n _)

  pub branch_in : (s : Facts) (c : Fact) → LiveFact n s c → InPairs n (branch n s c).pairs
  unfolding branch LiveFact unjoined
  branch_in s (equal a b) l = join_in a b s (live_range n s a l.0).1 (live_range n s b l.1).1
  branch_in s (reaches i a b) l = none_in

pub start_in : (q : Query) → Accepted q → InPairs (term_count q) (start_joins q).pairs
unfolding start_joins and_then
start_in q ok =
    let n : ℕ = term_count q in
    let linked : Joined = settle n n (links_of q) in
    let nilled : Joined = join_nil n (nil_terms q) linked.facts in
    let sane = (kept_settle n (links_of q) (links_of_ranged q ok)).sane in
    then_in n (and_then linked (join_nil n (nil_terms q))) (join_each n q.equalities)
    (then_in n linked (join_nil n (nil_terms q)) (settle_in n n (links_of q)) (join_nil_in n (nil_terms q) linked.facts (λ t m. (nil_terms_names q t m).0) sane))
    (join_each_in n q.equalities nilled.facts ok.equal_terms (nilled_sane q ok))

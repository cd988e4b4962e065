-- The pairs that joining hands back replay what a path is given, each where it is due (02, R-1), and the facts are those with the pairs replaced.
use Prim.Native.Nat.{ℕ, zero, suc, min, max}
use mathlib.Core.Path.{◌≡◌, refl, sym, ap, ap₂, ◌∙◌, subst}
use mathlib.Core.Bool.{Bool, true, false, cond}
use mathlib.Core.List.{List, [], ◌∷◌, ◌++◌, map, append-nil, append_assoc, Memᴰ}
use mathlib.Core.Option.{Option, none, some, Option-elim}
use lib.Dec.{eqb}
use Rattle.logic.specs.Search.{select}
use Rattle.logic.specs.Query.{Literal, Query, term_count, literal}
use Rattle.logic.specs.Facts.{Facts, Joined, live, replace, successors, doubled, unjoined, join_pair, and_then, settle, join}
use Rattle.logic.specs.Facts.{join_each, add_reach, links_of, reach_each, nil_terms, equal_to, add_nil_links, join_nil, start_joins, start}
use Rattle.logic.specs.Rules.{Fact, equal, reaches, branch}
use Rattle.logic.specs.JoinPairs.{Given, fact, nil_links, taken, Replays, doubles, takes, all_taken, plain_given, equal_given, nil_given, start_given, replace_each, with_nil}
use Rattle.theory.proofs.Basics.Search.{map-mem}
use Rattle.theory.proofs.Query.Tied.{Accepted}
use Rattle.theory.proofs.Query.Entries.{nil_terms_names}
use Rattle.theory.proofs.Paths.Ranged.{InRange, live-rep}
use Rattle.theory.proofs.Paths.Kept.{Sane, LiveFact, kept_settle, join_kept, add_reach_kept}
use Rattle.theory.proofs.Paths.Start.{links_of_ranged, join_each-kept, nilled_sane, start_sane}

abbrev Pairs : Type 0
Pairs = List (ℕ × ℕ)

module _ (n : ℕ) (end : Facts) where
  -- joins are replayed by what is given first: where the rest is replayed from what they leave, all of it is from where they began
  abbrev First : Facts → List Given → Joined → Type 0
  First s first j = (given : List Given) (pairs : Pairs) → Replays n j.facts given pairs end → Replays n s (first ++ given) (j.pairs ++ pairs) end

  first-none : (s : Facts) → First s [] (unjoined s)
  unfolding unjoined
  first-none s given pairs r = r

  first_then : (s : Facts) (first second : List Given) (j : Joined) (f : Facts → Joined) → First s first j → First j.facts second (f j.facts) → First s (first ++ second) (and_then j f)
  unfolding and_then
  first_then s first second j f a b given pairs r =
      subst (λ (gs : List Given). Replays n s gs ((j.pairs ++ (f j.facts).pairs) ++ pairs) end) (sym (append_assoc first second given))
      (subst (λ (ps : Pairs). Replays n s (first ++ (second ++ given)) ps end) (sym (append_assoc j.pairs (f j.facts).pairs pairs))
      (a (second ++ given) ((f j.facts).pairs ++ pairs) (b given pairs r)))

  -- what is given, where it is known what becomes of it
  first_taken : (s : Facts) (g : Given) (j : Joined) → taken g s ≡ j → doubled n s ≡ none → First s (g ∷ []) j
  first_taken s g j e d given pairs r =
      subst (λ (i : Joined). Replays n s (g ∷ given) (i.pairs ++ pairs) end) e
      (takes g d (subst (λ (i : Joined). Replays n i.facts given pairs end) (sym e) r))

  first-settle : (k : ℕ) (s : Facts) → First s [] (settle n k s)
  unfolding settle unjoined join_pair and_then Option-elim
  first-settle zero s = first-none s
  first-settle (suc k) s = go (doubled n s) refl (λ s'. first-settle k s')
    where
      go : (o : Option (ℕ × ℕ)) → doubled n s ≡ o → ((s' : Facts) → First s' [] (settle n k s')) → First s [] (Option-elim o (unjoined s) (λ ab. and_then (join_pair ab s) (settle n k)))
      go none e ih = first-none s
      go (some ab) e ih = λ given pairs r. doubles ab e (ih (replace ab.0 ab.1 s) given pairs r)

  first-join : (a b : ℕ) (s : Facts) → doubled n s ≡ none → First s (fact (equal a b) ∷ []) (join n (s.rep a) (s.rep b) s)
  unfolding join unjoined taken
  first-join a b s d = go (eqb x y) refl
    where
      x : ℕ
      x = s.rep a

      y : ℕ
      y = s.rep b

      both : Joined
      both = join_pair (min x y, max x y) s

      taken_as : (c : Bool) → eqb x y ≡ c → taken (fact (equal a b)) s ≡ cond c (unjoined s) both
      taken_as c e = ap (λ (i : Bool). cond i (unjoined s) both) e

      go : (c : Bool) → eqb x y ≡ c → First s (fact (equal a b) ∷ []) (cond c (unjoined s) (and_then both (settle n n)))
      go true e = first_taken s (fact (equal a b)) (unjoined s) (taken_as true e) d
      go false e = first_then s (fact (equal a b) ∷ []) [] both (settle n n) (first_taken s (fact (equal a b)) both (taken_as false e) d) (first-settle n both.facts)

  first-join_each : (ls : List Literal) (s : Facts) → ((l : Literal) → Memᴰ l ls → InRange n l.left × InRange n l.right) → Sane n s → First s (equal_given ls) (join_each n ls s)
  unfolding join_each unjoined equal_given plain_given select
  first-join_each [] s t h = first-none s
  first-join_each (l ∷ ls) s t h = go l.plain (λ s' h'. first-join_each ls s' (λ l' m. t l' (Memᴰ.tail m)) h')
    where
      said : Literal → Given
      said k = fact (equal k.left k.right)

      rest : List Literal
      rest = select (λ k. k.plain) ls

      joined : Joined
      joined = join n (s.rep l.left) (s.rep l.right) s

      go : (b : Bool) → ((s' : Facts) → Sane n s' → First s' (map said rest) (join_each n ls s')) → First s (map said (cond b (l ∷ rest) rest)) (and_then (cond b joined (unjoined s)) (join_each n ls))
      go true ih =
          let u = t l (Memᴰ.head refl) in
          let k = (join_kept n (s.rep l.left) (s.rep l.right) s (h.ranged.rep_live l.left u.0) (h.ranged.rep_live l.right u.1) h).0 in
          first_then s (said l ∷ []) (map said rest) joined (join_each n ls) (first-join l.left l.right s h.single) (ih joined.facts k.sane)
      go false ih = first_then s [] (map said rest) (unjoined s) (join_each n ls) (first-none s) (ih s h)

  first-join_nil : (ts : List ℕ) (s : Facts) → ((t : ℕ) → Memᴰ t ts → InRange n t) → Sane n s → First s (nil_given ts) (join_nil n ts s)
  unfolding join_nil unjoined nil_given equal_to taken
  first-join_nil [] s m h = first-none s
  first-join_nil (t ∷ us) s m h =
      let rt = m t (Memᴰ.head refl) in
      let in_range : (l : Literal) → Memᴰ l (equal_to t us) → InRange n l.left × InRange n l.right = λ l k.
      let (u, i, p) = map-mem (λ u. literal true t u) l us k in
      subst (λ (x : Literal). InRange n x.left × InRange n x.right) (sym p) (rt, m u (Memᴰ.tail i)) in
      let j : Joined = join_each n (equal_to t us) s in
      let single = (join_each-kept n (equal_to t us) s in_range h).0.sane.single in
      first_then s (equal_given (equal_to t us)) (nil_links t ∷ []) j (λ s'. settle n n (add_nil_links t s')) (first-join_each (equal_to t us) s in_range h)
      (λ given pairs r. takes (nil_links t) single (first-settle n (add_nil_links t j.facts) given pairs r))

  first-reach_each : (ls : List Literal) (s : Facts) → doubled n s ≡ none → First s (plain_given (λ l. reaches l.link l.left l.right) ls) (unjoined (reach_each ls s))
  unfolding reach_each unjoined plain_given select taken add_reach doubled successors
  first-reach_each [] s d = first-none s
  first-reach_each (l ∷ ls) s d = go l.plain (λ s' d'. first-reach_each ls s' d')
    where
      said : Literal → Given
      said k = fact (reaches k.link k.left k.right)

      rest : List Literal
      rest = select (λ k. k.plain) ls

      added : Facts
      added = add_reach l.link (s.rep l.left) (s.rep l.right) s

      go : (b : Bool) → ((s' : Facts) → doubled n s' ≡ none → First s' (map said rest) (unjoined (reach_each ls s'))) →
          First s (map said (cond b (l ∷ rest) rest)) (unjoined (reach_each ls (cond b added s)))
      go true ih = λ given pairs r. takes (said l) d (ih added d given pairs r)
      go false ih = ih s d

-- nothing is left behind joins
replays_all : (n : ℕ) (s : Facts) (first : List Given) (j : Joined) → First n j.facts s first j → doubled n j.facts ≡ none → Replays n s first j.pairs j.facts
replays_all n s first j a d =
    subst (λ (gs : List Given). Replays n s gs j.pairs j.facts) (append-nil first)
    (subst (λ (ps : Pairs). Replays n s (first ++ []) ps j.facts) (append-nil j.pairs) (a [] [] (all_taken d)))

-- a branch: its alternative is about terms that are not replaced
pub replays_branch : (n : ℕ) (s : Facts) (c : Fact) → LiveFact n s c → Sane n s → Replays n s (fact c ∷ []) (branch n s c).pairs (branch n s c).facts
unfolding branch unjoined LiveFact taken
replays_branch n s (equal a b) l h =
    let j : Joined = join n (s.rep a) (s.rep b) s in
    let single = (join_kept n (s.rep a) (s.rep b) s (read a l.0) (read b l.1) h).0.sane.single in
    subst (λ (i : Joined). Replays n s (fact (equal a b) ∷ []) i.pairs i.facts) (ap₂ (λ (x y : ℕ). join n x y s) (live-rep n s a l.0) (live-rep n s b l.1))
    (replays_all n s (fact (equal a b) ∷ []) j (first-join n j.facts a b s h.single) single)
  where
    -- what a live term became is live
    read : (t : ℕ) → live n s t ≡ true → live n s (s.rep t) ≡ true
    read t e = subst (λ (u : ℕ). live n s u ≡ true) (sym (live-rep n s t e)) e
replays_branch n s (reaches i a b) l h =
    let j : Joined = unjoined (add_reach i a b s) in
    let single = (add_reach_kept n a b s l.0 l.1 i l.2 h).sane.single in
    replays_all n s (fact (reaches i a b) ∷ []) j
    (first_taken n j.facts s (fact (reaches i a b)) j (ap₂ (λ (x y : ℕ). unjoined (add_reach i x y s)) (live-rep n s a l.0) (live-rep n s b l.1)) h.single) single

-- the start
pub replays_start : (q : Query) → Accepted q → Replays (term_count q) (links_of q) (start_given q) (start_joins q).pairs (start q)
unfolding start_joins start and_then unjoined start_given
replays_start q ok =
    let n : ℕ = term_count q in
    let s : Facts = links_of q in
    let end : Facts = start q in
    let settled : Joined = settle n n s in
    let nilled : Joined = and_then settled (join_nil n (nil_terms q)) in
    let joined : Joined = and_then nilled (join_each n q.equalities) in
    let nils : List Given = nil_given (nil_terms q) in
    let equals : List Given = equal_given q.equalities in
    let reached : List Given = plain_given (λ l. reaches l.link l.left l.right) q.reachability in
    let sane = (kept_settle n s (links_of_ranged q ok)).sane in
    let single = (join_each-kept n q.equalities nilled.facts ok.equal_terms (nilled_sane q ok)).0.sane.single in
    let by_nil = first_then n end s [] nils settled (join_nil n (nil_terms q)) (first-settle n end n s)
    (first-join_nil n end (nil_terms q) settled.facts (λ t m. (nil_terms_names q t m).0) sane) in
    let by_equal = first_then n end s nils equals nilled (join_each n q.equalities) by_nil
    (first-join_each n end q.equalities nilled.facts ok.equal_terms (nilled_sane q ok)) in
    let by_reach = first_then n end s (nils ++ equals) reached joined (λ u. unjoined (reach_each q.reachability u)) by_equal
    (first-reach_each n end q.reachability joined.facts single) in
    subst (λ (ps : Pairs). Replays n s (start_given q) ps end) (append-nil joined.pairs)
    (replays_all n s (start_given q) (and_then joined (λ u. unjoined (reach_each q.reachability u))) by_reach (start_sane q ok).single)

-- The facts with the pairs replaced one after the other
abbrev Replaced : Facts → Joined → Type 0
Replaced s j = j.facts ≡ replace_each j.pairs s

replace_each-append : (ps qs : Pairs) (s : Facts) → replace_each (ps ++ qs) s ≡ replace_each qs (replace_each ps s)
unfolding replace_each
replace_each-append [] qs s = refl
replace_each-append (ab ∷ ps) qs s = replace_each-append ps qs (replace ab.0 ab.1 s)

replaced_then : (s : Facts) (j : Joined) (f : Facts → Joined) → Replaced s j → Replaced j.facts (f j.facts) → Replaced s (and_then j f)
unfolding and_then
replaced_then s j f a b = b ∙ ap (replace_each (f j.facts).pairs) a ∙ sym (replace_each-append j.pairs (f j.facts).pairs s)

module _ (n : ℕ) where
  replaced_settle : (k : ℕ) (s : Facts) → Replaced s (settle n k s)
  unfolding settle unjoined join_pair replace_each Option-elim
  replaced_settle zero s = refl
  replaced_settle (suc k) s = go (doubled n s) (λ s'. replaced_settle k s')
    where
      go : (o : Option (ℕ × ℕ)) → ((s' : Facts) → Replaced s' (settle n k s')) → Replaced s (Option-elim o (unjoined s) (λ ab. and_then (join_pair ab s) (settle n k)))
      go none ih = refl
      go (some ab) ih = replaced_then s (join_pair ab s) (settle n k) refl (ih (replace ab.0 ab.1 s))

  pub replaced_join : (a b : ℕ) (s : Facts) → Replaced s (join n a b s)
  unfolding join unjoined join_pair replace_each
  replaced_join a b s = go (eqb a b)
    where
      both : Joined
      both = join_pair (min a b, max a b) s

      go : (c : Bool) → Replaced s (cond c (unjoined s) (and_then both (settle n n)))
      go true = refl
      go false = replaced_then s both (settle n n) refl (replaced_settle n both.facts)

  replaced_join_each : (ls : List Literal) (s : Facts) → Replaced s (join_each n ls s)
  unfolding join_each unjoined replace_each
  replaced_join_each [] s = refl
  replaced_join_each (l ∷ ls) s =
      let first : Joined = cond l.plain (join n (s.rep l.left) (s.rep l.right) s) (unjoined s) in
      replaced_then s first (join_each n ls) (go l.plain) (replaced_join_each ls first.facts)
    where
      go : (b : Bool) → Replaced s (cond b (join n (s.rep l.left) (s.rep l.right) s) (unjoined s))
      go true = replaced_join (s.rep l.left) (s.rep l.right) s
      go false = refl

pub replaced_branch : (n a b : ℕ) (s : Facts) → (branch n s (equal a b)).facts ≡ replace_each (branch n s (equal a b)).pairs s
unfolding branch
replaced_branch n a b s = replaced_join n a b s

pub replaced_start : (q : Query) → (before : Pairs) × (behind : Pairs) × ((start_joins q).pairs ≡ before ++ behind)
    × ((start_joins q).facts ≡ replace_each behind (with_nil (nil_terms q) (replace_each before (links_of q))))
unfolding start_joins and_then join_nil unjoined with_nil
replaced_start q = go (nil_terms q)
  where
    n : ℕ
    n = term_count q

    s : Facts
    s = links_of q

    settled : Joined
    settled = settle n n s

    nilled : List ℕ → Joined
    nilled ts = and_then settled (join_nil n ts)

    whole : List ℕ → Joined
    whole ts = and_then (nilled ts) (join_each n q.equalities)

    go : (ts : List ℕ) → (before : Pairs) × (behind : Pairs) × ((whole ts).pairs ≡ before ++ behind) × ((whole ts).facts ≡ replace_each behind (with_nil ts (replace_each before s)))
    go [] = (
      settled.pairs,
      (join_each n q.equalities settled.facts).pairs,
      ap (λ (ps : Pairs). ps ++ (join_each n q.equalities settled.facts).pairs) (append-nil settled.pairs),
      replaced_join_each n q.equalities settled.facts ∙ ap (replace_each (join_each n q.equalities settled.facts).pairs) (replaced_settle n n s),
    )
    go (t ∷ us) =
        let nils : Facts → Joined = join_each n (equal_to t us) in
        let equals : Facts → Joined = join_each n q.equalities in
        let first : Joined = and_then settled nils in
        let linked : Facts = add_nil_links t first.facts in
        let loops : Joined = settle n n linked in
        let at_nil : Replaced s first = replaced_then s settled nils (replaced_settle n n s) (replaced_join_each n (equal_to t us) settled.facts) in
        let behind : Replaced linked (and_then loops equals) = replaced_then linked loops equals (replaced_settle n n linked) (replaced_join_each n q.equalities loops.facts) in (
          first.pairs,
          (and_then loops equals).pairs,
          ap (λ (ps : Pairs). ps ++ (equals loops.facts).pairs) (sym (append_assoc settled.pairs (nils settled.facts).pairs loops.pairs))
              ∙ append_assoc (settled.pairs ++ (nils settled.facts).pairs) loops.pairs (equals loops.facts).pairs,
          behind ∙ ap (λ (u : Facts). replace_each (and_then loops equals).pairs (add_nil_links t u)) at_nil,
        )

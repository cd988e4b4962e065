-- The start holds the query, and every extension of it does.
use Prim.Native.Nat.{ℕ, ◌≤◌}
use native.Mathlib.Omega.{arith}
use mathlib.Core.Path.{◌≡◌, refl, sym, ap, ◌∙◌, subst}
use mathlib.Core.Logic.{⊎_elim}
use mathlib.Core.Bool.{Bool, true, false, cond, false≢true}
use mathlib.Core.List.Memᴰ
use mathlib.Core.List.{List, [], ◌∷◌, Memᴰ}
use lib.Dec.{eqb, ltb}
use Rattle.logic.specs.Search.{◌and◌}
use Rattle.logic.specs.Query.{Literal, Query, argument_of, link_of, term_count, literal}
use Rattle.logic.specs.Facts.{Facts, settle, join, add_reach, links_of, unjoined, and_then, join_each, reach_each, nil_terms, add_links, equal_to, add_nil_links, join_nil, start_joins, start}
use Rattle.theory.proofs.Basics.Search.{and_left, and_right, and_intro, or_right, map-mem, map_intro}
use Rattle.theory.proofs.Basics.Compare.{eqb-true, ltb-true, ltb_intro, leb_intro, eqb_self}
use Rattle.theory.proofs.Paths.Extends.{Extends, extends_trans, extends_add_links, rep_same, link-rep, reach-rep}
use Rattle.theory.proofs.Paths.Joined.{join_each_step}
use Rattle.theory.proofs.Paths.Ranged.{InRange, Ranged, live_intro, ranged_add_links}
use Rattle.theory.proofs.Paths.Kept.{Sane, Kept, kept_refl, kept_trans, kept_settle, join_kept, add_reach_kept}
use Rattle.theory.proofs.Query.Tied.{InLinks, Accepted, Tied}
use Rattle.theory.proofs.Query.Entries.{argument_range, nil_terms-mem, nil_terms_names}

-- the links of section 1 are in range
pub links_of_ranged : (q : Query) → Accepted q → Ranged (term_count q) (links_of q)
unfolding links_of term_count
links_of_ranged q acc =
    record {
      rep_live = λ t r. live_intro (term_count q) (links_of q) t r refl;
      link_live = λ i a b h.
          let (pos, e, at_link) = entry_of_lem i a b h in
          let r = argument_range q.entries b (subst (λ (x : ℕ). 1 ≤ x) (sym e) pos) in
          let below = acc.entry_below b r in
          (live_intro (term_count q) (links_of q) a (pos, omega (arith, below, e)) refl, live_intro (term_count q) (links_of q) b r refl);
      reach_live = λ i a b h. absurd (false≢true h);
      reach_linked = λ i a b h. absurd (false≢true h);
      link_linked = λ i a b h.
          let (pos, e, at_link) = entry_of_lem i a b h in
          let arg : 1 ≤ argument_of q.entries b = subst (λ (x : ℕ). 1 ≤ x) (sym e) pos in
          subst (InLinks q) at_link (acc.entry_linked b (argument_range q.entries b arg) arg);
    }
  where
    -- a link of section 1 is that of a term and its argument
    entry_of_lem : (i a b : ℕ) → (ltb 0 a and eqb (argument_of q.entries b) a and eqb (link_of q.entries b) i) ≡ true → (1 ≤ a) × (argument_of q.entries b ≡ a) × (link_of q.entries b ≡ i)
    entry_of_lem i a b h =
        let p = and_left (ltb 0 a and eqb (argument_of q.entries b) a) (eqb (link_of q.entries b) i) h in (
          ltb-true 0 a (and_left (ltb 0 a) (eqb (argument_of q.entries b) a) p),
          eqb-true (argument_of q.entries b) a (and_right (ltb 0 a) (eqb (argument_of q.entries b) a) p),
          eqb-true (link_of q.entries b) i (and_right (ltb 0 a and eqb (argument_of q.entries b) a) (eqb (link_of q.entries b) i) h),
        )

-- A literal taken into a path where it is plain: `op` takes it, and `Held` is what that makes of the path. Both sections of plain
-- literals are taken so.
abbrev taken : (Literal → Facts → Facts) → Literal → Facts → Facts
taken op l s = cond l.plain (op l s) s

pub take_each : (Literal → Facts → Facts) → List Literal → Facts → Facts
take_each op [] s = s
take_each op (l ∷ ls) s = take_each op ls (taken op l s)

module _ (n links : ℕ) (Fit : Literal → Type 0) (op : Literal → Facts → Facts) (Held : Literal → Facts → Type 0) where
  -- what is known of an operation on literals that fit n terms and so many links
  pub record Takes : Type 0 where
    pub kept : (l : Literal) (s : Facts) → Fit l → s.links ≡ links → Sane n s → Kept n s (op l s)
    pub made : (l : Literal) (s : Facts) → Fit l → Sane n s → Held l (op l s)
    pub stays : (l : Literal) (s s' : Facts) → Extends s s' → Held l s → Held l s'

  module _ (t : Takes) where
    taken-kept : (l : Literal) (s : Facts) → Fit l → s.links ≡ links → Sane n s → Kept n s (taken op l s) × (l.plain ≡ true → Held l (taken op l s))
    taken-kept l s r k h = go l.plain
      where
        go : (b : Bool) → Kept n s (cond b (op l s) s) × (b ≡ true → Held l (cond b (op l s) s))
        go true = (t.kept l s r k h, λ e. t.made l s r h)
        go false = (kept_refl h, λ e. absurd (false≢true e))

    pub take_each-kept : (ls : List Literal) (s : Facts) → ((l : Literal) → Memᴰ l ls → Fit l) → s.links ≡ links → Sane n s →
        Kept n s (take_each op ls s) × ((l : Literal) → Memᴰ l ls → l.plain ≡ true → Held l (take_each op ls s))
    unfolding take_each
    take_each-kept [] s r k h = (kept_refl h, λ l m. absurd (Memᴰ.not-nil m))
    take_each-kept (l ∷ ls) s r e h =
        let j = taken-kept l s (r l (Memᴰ.head refl)) e h in
        let k = take_each-kept ls (taken op l s) (λ l' m. r l' (Memᴰ.tail m)) (j.0.extends.same_links ∙ e) j.0.sane in (
          kept_trans j.0 k.0,
          λ l' m p.
              ⊎_elim
              (λ e. subst (λ (x : Literal). Held x (take_each op ls (taken op l s))) (sym e)
              (t.stays l _ _ k.0.extends (j.1 (subst (λ (x : Literal). x.plain ≡ true) e p))))
              (λ m'. k.1 l' m' p)
              (Memᴰ.cases_cons m),
        )

-- a plain equality joins its two terms
abbrev join_literal : ℕ → Literal → Facts → Facts
join_literal n l s = (join n (s.rep l.left) (s.rep l.right) s).facts

abbrev pub EqualHeld : Literal → Facts → Type 0
EqualHeld l s = s.rep l.left ≡ s.rep l.right

-- the terms of a literal are terms; and its link is one
abbrev InTerms : ℕ → Literal → Type 0
InTerms n l = InRange n l.left × InRange n l.right

abbrev InBoth : ℕ → ℕ → Literal → Type 0
InBoth n links l = InTerms n l × InRange links l.link

join_literal_takes : (n links : ℕ) → Takes n links (InTerms n) (join_literal n) EqualHeld
join_literal_takes n links =
    record {
      kept = λ l s r k h. (joins l s r h).0;
      made = λ l s r h. (joins l s r h).1 l.left l.right refl refl;
      stays = λ l s s' e p. rep_same e l.left l.right p;
    }
  where
    joins : (l : Literal) (s : Facts) → InRange n l.left × InRange n l.right → Sane n s → Kept n s (join_literal n l s)
        × ((t u : ℕ) → s.rep t ≡ s.rep l.left → s.rep u ≡ s.rep l.right → (join_literal n l s).rep t ≡ (join_literal n l s).rep u)
    joins l s r h = join_kept n (s.rep l.left) (s.rep l.right) s (h.ranged.rep_live l.left r.0) (h.ranged.rep_live l.right r.1) h

-- a plain reachability literal adds its fact
abbrev reach_literal : Literal → Facts → Facts
reach_literal l s = add_reach l.link (s.rep l.left) (s.rep l.right) s

abbrev pub ReachHeld : Literal → Facts → Type 0
ReachHeld l s = (s.graph l.link).reach (s.rep l.left) (s.rep l.right) ≡ true

pub add_reach-held : (i a b : ℕ) (s : Facts) → ((add_reach i a b s).graph i).reach a b ≡ true
unfolding add_reach
add_reach-held i a b s = or_right ((s.graph i).reach a b) (and_intro (and_intro (eqb_self i) (eqb_self a)) (eqb_self b))

add_links-held : (i a b : ℕ) (s : Facts) → InRange s.links i → ((add_links a b s).graph i).link a b ≡ true
unfolding add_links
add_links-held i a b s r = or_right ((s.graph i).link a b) (and_intro (and_intro (and_intro (ltb_intro r.0) (leb_intro r.1)) (eqb_self a)) (eqb_self b))

reach_literal_takes : (n links : ℕ) → Takes n links (InBoth n links) reach_literal ReachHeld
unfolding add_reach
reach_literal_takes n links =
    record {
      kept = λ l s r k h.
          add_reach_kept n (s.rep l.left) (s.rep l.right) s (h.ranged.rep_live l.left r.0.0) (h.ranged.rep_live l.right r.0.1) l.link
          (subst (λ (i : ℕ). InRange i l.link) (sym k) r.1) h;
      made = λ l s r h. add_reach-held l.link (s.rep l.left) (s.rep l.right) s;
      stays = λ l s s' e p. reach-rep e l.link l.left l.right p;
    }

join_each_is : (n : ℕ) (ls : List Literal) (s : Facts) → (join_each n ls s).facts ≡ take_each (join_literal n) ls s
unfolding join_each unjoined take_each
join_each_is n [] s = refl
join_each_is n (l ∷ ls) s = join_each_step n l ls s ∙ join_each_is n ls _

-- joining plain equalities keeps, and makes them held
pub join_each-kept : (n : ℕ) (ls : List Literal) (s : Facts) → ((l : Literal) → Memᴰ l ls → InRange n l.left × InRange n l.right) →
    Sane n s → Kept n s (join_each n ls s).facts × ((l : Literal) → Memᴰ l ls → l.plain ≡ true → EqualHeld l (join_each n ls s).facts)
join_each-kept n ls s r h = rw (join_each_is n ls s) (take_each-kept n s.links (InTerms n) (join_literal n) EqualHeld (join_literal_takes n s.links) ls s r refl h)

reach_each_is : (ls : List Literal) (s : Facts) → reach_each ls s ≡ take_each reach_literal ls s
unfolding reach_each take_each
reach_each_is [] s = refl
reach_each_is (l ∷ ls) s = reach_each_is ls _

-- nil: each other nil term is joined to the first, and then the link is added and its doubled successors are joined

-- these terms are one, and each of their links goes to themselves
pub record NilHeld (ts : List ℕ) (s : Facts) : Type 0 where
  pub same : (t u : ℕ) → Memᴰ t ts → Memᴰ u ts → s.rep t ≡ s.rep u
  pub linked : (i t : ℕ) → InRange s.links i → Memᴰ t ts → (s.graph i).link (s.rep t) (s.rep t) ≡ true

pub nil_held_extends : {ts : List ℕ} {s s' : Facts} → Extends s s' → NilHeld ts s → NilHeld ts s'
nil_held_extends e h =
    record {
      same = λ t u m k. rep_same e t u (h.same t u m k);
      linked = λ i t r m. link-rep e i t t (h.linked i t (subst (λ (k : ℕ). InRange k i) e.same_links r) m);
    }

module _ (n : ℕ) where
  equal_to-mem : (t : ℕ) (us : List ℕ) (l : Literal) → Memᴰ l (equal_to t us) → (u : ℕ) × Memᴰ u us × (l ≡ literal true t u)
  unfolding equal_to
  equal_to-mem t us l m = map-mem (λ u. literal true t u) l us m

  equal_to_intro : (t : ℕ) (us : List ℕ) (u : ℕ) → Memᴰ u us → Memᴰ (literal true t u) (equal_to t us)
  unfolding equal_to
  equal_to_intro t us u m = map_intro (λ u. literal true t u) u m

  -- the first of the terms is as good as each
  first_held : (t : ℕ) (us : List ℕ) (s : Facts) → ((u : ℕ) → Memᴰ u us → s.rep t ≡ s.rep u) →
      ((i : ℕ) → InRange s.links i → (s.graph i).link (s.rep t) (s.rep t) ≡ true) → NilHeld (t ∷ us) s
  first_held t us s same linked =
      let each : (u : ℕ) → Memᴰ u (t ∷ us) → s.rep t ≡ s.rep u = λ u m. ⊎_elim (λ e. ap s.rep (sym e)) (same u) (Memᴰ.cases_cons m) in
      record {
        same = λ u v m k. sym (each u m) ∙ each v k;
        linked = λ i u ri m. subst (λ (r : ℕ). (s.graph i).link r r ≡ true) (each u m) (linked i ri);
      }

  pub join_nil-kept : (ts : List ℕ) (s : Facts) → ((t : ℕ) → Memᴰ t ts → InRange n t) → Sane n s → Kept n s (join_nil n ts s).facts × NilHeld ts (join_nil n ts s).facts
  unfolding join_nil unjoined and_then add_nil_links add_links
  join_nil-kept [] s r h = (kept_refl h, record { same = λ t u m. absurd (Memᴰ.not-nil m); linked = λ i t r m. absurd (Memᴰ.not-nil m) })
  join_nil-kept (t ∷ us) s r h =
      let joined : Facts = (join_each n (equal_to t us) s).facts in
      let (k, held) = joined-kept in
      let lt = k.sane.ranged.rep_live t (r t (Memᴰ.head refl)) in
      let linked : Facts = add_nil_links t joined in
      let e : Extends joined linked = extends_add_links (joined.rep t) (joined.rep t) joined in
      let settled = kept_settle n linked (ranged_add_links n (joined.rep t) (joined.rep t) joined lt lt k.sane.ranged) in (
        record { sane = settled.sane; extends = extends_trans k.extends (extends_trans e settled.extends) },
        nil_held_extends settled.extends (first_held t us linked (λ u m. held u m) (λ i ri. add_links-held i (joined.rep t) (joined.rep t) joined ri)),
      )
    where
      in_range : (l : Literal) → Memᴰ l (equal_to t us) → InRange n l.left × InRange n l.right
      in_range l m =
          let (u, k, e) = equal_to-mem t us l m in
          subst (λ (x : Literal). InRange n x.left × InRange n x.right) (sym e) (r t (Memᴰ.head refl), r u (Memᴰ.tail k))

      joined-kept : Kept n s (join_each n (equal_to t us) s).facts × ((u : ℕ) → Memᴰ u us → (join_each n (equal_to t us) s).facts.rep t ≡ (join_each n (equal_to t us) s).facts.rep u)
      joined-kept =
          let (k, held) = join_each-kept n (equal_to t us) s in_range h in
          (k, λ u m. held (literal true t u) (equal_to_intro t us u m) refl)

-- What an extension of a path that holds the query keeps
pub tied_kept : (q : Query) (s s' : Facts) → Tied q s → Kept (term_count q) s s' → Tied q s'
tied_kept q s s' t k =
    record {
      rep_live = k.sane.ranged.rep_live;
      same_links = k.extends.same_links ∙ t.same_links;
      entry_link = λ u r h. link-rep k.extends (link_of q.entries u) (argument_of q.entries u) u (t.entry_link u r h);
      nil_same = λ u v h h'. rep_same k.extends u v (t.nil_same u v h h');
      nil_link = λ i u r h. link-rep k.extends i u u (t.nil_link i u r h);
      equal_held = λ l m p. rep_same k.extends l.left l.right (t.equal_held l m p);
      reach_held = λ l m p. reach-rep k.extends l.link l.left l.right (t.reach_held l m p);
    }

-- The start is sane and holds the query.
module _ (q : Query) (acc : Accepted q) where
  abbrev count : ℕ
  count = term_count q

  abbrev linked : Facts
  linked = (settle count count (links_of q)).facts

  abbrev nilled : Facts
  nilled = (join_nil count (nil_terms q) linked).facts

  abbrev joined : Facts
  joined = (join_each count q.equalities nilled).facts

  linked-kept : Kept count (links_of q) linked
  linked-kept = kept_settle count (links_of q) (links_of_ranged q acc)

  nilled-kept : Kept count linked nilled × NilHeld (nil_terms q) nilled
  nilled-kept = join_nil-kept count (nil_terms q) linked (λ t m. (nil_terms_names q t m).0) linked-kept.sane

  -- the facts before the equalities are sane
  pub nilled_sane : Sane count nilled
  nilled_sane = nilled-kept.0.sane

  joined-kept : Kept count nilled joined × ((l : Literal) → Memᴰ l q.equalities → l.plain ≡ true → EqualHeld l joined)
  joined-kept = join_each-kept count q.equalities nilled acc.equal_terms nilled_sane

  joined-links : joined.links ≡ q.links
  unfolding links_of
  joined-links = joined-kept.0.extends.same_links ∙ nilled-kept.0.extends.same_links ∙ linked-kept.extends.same_links

  reached_kept : Kept count joined (start q) × ((l : Literal) → Memᴰ l q.reachability → l.plain ≡ true → ReachHeld l (start q))
  unfolding start start_joins and_then
  reached_kept =
      rw (reach_each_is q.reachability joined)
      (take_each-kept count q.links (InBoth count q.links) reach_literal ReachHeld (reach_literal_takes count q.links) q.reachability joined
      (λ l m. (acc.reach_terms l m, acc.reach_linked l m)) joined-links joined-kept.0.sane)

  nil-held-kept : Kept count nilled (start q)
  nil-held-kept = kept_trans joined-kept.0 reached_kept.0

  start-kept : Kept count (links_of q) (start q)
  start-kept = kept_trans linked-kept (kept_trans nilled-kept.0 nil-held-kept)

  start-nil : NilHeld (nil_terms q) (start q)
  start-nil = nil_held_extends nil-held-kept.extends nilled-kept.1

  -- the links of section 1 are held from the first
  entry_held : (t : ℕ) → 1 ≤ argument_of q.entries t → ((links_of q).graph (link_of q.entries t)).link (argument_of q.entries t) t ≡ true
  unfolding links_of
  entry_held t h = and_intro (and_intro (ltb_intro h) (eqb_self (argument_of q.entries t))) (eqb_self (link_of q.entries t))

  pub start_sane : Sane count (start q)
  start_sane = start-kept.sane

  pub start_tied : Tied q (start q)
  unfolding links_of
  start_tied =
      record {
        rep_live = start_sane.ranged.rep_live;
        same_links = start-kept.extends.same_links;
        entry_link = λ t r h. link-rep start-kept.extends (link_of q.entries t) (argument_of q.entries t) t (entry_held t h);
        nil_same = λ t u h k. start-nil.same t u (nil_terms-mem q t h) (nil_terms-mem q u k);
        nil_link = λ i t r h. start-nil.linked i t (subst (λ (k : ℕ). InRange k i) (sym start-kept.extends.same_links) r) (nil_terms-mem q t h);
        equal_held = λ l m p. rep_same reached_kept.0.extends l.left l.right (joined-kept.1 l m p);
        reach_held = reached_kept.1;
      }

-- The pairs that joining hands back account for what it made of a path (02, R-1): one pair does, and so do joins one after the other.
use Prim.Native.Nat.{ℕ, zero, suc, ◌+◌, ◌<◌}
use native.Mathlib.Omega.{arith}
use mathlib.Core.Path.{◌≡◌, refl, sym, ap, ap₂, ◌∙◌, subst}
use mathlib.Core.Logic.{⊎_elim}
use mathlib.Core.Bool.{Bool, true, false, not, cond, false≢true}
use mathlib.Core.List.Memᴰ
use mathlib.Core.List.{List, [], ◌∷◌, ◌++◌, Memᴰ}
use mathlib.Core.Option.{Option, none, some, Option-elim}
use lib.ListN.{length, length-append}
use lib.Dec.{eqb}
use Rattle.logic.specs.Search.{◌and◌, select}
use Rattle.logic.specs.Query.{Literal, Query, term_count, literal}
use Rattle.logic.specs.Facts.{Facts, Joined, live, replace, doubled, unjoined, join_pair, and_then, settle, join, join_each, add_reach}
use Rattle.logic.specs.Facts.{links_of, reach_each, nil_terms, add_links, equal_to, add_nil_links, join_nil, start_joins, start}
use Rattle.logic.specs.Rules.{Fact, equal, reaches, branch}
use Rattle.logic.specs.JoinPairs.{follow_pairs, times_replaced, Accounts}
use Rattle.theory.proofs.Basics.Search.{not_of, map-mem}
use Rattle.theory.proofs.Basics.Compare.{eqb_intro, eqb-false, eq_cases}
use Rattle.theory.proofs.Query.Tied.{Accepted}
use Rattle.theory.proofs.Query.Entries.{nil_terms_names}
use Rattle.theory.proofs.Paths.Doubled.{doubled-some}
use Rattle.theory.proofs.Paths.Ranged.{InRange, Ranged, replace-live, replace-not-live, ranged_replace, ranged_add_links}
use Rattle.theory.proofs.Paths.Settle.{doubled-live}
use Rattle.theory.proofs.Paths.Kept.{Sane, LiveFact, kept_settle, low_high, join_kept}
use Rattle.theory.proofs.Paths.Start.{links_of_ranged, join_each-kept, nilled_sane}

-- Pairs behind others

follow_pairs-append : (ps qs : List (ℕ × ℕ)) (t : ℕ) → follow_pairs (ps ++ qs) t ≡ follow_pairs qs (follow_pairs ps t)
unfolding follow_pairs
follow_pairs-append [] qs t = refl
follow_pairs-append (p ∷ ps) qs t = follow_pairs-append ps qs (cond (eqb t p.1) p.0 t)

select-append : {A : Type 0} (p : A → Bool) (xs ys : List A) → select p (xs ++ ys) ≡ select p xs ++ select p ys
unfolding select
select-append p [] ys = refl
select-append p (x ∷ xs) ys = go (p x) (select-append p xs ys)
  where
    go : (b : Bool) → select p (xs ++ ys) ≡ select p xs ++ select p ys → cond b (x ∷ select p (xs ++ ys)) (select p (xs ++ ys)) ≡ cond b (x ∷ select p xs) (select p xs) ++ select p ys
    go true e = ap (λ zs. x ∷ zs) e
    go false e = e

times_replaced-append : (t : ℕ) (ps qs : List (ℕ × ℕ)) → times_replaced t (ps ++ qs) ≡ times_replaced t ps + times_replaced t qs
unfolding times_replaced
times_replaced-append t ps qs =
    let p : ℕ × ℕ → Bool = λ ab. eqb ab.1 t in
    ap length (select-append p ps qs) ∙ length-append (select p ps) (select p qs)

-- 1 for a term that was itself and is so no longer; and so in two stretches
gone_of : Bool → Bool → ℕ
gone_of before now = cond (before and not now) 1 0

gone_sum : (a b c : Bool) → (b ≡ true → a ≡ true) → (c ≡ true → b ≡ true) → gone_of a b + gone_of b c ≡ gone_of a c
unfolding gone_of ◌and◌
gone_sum true true true p q = refl
gone_sum true true false p q = refl
gone_sum true false true p q = absurd (false≢true (q refl))
gone_sum true false false p q = refl
gone_sum false true c p q = absurd (false≢true (p refl))
gone_sum false false c p q = refl

gone_none : (a : Bool) → gone_of a a ≡ 0
unfolding gone_of ◌and◌
gone_none true = refl
gone_none false = refl

renamed : (lo hi : ℕ) (s : Facts) (t : ℕ) → (replace lo hi s).rep t ≡ cond (eqb (s.rep t) hi) lo (s.rep t)
unfolding replace
renamed lo hi s t = refl

module _ (n : ℕ) where
  pub accounts_unjoined : (s s' : Facts) → s'.rep ≡ s.rep → Accounts n s (unjoined s')
  unfolding unjoined follow_pairs times_replaced select live gone_of
  accounts_unjoined s s' e =
      record {
        followed = λ t. ap (λ (r : ℕ → ℕ). r t) e;
        once = λ t. sym (ap (λ (r : ℕ → ℕ). cond (live n s t and not (live n (record { rep = r; links = s.links; graph = s.graph }) t)) 1 0) e ∙ gone_none (live n s t));
        stays = λ t h. subst (λ (r : ℕ → ℕ). live n (record { rep = r; links = s.links; graph = s.graph }) t ≡ true) e h;
        lower = λ ab m. absurd (Memᴰ.not-nil m);
      }

  accounts_pair : (lo hi : ℕ) (s : Facts) → live n s lo ≡ true → live n s hi ≡ true → lo < hi → Accounts n s (join_pair (lo, hi) s)
  unfolding join_pair follow_pairs times_replaced select gone_of ◌and◌
  accounts_pair lo hi s ll lh lt =
      record {
        followed = λ t. renamed lo hi s t;
        once = λ t. ⊎_elim (at_hi t) (λ d. elsewhere t d.0) (eq_cases t hi);
        stays = λ t h. (replace-not-live n lo hi s ll lh apart t h).0;
        lower = λ ab m. subst (λ (p : ℕ × ℕ). p.0 < p.1) (sym (Memᴰ.eq_of_singleton m)) lt;
      }
    where
      apart : lo ≡ hi → ⊥
      apart e = omega arith

      pair : List (ℕ × ℕ)
      pair = (lo, hi) ∷ []

      at_hi : (t : ℕ) → t ≡ hi → length (cond (eqb hi t) pair []) ≡ cond (live n s t and not (live n (replace lo hi s) t)) 1 0
      at_hi t e =
          let l : live n s t ≡ true = subst (λ (u : ℕ). live n s u ≡ true) (sym e) lh in
          let g : live n (replace lo hi s) t ≡ false = not_of (λ h. (replace-not-live n lo hi s ll lh apart t h).1 e) in
          rw (eqb_intro {m = hi} {n = t} (sym e), l, g) refl

      elsewhere : (t : ℕ) → (t ≡ hi → ⊥) → length (cond (eqb hi t) pair []) ≡ cond (live n s t and not (live n (replace lo hi s) t)) 1 0
      elsewhere t d = rw (eqb-false hi t (λ e. d (sym e))) (sym (go (live n s t) refl))
        where
          go : (b : Bool) → live n s t ≡ b → gone_of b (live n (replace lo hi s) t) ≡ 0
          go true e = rw (replace-live n lo hi s ll lh apart t e d) refl
          go false e = refl

  -- facts that differ in what they hold, and not in what became of the terms
  accounts_from : (s s' : Facts) (j : Joined) → s'.rep ≡ s.rep → Accounts n s' j → Accounts n s j
  unfolding live
  accounts_from s s' j e a =
      record {
        followed = λ t. a.followed t ∙ ap (λ (r : ℕ → ℕ). follow_pairs j.pairs (r t)) e;
        once = λ t. a.once t ∙ ap (λ (r : ℕ → ℕ). cond (live n (record { rep = r; links = s.links; graph = s.graph }) t and not (live n j.facts t)) 1 0) e;
        stays = λ t h. subst (λ (r : ℕ → ℕ). live n (record { rep = r; links = s.links; graph = s.graph }) t ≡ true) e (a.stays t h);
        lower = a.lower;
      }

  nil-rep : (t : ℕ) (s : Facts) → (add_nil_links t s).rep ≡ s.rep
  unfolding add_nil_links add_links
  nil-rep t s = refl

  nil_ranged : (t : ℕ) (s : Facts) → live n s (s.rep t) ≡ true → Ranged n s → Ranged n (add_nil_links t s)
  unfolding add_nil_links
  nil_ranged t s l r = ranged_add_links n (s.rep t) (s.rep t) s l l r

  accounts_then : (s : Facts) (j : Joined) (f : Facts → Joined) → Accounts n s j → Accounts n j.facts (f j.facts) → Accounts n s (and_then j f)
  unfolding and_then gone_of
  accounts_then s j f a b =
      record {
        followed = λ t. b.followed t ∙ ap (follow_pairs (f j.facts).pairs) (a.followed t) ∙ sym (follow_pairs-append j.pairs (f j.facts).pairs (s.rep t));
        once = λ t.
            times_replaced-append t j.pairs (f j.facts).pairs ∙ ap₂ (λ (x y : ℕ). x + y) (a.once t) (b.once t)
            ∙ gone_sum (live n s t) (live n j.facts t) (live n (f j.facts).facts t) (a.stays t) (b.stays t);
        stays = λ t h. a.stays t (b.stays t h);
        lower = λ ab m. ⊎_elim (a.lower ab) (b.lower ab) (Memᴰ.append_cases j.pairs m);
      }

  pub accounts_settle : (k : ℕ) (s : Facts) → Ranged n s → Accounts n s (settle n k s)
  unfolding settle join_pair Option-elim
  accounts_settle zero s r = accounts_unjoined s s refl
  accounts_settle (suc k) s r = go (doubled n s) refl (λ s' r'. accounts_settle k s' r')
    where
      go : (o : Option (ℕ × ℕ)) → doubled n s ≡ o → ((s' : Facts) → Ranged n s' → Accounts n s' (settle n k s')) →
          Accounts n s (Option-elim o (unjoined s) (λ ab. and_then (join_pair ab s) (settle n k)))
      go none e ih = accounts_unjoined s s refl
      go (some ab) e ih =
          let l = doubled-live n s ab r e in
          let d = doubled-some n s ab e in
          accounts_then s (join_pair ab s) (settle n k) (accounts_pair ab.0 ab.1 s l.0 l.1 d.lower)
          (ih (replace ab.0 ab.1 s) (ranged_replace n ab.0 ab.1 s l.0 l.1 l.2 r))

  pub accounts_join : (a b : ℕ) (s : Facts) → live n s a ≡ true → live n s b ≡ true → Ranged n s → Accounts n s (join n a b s)
  unfolding join join_pair
  accounts_join a b s la lb r =
      ⊎_elim
      (λ e. rw (eqb_intro {m = a} {n = b} e) (accounts_unjoined s s refl))
      (λ d. rw d.1 (low_high (λ lo hi. lo < hi → Accounts n s (and_then (join_pair (lo, hi) s) (settle n n))) a b (step a b la lb) (step b a lb la) (omega (arith, d.0))))
      (eq_cases a b)
    where
      step : (lo hi : ℕ) → live n s lo ≡ true → live n s hi ≡ true → lo < hi → Accounts n s (and_then (join_pair (lo, hi) s) (settle n n))
      step lo hi ll lh lt =
          accounts_then s (join_pair (lo, hi) s) (settle n n) (accounts_pair lo hi s ll lh lt)
          (accounts_settle n (replace lo hi s) (ranged_replace n lo hi s ll lh (λ e. omega arith) r))

  pub accounts_join_each : (ls : List Literal) (s : Facts) → ((l : Literal) → Memᴰ l ls → InRange n l.left × InRange n l.right) → Sane n s → Accounts n s (join_each n ls s)
  unfolding join_each unjoined
  accounts_join_each [] s r h = accounts_unjoined s s refl
  accounts_join_each (l ∷ ls) s r h = go l.plain (λ s' h'. accounts_join_each ls s' (λ l' m. r l' (Memᴰ.tail m)) h')
    where
      go : (b : Bool) → ((s' : Facts) → Sane n s' → Accounts n s' (join_each n ls s')) → Accounts n s (and_then (cond b (join n (s.rep l.left) (s.rep l.right) s) (unjoined s)) (join_each n ls))
      go true ih =
          let t = r l (Memᴰ.head refl) in
          let la = h.ranged.rep_live l.left t.0 in
          let lb = h.ranged.rep_live l.right t.1 in
          accounts_then s (join n (s.rep l.left) (s.rep l.right) s) (join_each n ls) (accounts_join (s.rep l.left) (s.rep l.right) s la lb h.ranged)
          (ih _ (join_kept n (s.rep l.left) (s.rep l.right) s la lb h).0.sane)
      go false ih = accounts_then s (unjoined s) (join_each n ls) (accounts_unjoined s s refl) (ih s h)

  pub accounts_join_nil : (ts : List ℕ) (s : Facts) → ((t : ℕ) → Memᴰ t ts → InRange n t) → Sane n s → Accounts n s (join_nil n ts s)
  unfolding join_nil equal_to
  accounts_join_nil [] s r h = accounts_unjoined s s refl
  accounts_join_nil (t ∷ us) s r h =
      let nil_pair : ℕ → Literal = λ u. literal true t u in
      let rt = r t (Memᴰ.head refl) in
      let in_range : (l : Literal) → Memᴰ l (equal_to t us) → InRange n l.left × InRange n l.right = λ l m.
      let (u, k, p) = map-mem nil_pair l us m in
      subst (λ (x : Literal). InRange n x.left × InRange n x.right) (sym p) (rt, r u (Memᴰ.tail k)) in
      let j : Facts = (join_each n (equal_to t us) s).facts in
      let k = (join_each-kept n (equal_to t us) s in_range h).0 in
      let lt = k.sane.ranged.rep_live t rt in
      accounts_then s (join_each n (equal_to t us) s) (λ s'. settle n n (add_nil_links t s')) (accounts_join_each (equal_to t us) s in_range h)
      (accounts_from j (add_nil_links t j) (settle n n (add_nil_links t j)) (nil-rep t j) (accounts_settle n (add_nil_links t j) (nil_ranged t j lt k.sane.ranged)))

  pub accounts_branch : (s : Facts) (c : Fact) → LiveFact n s c → Ranged n s → Accounts n s (branch n s c)
  unfolding branch LiveFact add_reach
  accounts_branch s (equal a b) l r = accounts_join a b s l.0 l.1 r
  accounts_branch s (reaches i a b) l r = accounts_unjoined s (add_reach i a b s) refl

-- the start
pub accounts_start : (q : Query) → Accepted q → Accounts (term_count q) (links_of q) (start_joins q)
unfolding start_joins and_then
accounts_start q ok =
    let n = term_count q in
    let links : Facts = links_of q in
    let r = links_of_ranged q ok in
    let settled = accounts_settle n n links r in
    let nil = accounts_join_nil n (nil_terms q) (settle n n links).facts (λ t m. (nil_terms_names q t m).0) (kept_settle n links r).sane in
    accounts_then n links (and_then (settle n n links) (join_nil n (nil_terms q))) (join_each n q.equalities)
    (accounts_then n links (settle n n links) (join_nil n (nil_terms q)) settled nil)
    (accounts_join_each n q.equalities (join_nil n (nil_terms q) (settle n n links).facts).facts ok.equal_terms (nilled_sane q ok))

-- reachability facts rename nothing
reach_each-rep : (ls : List Literal) (s : Facts) → (reach_each ls s).rep ≡ s.rep
unfolding reach_each add_reach
reach_each-rep [] s = refl
reach_each-rep (l ∷ ls) s = reach_each-rep ls _ ∙ go l.plain
  where
    go : (b : Bool) → (cond b (add_reach l.link (s.rep l.left) (s.rep l.right) s) s).rep ≡ s.rep
    go true = refl
    go false = refl

pub start_followed : (q : Query) → Accepted q → (t : ℕ) → (start q).rep t ≡ follow_pairs (start_joins q).pairs t
unfolding start links_of
start_followed q ok t = ap (λ (r : ℕ → ℕ). r t) (reach_each-rep q.reachability (start_joins q).facts) ∙ (accounts_start q ok).followed t

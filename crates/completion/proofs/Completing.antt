-- Links given to one term after the other.
use Prim.Native.Nat.{ℕ, suc, ◌+◌, ◌-◌, ◌≤◌, ◌<◌}
use native.Mathlib.Omega.{arith}
use mathlib.Core.Path.{◌≡◌, refl, sym, ap, ap₂, ◌∙◌, fun_ext}
use mathlib.Core.Logic.{⊎_elim}
use mathlib.Core.Bool.{Bool, true, false, not, cond, ◌&&◌}
use mathlib.Core.List.{List, [], ◌∷◌, Memᴰ}
use mathlib.Core.Option
use mathlib.Core.Option.{Option, none, some}
use lib.ListN.{length, get_or, set, length-set}
use lib.Dec.{eqb, ltb}
use borrow.Author.Tests.{lt-ltb, eqb-true, eq-eqb}
use Rattle.logic.specs.Search.{◌and◌, from, any, select, find}
use Rattle.logic.specs.Facts.{Graph, Facts, terms, live, live_terms}
use Rattle.logic.specs.Rules.{next}
use Rattle.logic.specs.Shown.{reached, in_basin, heads, basin_link, tree_link, new_link, link_each, shown_link, on_path}
use Rattle.theory.proofs.Basics.Search.{bool_cases, select-mem, find-some, from-mem}
use Rattle.rows.specs.Square.{square}
use Rattle.facts.specs.Path.{rep_of, links_in}
use Rattle.completion.specs.Links.{link_of, InRange, reach_in, link_at}
use Rattle.rows.proofs.Selections.{terms-from, select_end, select_here, select_skip, select_alike, and_both}
use Rattle.facts.proofs.Path.{linking}
use Rattle.facts.proofs.Rep.{rep_in}
use Rattle.completion.proofs.Links.{link_set, next_below}

-- the link of one term
module _ (n : ℕ) (g : Graph) (p : ℕ → ℕ) (v : ℕ) where
  pub new_basin : in_basin n g v ≡ true → new_link n g p v ≡ basin_link n p (reached n g v) v
  unfolding new_link
  new_basin e = rw e

  pub new_tree : in_basin n g v ≡ false → new_link n g p v ≡ tree_link n g v
  unfolding new_link
  new_tree e = rw e

  pub at_new : (rep : ℕ → ℕ) → eqb (rep v) v && eqb (p v) 0 ≡ true → link_at n g rep p v ≡ new_link n g p v
  unfolding link_at
  at_new rep e = rw (← and_both, e)

  pub at_kept : (rep : ℕ → ℕ) → eqb (rep v) v && eqb (p v) 0 ≡ false → link_at n g rep p v ≡ p v
  unfolding link_at
  at_kept rep e = rw (← and_both, e)

  -- a link that is given is a term, or none
  below : (q : ℕ → Bool) (xs : List ℕ) → ((x : ℕ) → Memᴰ x xs → x ≤ n) → Option.get_or (find q xs) 0 ≤ n
  below q xs h = go (find q xs) refl
    where
      go : (o : Option ℕ) → find q xs ≡ o → Option.get_or o 0 ≤ n
      go none e = omega arith
      go (some a) e = h a (find-some q xs a e).0

  first_below : (xs : List ℕ) → ((x : ℕ) → Memᴰ x xs → x ≤ n) → get_or xs 0 0 ≤ n
  first_below [] h = omega arith
  first_below (x ∷ xs) h = h x (Memᴰ.head refl)

  reached-below : (x : ℕ) → Memᴰ x (reached n g v) → x ≤ n
  unfolding reached terms
  reached-below x m = let r = from-mem n 1 x (select-mem (g.reach v) x (from n 1) m).0 in omega arith

  heads-below : (x : ℕ) → Memᴰ x (heads p (reached n g v)) → x ≤ n
  unfolding heads
  heads-below x m = reached-below x (select-mem (λ b. not (any (λ u. eqb (p u) b) (reached n g v))) x (reached n g v) m).0

  cond_below : (b : Bool) (x y : ℕ) → x ≤ n → y ≤ n → cond b x y ≤ n
  cond_below true x y h k = h
  cond_below false x y h k = k

  pub new_below : new_link n g p v ≤ n
  unfolding new_link basin_link tree_link
  new_below =
      cond_below (in_basin n g v) _ _
      (cond_below (eqb (length (heads p (reached n g v))) 1) _ _
      (first_below (heads p (reached n g v)) heads-below)
      (below (λ b. not (on_path p v n b)) (heads p (reached n g v)) heads-below))
      (below _ (reached n g v) reached-below)

  pub at_below : (rep : ℕ → ℕ) → n ≤ 16 → p v ≤ 16 → link_at n g rep p v ≤ 16
  at_below rep h k =
      ⊎_elim (λ e. let b = new_below in rw (at_new rep e) (omega arith)) (λ e. rw (at_kept rep e) k) (bool_cases (eqb (rep v) v && eqb (p v) 0))

-- a term that is not replaced and has no link, as the code tests it
pub remains : (rep links : List ℕ) (v stands known : ℕ) → v ≤ 16 → stands ≡ get_or rep v 0 → known ≡ get_or links v 0 → (eqb (rep_of rep v) v && eqb (link_of links v) 0) ≡ (eqb stands v && eqb known 0)
unfolding link_of
remains rep links v stands known h e f = ap₂ (λ (r l : ℕ). eqb r v && eqb l 0) (rep_in rep v h ∙ sym e) (sym f)

-- the link that such a term gets
pub link_new : (n : ℕ) (g : Graph) (rep : ℕ → ℕ) (links : List ℕ) (v : ℕ) {r : ℕ} → (eqb (rep v) v && eqb (link_of links v) 0) ≡ true →
    r ≡ new_link n g (link_of links) v → r ≡ link_at n g rep (link_of links) v
link_new n g rep links v e f = f ∙ sym (at_new n g (link_of links) v rep e)

-- a turn of the loop over the terms
module _ (n : ℕ) (g : Graph) (rep : ℕ → ℕ) (links : List ℕ) (full : length links ≡ 17) (v : ℕ) (within : v ≤ n) (room : n ≤ 16) (r : ℕ) (given : r ≡ link_at n g rep (link_of links) v) where
  written : (t : ℕ) → link_of (set links v r) t ≡ cond (eqb t v) (link_at n g rep (link_of links) v) (link_of links t)
  written t = link_set links v (omega arith) r t ∙ ap (λ (x : ℕ). cond (eqb t v) x (link_of links t)) given

  same : (t : ℕ) → link_at n g rep (link_of links) v ≡ link_of links v → link_of links t ≡ link_of (set links v r) t
  same t e = sym (written t ∙ ⊎_elim (λ i. rw (eqb-true t v i, eq-eqb v v refl) e) (λ i. rw i) (bool_cases (eqb t v)))

  replaced : eqb (rep v) v ≡ false → link_of links ≡ link_of (set links v r)
  replaced e = fun_ext (λ t. same t (at_kept n g (link_of links) v rep (rw e)))

  turned : (t : ℕ) → eqb (rep v) v ≡ true → cond (eqb t v and eqb (link_of links v) 0) (new_link n g (link_of links) v) (link_of links t) ≡ link_of (set links v r) t
  unfolding link_at ◌and◌
  turned t e = sym (written t ∙ ⊎_elim here (λ i. rw i) (bool_cases (eqb t v)))
    where
      here : eqb t v ≡ true → cond (eqb t v) (link_at n g rep (link_of links) v) (link_of links t) ≡ cond (eqb t v and eqb (link_of links v) 0) (new_link n g (link_of links) v) (link_of links t)
      here i = rw (i, e, eqb-true t v i)

  pub link_turn : link_each n g (link_of links) (select (λ t. eqb (rep t) t) (from (n + 1 - v) v)) ≡ link_each n g (link_of (set links v r)) (select (λ t. eqb (rep t) t) (from (n + 1 - (v + 1)) (v + 1)))
  unfolding link_each
  link_turn =
      ⊎_elim
      (λ e. ap (link_each n g (link_of links)) (select_here (λ t. eqb (rep t) t) (n + 1) v (omega arith) e)
      ∙ ap (λ (p : ℕ → ℕ). link_each n g p (select (λ t. eqb (rep t) t) (from (n + 1 - (v + 1)) (v + 1)))) (fun_ext (λ t. turned t e)))
      (λ e. ap (link_each n g (link_of links)) (select_skip (λ t. eqb (rep t) t) (n + 1) v (omega arith) e)
      ∙ ap (λ (p : ℕ → ℕ). link_each n g p (select (λ t. eqb (rep t) t) (from (n + 1 - (v + 1)) (v + 1)))) (replaced e))
      (bool_cases (eqb (rep v) v))

  pub turn_range : InRange links → InRange (set links v r)
  turn_range h t = rw (written t) (⊎_elim (λ i. rw i (at_below n g (link_of links) v rep room (h v))) (λ i. rw i (h t)) (bool_cases (eqb t v)))

-- a turn that writes nothing
pub link_kept : (n : ℕ) (g : Graph) (rep : ℕ → ℕ) (links : List ℕ) → length links ≡ 17 → (v : ℕ) → v ≤ n → n ≤ 16 →
    (eqb (rep v) v && eqb (link_of links v) 0) ≡ false →
    link_each n g (link_of links) (select (λ t. eqb (rep t) t) (from (n + 1 - v) v)) ≡ link_each n g (link_of links)
    (select (λ t. eqb (rep t) t) (from (n + 1 - (v + 1)) (v + 1)))
link_kept n g rep links full v within room e =
    let k = at_kept n g (link_of links) v rep e in
    link_turn n g rep links full v within room (link_of links v) (sym k)
    ∙ ap (λ (p : ℕ → ℕ). link_each n g p (select (λ t. eqb (rep t) t) (from (n + 1 - (v + 1)) (v + 1)))) (sym (fun_ext (λ t. same n g rep links full v within room (link_of links v) (sym k) t k)))

-- the links so far, those that come out of them being the whole: after the turn of v, which gets one or keeps its own
abbrev pub Linking : ℕ → Graph → (ℕ → ℕ) → ℕ → (ℕ → ℕ) → List ℕ → Type 0
Linking n g rep v whole links =
    (length links ≡ 17) × InRange links × (whole ≡ link_each n g (link_of links) (select (λ t. eqb (rep t) t) (from (n + 1 - v) v)))

pub linked : (n : ℕ) (g : Graph) (rep : ℕ → ℕ) (links : List ℕ) (v : ℕ) → v ≤ n → n ≤ 16 → (r : ℕ) →
    (eqb (rep v) v && eqb (link_of links v) 0) ≡ true → r ≡ new_link n g (link_of links) v → (whole : ℕ → ℕ) → Linking n g rep v whole links →
    Linking n g rep (v + 1) whole (set links v r)
linked n g rep links v within room r e f whole (full, low, so_far) =
    let given = link_new n g rep links v e f in (
      simp length-set full,
      turn_range n g rep links full v within room r given low,
      so_far ∙ link_turn n g rep links full v within room r given,
    )

pub left_as_is : (n : ℕ) (g : Graph) (rep : ℕ → ℕ) (links : List ℕ) (v : ℕ) → v ≤ n → n ≤ 16 → (eqb (rep v) v && eqb (link_of links v) 0) ≡ false →
    (whole : ℕ → ℕ) → Linking n g rep v whole links → Linking n g rep (v + 1) whole links
left_as_is n g rep links v within room e whole (full, low, so_far) = (full, low, so_far ∙ link_kept n g rep links full v within room e)

pub link_end : (n : ℕ) (g : Graph) (q : ℕ → Bool) (p : ℕ → ℕ) (v : ℕ) → n < v → link_each n g p (select q (from (n + 1 - v) v)) ≡ p
unfolding link_each
link_end n g q p v h = rw (select_end q (n + 1) v (omega arith))

-- completing reads the reachability facts alone
same-reach : (n : ℕ) (link link' reach : ℕ → ℕ → Bool) (p : ℕ → ℕ) (vs : List ℕ) → link_each n (linking link reach) p vs ≡ link_each n (linking link' reach) p vs
unfolding link_each new_link in_basin basin_link tree_link reached
same-reach n link link' reach p [] = refl
same-reach n link link' reach p (v ∷ vs) =
    same-reach n link link' reach (λ t. cond (eqb t v and eqb (p v) 0) (new_link n (linking link reach) p v) (p t)) vs

pub live_selected : (n : ℕ) (s : Facts) → live_terms n s ≡ select (λ t. eqb (s.rep t) t) (from (n + 1 - 1) 1)
unfolding live_terms terms live ◌and◌
live_selected n s = select_alike _ _ n 1 each ∙ ap (select (λ t. eqb (s.rep t) t)) (terms-from n)
  where
    each : (t : ℕ) → 1 ≤ t → t < 1 + n → ltb 0 t and ltb t (suc n) and eqb (s.rep t) t ≡ eqb (s.rep t) t
    each t l h = rw (lt-ltb 0 t l, lt-ltb t (suc n) (omega arith))

-- the links shown, from the rows of one link
module _ (n : ℕ) (s : Facts) (k : ℕ) (rep link reach : List ℕ) (stands : rep_of rep ≡ s.rep) (links_are : square link ≡ (s.graph k).link) (reach_is : square reach ≡ (s.graph k).reach) where
  known_next : next n (links_in link) ≡ next n (s.graph k)
  unfolding next links_in
  known_next = ap {B = ℕ → ℕ} (λ f t. Option.get_or (find (f t) (terms n)) 0) links_are

  each-reach : (p : ℕ → ℕ) (vs : List ℕ) → link_each n (reach_in reach) p vs ≡ link_each n (s.graph k) p vs
  unfolding reach_in
  each-reach p vs =
      ap (λ (f : ℕ → ℕ → Bool). link_each n (linking (λ a b. false) f) p vs) reach_is
      ∙ same-reach n (λ a b. false) (s.graph k).link (s.graph k).reach p vs

  pub shown : (known links : List ℕ) → link_of known ≡ next n (links_in link) →
      link_of links ≡ link_each n (reach_in reach) (link_of known) (select (λ t. eqb (rep_of rep t) t) (from (n + 1 - 1) 1)) → link_of links ≡ shown_link n s k
  unfolding shown_link
  shown known links e f =
      f
      ∙ each-reach (link_of known) _
      ∙ ap₂ (link_each n (s.graph k)) (e ∙ known_next) (ap (λ (r : ℕ → ℕ). select (λ t. eqb (r t) t) (from (n + 1 - 1) 1)) stands ∙ sym (live_selected n s))

-- every link shown is a term, or none
each_below : (n : ℕ) (g : Graph) (p : ℕ → ℕ) (vs : List ℕ) → ((t : ℕ) → p t ≤ n) → (t : ℕ) → link_each n g p vs t ≤ n
unfolding link_each
each_below n g p [] h t = h t
each_below n g p (v ∷ vs) h t = each_below n g (λ u. cond (eqb u v and eqb (p v) 0) (new_link n g p v) (p u)) vs (λ u. go u (eqb u v and eqb (p v) 0)) t
  where
    go : (u : ℕ) (b : Bool) → cond b (new_link n g p v) (p u) ≤ n
    go u true = new_below n g p v
    go u false = h u

pub shown-below : (n : ℕ) (s : Facts) (i t : ℕ) → shown_link n s i t ≤ n
unfolding shown_link
shown-below n s i t = each_below n (s.graph i) (next n (s.graph i)) (live_terms n s) (next_below n (s.graph i)) t

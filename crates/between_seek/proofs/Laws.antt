-- Laws of the search, as the code's branches and loops meet them.
use Prim.Native.Nat.{ℕ, zero, suc, ◌+◌, ◌-◌, ◌≤◌, ◌<◌, min}
use native.Mathlib.Omega.{arith}
use native.Mathlib.Numerals.{add-one}
use mathlib.Core.Path.{◌≡◌, refl, sym, ap, ap₂, ◌∙◌, subst, fun_ext}
use mathlib.Core.Bool.{Bool, true, false, not, cond, ◌&&◌, false≢true}
use mathlib.Core.List.{List, [], ◌∷◌, ◌++◌}
use mathlib.Core.Option.{Option, none, some}
use lib.ListN.{length, get_or, set, take, replicate, length-replicate, length-append, length-take}
use lib.Seq.{take-suc-set, length-take-le}
use lib.Dec.{ltb}
use borrow.Author.Tests.{eq-eqb, ne_eqb, lt-ltb, le-ltb, ltb-true}
use Rattle.logic.specs.Search.{◌or◌, from, any, is_some, first_of}
use Rattle.logic.specs.Query.{argument_of, term_count}
use Rattle.logic.specs.Calls.{padded}
use Rattle.theory.proofs.Basics.Count.{get_d_zeros, get_d_behind}
use Rattle.lent.proofs.Writing.{appends_byte}
use Rattle.between.specs.Meaning.{BetweenQuery}
use Rattle.between_search.specs.Tests.{used, breaks, nil_breaks, field_breaks, pair_breaks, triple_breaks}
use Rattle.between_search.specs.Search.{Found, seek, entry, lowest_node, highest_node, seek_nodes, nodes_found, seek_links, links_found, size_found, most_nodes, heap_found}
use Rattle.between_tests.specs.Tables.{Small}
use Rattle.between_seek.specs.Answers.{Chosen}

-- Lists that are chosen up to a place

pub chosen_entry : (xs : List ℕ) (i : ℕ) → Chosen xs i → entry xs ≡ entry (take i xs)
unfolding entry padded
chosen_entry xs i c = fun_ext (λ u. ap (λ (ys : List ℕ). get_or ys u 0) c ∙ get_d_behind (take i xs) (17 - length (take i xs)) u)

module _ (xs : List ℕ) (i v : ℕ) (size : length xs ≡ 17) (room : i < 17) where
  pub taken_next : take (i + 1) (set xs i v) ≡ take i xs ++ (v ∷ [])
  taken_next = rw add-one (take-suc-set xs i v (omega arith))

  pub chosen_next : Chosen xs i → Chosen (set xs i v) (i + 1)
  chosen_next c =
      appends_byte xs i v (omega arith) (take i xs) (length-take-le i xs (omega arith)) (c ∙ ap (λ (k : ℕ). padded k (take i xs)) (sym size))
      ∙ ap₂ (λ (k : ℕ) (ys : List ℕ). padded k ys) size (sym taken_next)

pub chosen_first : (v : ℕ) → Chosen (set (replicate 17 0) 0 v) 1
unfolding padded
chosen_first v = refl

-- The test of a choice

module _ (q : BetweenQuery) (m : ℕ) (link node : ℕ → ℕ) (n t : ℕ) where
  pub breaks_unnamed : used node t + (n - t) < m → true ≡ breaks q m link node n t
  unfolding breaks ◌or◌
  breaks_unnamed h = rw (lt-ltb _ _ h)

  module _ (named : m ≤ used node t + (n - t)) where
    pub breaks-nil : nil_breaks q.base.entries link node t ≡ true → true ≡ breaks q m link node n t
    unfolding breaks ◌or◌
    breaks-nil h = rw (le-ltb _ _ named, h)

    module _ (nil : nil_breaks q.base.entries link node t ≡ false) where
      pub breaks-field : field_breaks q.base.fields node t ≡ true → true ≡ breaks q m link node n t
      unfolding breaks ◌or◌
      breaks-field h = rw (le-ltb _ _ named, nil, h)

      module _ (field : field_breaks q.base.fields node t ≡ false) where
        pub breaks-equal : any (pair_breaks link node 0 t) q.base.equalities ≡ true → true ≡ breaks q m link node n t
        unfolding breaks ◌or◌
        breaks-equal h = rw (le-ltb _ _ named, nil, field, h)

        module _ (equal : any (pair_breaks link node 0 t) q.base.equalities ≡ false) where
          pub breaks_reach : any (pair_breaks link node 5 t) q.base.reachability ≡ true → true ≡ breaks q m link node n t
          unfolding breaks ◌or◌
          breaks_reach h = rw (le-ltb _ _ named, nil, field, equal, h)

          pub breaks_between : any (pair_breaks link node 5 t) q.base.reachability ≡ false → any (triple_breaks link node t) q.betweens ≡ breaks q m link node n t
          unfolding breaks ◌or◌
          breaks_between h = rw (le-ltb _ _ named, nil, field, equal, h)

-- The nodes that a term can name

module _ (q : BetweenQuery) (link : ℕ → ℕ) (t : ℕ) (node : ℕ → ℕ) where
  pub lowest_any : argument_of q.base.entries t ≡ 0 → 1 ≡ lowest_node q link t node
  unfolding lowest_node
  lowest_any h = rw (eq-eqb _ _ h)

  pub lowest_link : (a v w : ℕ) → a ≡ argument_of q.base.entries t → (a ≡ 0 → ⊥) → v ≡ node a → w ≡ link v → w ≡ lowest_node q link t node
  unfolding lowest_node
  lowest_link a v w e d f g = rw (ne_eqb (argument_of q.base.entries t) 0 (λ z. d (e ∙ z))) (g ∙ ap link (f ∙ ap node e))

  module _ (sorted : Bool) (m : ℕ) where
    pub highest_link : (a v w : ℕ) → a ≡ argument_of q.base.entries t → (a ≡ 0 → ⊥) → v ≡ node a → w ≡ link v → w ≡ highest_node q sorted m link t node
    unfolding highest_node
    highest_link a v w e d f g = rw (ne_eqb (argument_of q.base.entries t) 0 (λ z. d (e ∙ z))) (g ∙ ap link (f ∙ ap node e))

    pub highest_any : (k : ℕ) (b : Bool) → argument_of q.base.entries t ≡ 0 → k ≡ used node (t - 1) → (sorted && ltb (k + 1) m) ≡ b → cond b (k + 1) m ≡ highest_node q sorted m link t node
    unfolding highest_node
    highest_any k b h e f = rw (eq-eqb _ _ h) (ap₂ (λ (c : Bool) (j : ℕ). cond c (j + 1) m) (sym f ∙ ap (λ (j : ℕ). sorted && ltb (j + 1) m) e) e)

-- The search, number by number

module _ (q : BetweenQuery) (sorted : Bool) (m : ℕ) (links : List ℕ) where
  pub nodes_end : (t : ℕ) (xs : List ℕ) → seek_nodes q sorted m links 0 t xs ≡ some (record { links = padded 17 links; nodes = padded 17 xs })
  unfolding seek_nodes seek
  nodes_end t xs = refl

  -- what is found with v as the node of term t
  unfoldable pub node_tried : ℕ → ℕ → List ℕ → ℕ → Option Found
  node_tried k t xs v =
      cond (not (breaks q m (entry links) (entry (xs ++ (v ∷ []))) (term_count q.base) t)) (seek_nodes q sorted m links k (suc t) (xs ++ (v ∷ []))) none

  pub nodes_next :
      (k t : ℕ) (xs : List ℕ) (lo hi : ℕ) →
      lo ≡ lowest_node q (entry links) t (entry xs) →
      hi ≡ highest_node q sorted m (entry links) t (entry xs) →
      seek_nodes q sorted m links (suc k) t xs ≡ first_of (node_tried k t xs) (from (hi + 1 - lo) lo)
  unfolding seek_nodes seek node_tried
  nodes_next k t xs lo hi e f = ap₂ (λ (a b : ℕ). first_of (node_tried k t xs) (from (b + 1 - a) a)) (sym e) (sym f)

  pub tried_breaks : (k t : ℕ) (xs : List ℕ) (v : ℕ) → breaks q m (entry links) (entry (xs ++ (v ∷ []))) (term_count q.base) t ≡ true → node_tried k t xs v ≡ none
  unfolding node_tried
  tried_breaks k t xs v h = rw h

  pub tried_fits :
      (k t : ℕ) (xs : List ℕ) (v : ℕ) →
      breaks q m (entry links) (entry (xs ++ (v ∷ []))) (term_count q.base) t ≡ false →
      node_tried k t xs v ≡ seek_nodes q sorted m links k (t + 1) (xs ++ (v ∷ []))
  unfolding node_tried
  tried_fits k t xs v h = rw (h, add-one t)

module _ (q : BetweenQuery) (sorted : Bool) (m : ℕ) where
  pub nodes_begin : (links : List ℕ) → nodes_found q sorted m links ≡ seek_nodes q sorted m links (term_count q.base) 1 (term_count q.base ∷ [])
  unfolding nodes_found
  nodes_begin links = refl

  pub links_end : (j : ℕ) (xs : List ℕ) → seek_links q sorted m 0 j xs ≡ nodes_found q sorted m xs
  unfolding seek_links seek
  links_end j xs = refl

  pub links_next : (k j : ℕ) (xs : List ℕ) → seek_links q sorted m (suc k) j xs ≡ first_of (λ v. seek_links q sorted m k (suc j) (xs ++ (v ∷ []))) (from (m + 1 - 1) 1)
  unfolding seek_links seek
  links_next k j xs = refl

  pub links_begin : links_found q sorted m ≡ seek_links q sorted m m 1 (m ∷ [])
  unfolding links_found
  links_begin = refl

module _ (q : BetweenQuery) where
  pub size_none : (m : ℕ) → links_found q true m ≡ none → none ≡ size_found q m
  unfolding size_found is_some
  size_none m h = rw h

  pub size-some : (m : ℕ) (c : Found) → links_found q true m ≡ some c → links_found q false m ≡ size_found q m
  unfolding size_found is_some
  size-some m c h = rw h

  pub heap_sizes : (k : ℕ) → k ≡ most_nodes (term_count q.base) → heap_found q ≡ first_of (size_found q) (from (k + 1 - 1) 1)
  unfolding heap_found
  heap_sizes k e = ap (λ (j : ℕ). first_of (size_found q) (from j 1)) (sym e ∙ one_less k)
    where
      one_less : (j : ℕ) → j ≡ j + 1 - 1
      one_less j = omega arith

pub fewer : (b : Bool) (k m : ℕ) → b && ltb k m ≡ true → m ≤ 5 → k ≤ 5
fewer true k m h l = let a = ltb-true k m h in omega (arith, a)
fewer false k m h l = absurd (false≢true h)

pub most_one : (n : ℕ) → n ≡ 0 → 1 ≡ most_nodes n
unfolding most_nodes
most_one n e = rw (eq-eqb n 0 e)

pub most_all : (n : ℕ) → (n ≡ 0 → ⊥) → n ≡ most_nodes n
unfolding most_nodes
most_all n d = rw (ne_eqb n 0 d)

pub most_few : (n : ℕ) → n ≤ 5 → most_nodes n ≤ 5
unfolding most_nodes
most_few zero h = omega arith
most_few (suc n) h = rw (ne_eqb (suc n) 0 (λ e. omega arith)) h

-- The same, for lists that are chosen up to a place

pub chosen_size : (xs : List ℕ) (i : ℕ) → Chosen xs i → i ≤ 17 → length xs ≡ 17
unfolding padded
chosen_size xs i c h =
    ap length c ∙ length-append (take i xs) (replicate (17 - length (take i xs)) 0) ∙ ap (λ (k : ℕ). length (take i xs) + k) (length-replicate (17 - length (take i xs)) 0)
    ∙ (let e = length-take i xs in omega (arith, e, min-le i (length xs)))
  where
    min-le : (a b : ℕ) → min a b ≤ a
    min-le a b = omega arith

module _ (q : BetweenQuery) (sorted : Bool) (m : ℕ) (ls ns : List ℕ) (t : ℕ) (cl : Chosen ls (m + 1)) (cn : Chosen ns t) where
  pub nodes_step :
      (left lo hi : ℕ) →
      (left ≡ 0 → ⊥) →
      lo ≡ lowest_node q (entry ls) t (entry ns) →
      hi ≡ highest_node q sorted m (entry ls) t (entry ns) →
      seek_nodes q sorted m (take (m + 1) ls) left t (take t ns) ≡ first_of (node_tried q sorted m (take (m + 1) ls) (left - 1) t (take t ns)) (from (hi + 1 - lo) lo)
  nodes_step zero lo hi d e f = absurd (d refl)
  nodes_step (suc k) lo hi d e f =
      nodes_next q sorted m (take (m + 1) ls) k t (take t ns) lo hi
      (e ∙ ap₂ (λ (a b : ℕ → ℕ). lowest_node q a t b) (chosen_entry ls (m + 1) cl) (chosen_entry ns t cn))
      (f ∙ ap₂ (λ (a b : ℕ → ℕ). highest_node q sorted m a t b) (chosen_entry ls (m + 1) cl) (chosen_entry ns t cn))
      ∙ ap (λ (j : ℕ). first_of (node_tried q sorted m (take (m + 1) ls) j t (take t ns)) (from (hi + 1 - lo) lo)) one_less
    where
      one_less : k ≡ suc k - 1
      one_less = omega arith

  module _ (v n : ℕ) (b : Bool) (room : t < 17) (terms : n ≡ term_count q.base) (test : b ≡ breaks q m (entry ls) (entry (set ns t v)) n t) where
    tested : b ≡ breaks q m (entry (take (m + 1) ls)) (entry (take t ns ++ (v ∷ []))) (term_count q.base) t
    tested =
        test ∙ ap (λ (k : ℕ). breaks q m (entry ls) (entry (set ns t v)) k t) terms
        ∙ ap₂ (λ (f g : ℕ → ℕ). breaks q m f g (term_count q.base) t) (chosen_entry ls (m + 1) cl)
        (chosen_entry (set ns t v) (t + 1) (chosen_next ns t v (chosen_size ns t cn (omega arith)) room cn) ∙ ap entry (taken_next ns t v (chosen_size ns t cn (omega arith)) room))

    pub step_breaks : (left : ℕ) → b ≡ true → node_tried q sorted m (take (m + 1) ls) (left - 1) t (take t ns) v ≡ none
    step_breaks left e = tried_breaks q sorted m (take (m + 1) ls) (left - 1) t (take t ns) v (sym tested ∙ e)

    pub step_fits : (left : ℕ) → b ≡ false → node_tried q sorted m (take (m + 1) ls) (left - 1) t (take t ns) v ≡ seek_nodes q sorted m (take (m + 1) ls) (left - 1) (t + 1) (take (t + 1) (set ns t v))
    step_fits left e =
        tried_fits q sorted m (take (m + 1) ls) (left - 1) t (take t ns) v (sym tested ∙ e)
        ∙ ap (seek_nodes q sorted m (take (m + 1) ls) (left - 1) (t + 1)) (sym (taken_next ns t v (chosen_size ns t cn (omega arith)) room))

  -- all terms have their nodes
  pub nodes_all : (left : ℕ) → left ≡ 0 → some (record { links = ls; nodes = ns }) ≡ seek_nodes q sorted m (take (m + 1) ls) left t (take t ns)
  nodes_all left e =
      ap₂ (λ (a b : List ℕ). some (record { links = a; nodes = b })) cl cn
      ∙ sym (nodes_end q sorted m (take (m + 1) ls) t (take t ns))
      ∙ ap (λ (k : ℕ). seek_nodes q sorted m (take (m + 1) ls) k t (take t ns)) (sym e)

-- what is found with v as the link of node j
unfoldable pub link_tried : BetweenQuery → Bool → ℕ → List ℕ → ℕ → ℕ → ℕ → Option Found
link_tried q sorted m ls j k v = seek_links q sorted m k (suc j) (take j ls ++ (v ∷ []))

module _ (q : BetweenQuery) (sorted : Bool) (m : ℕ) (ls : List ℕ) (j : ℕ) (cl : Chosen ls j) where
  pub links-all : (left : ℕ) → left ≡ 0 → j + left ≡ m + 1 → nodes_found q sorted m (take (m + 1) ls) ≡ seek_links q sorted m left j (take j ls)
  links-all left e h =
      let p : m + 1 ≡ j = omega arith in
      ap (λ (k : ℕ). nodes_found q sorted m (take k ls)) p ∙ sym (links_end q sorted m j (take j ls)) ∙ ap (λ (k : ℕ). seek_links q sorted m k j (take j ls)) (sym e)

  pub links_step : (left : ℕ) → (left ≡ 0 → ⊥) → seek_links q sorted m left j (take j ls) ≡ first_of (link_tried q sorted m ls j (left - 1)) (from (m + 1 - 1) 1)
  unfolding link_tried
  links_step zero d = absurd (d refl)
  links_step (suc k) d = links_next q sorted m k j (take j ls) ∙ ap (λ (i : ℕ). first_of (λ v. seek_links q sorted m i (suc j) (take j ls ++ (v ∷ []))) (from (m + 1 - 1) 1)) one_less
    where
      one_less : k ≡ suc k - 1
      one_less = omega arith

  pub link_tried_lem : (k v : ℕ) → j < 17 → link_tried q sorted m ls j k v ≡ seek_links q sorted m k (j + 1) (take (j + 1) (set ls j v))
  unfolding link_tried
  link_tried_lem k v room = rw add-one
      (ap (seek_links q sorted m k (suc j)) (sym (taken_next ls j v (chosen_size ls j cl (omega arith)) room))
      ∙ ap (λ (i : ℕ). seek_links q sorted m k (suc j) (take i (set ls j v))) (add-one j))

pub small_zeros : Small (replicate 17 0)
unfolding entry
small_zeros i = subst (λ (x : ℕ). x ≤ 5) (sym (get_d_zeros 17 i)) (omega arith)

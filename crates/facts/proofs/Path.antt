-- Two paths are one where they answer alike; and what each step makes of the code's paths, link by link.
use Prim.Native.Nat.{ℕ, ◌≤◌, ◌<◌}
use native.Mathlib.Omega.{arith}
use mathlib.Core.Path.{◌≡◌, refl, sym, ap, ap₂, fun_ext, ◌∙◌}
use mathlib.Core.Logic.{⊎_elim}
use mathlib.Core.Bool.{Bool, true, false, cond}
use mathlib.Core.List.{List}
use lib.Dec.{eqb, ltb, leb}
use borrow.Author.Tests.{lt-ltb, le-ltb, le-leb, lt-leb, ne_eqb}
use Rattle.logic.specs.Search.{◌and◌, ◌or◌}
use Rattle.logic.specs.Facts.{Graph, Facts, replace_in, replace, add_reach, add_links}
use Rattle.theory.proofs.Basics.Search.{or-false}
use Rattle.theory.proofs.Basics.Compare.{le_cases}
use Rattle.rows.specs.Square.{square}
use Rattle.link_rows.specs.Cube.{cube}
use Rattle.link_rows.proofs.Cube.{replaced_nothing, cube-none}
use Rattle.facts.specs.declared.Facts as code
use Rattle.facts.specs.Path.{no_facts, graph_in, graphs, graph_of, path_as, path_of, rep_of, replace_rep, HasLink}

-- the graph that these relations make
abbrev pub linking : (ℕ → ℕ → Bool) → (ℕ → ℕ → Bool) → Graph
linking link reach = record { link = link; reach = reach }

pub alike-graph : {l l' h h' : ℕ → ℕ → Bool} → l ≡ l' → h ≡ h' → linking l h ≡ linking l' h'
alike-graph e f = λ i. linking (e i) (f i)

-- the path that these functions make, and when two are one
abbrev pub made : (ℕ → ℕ) → Bool → (ℕ → Graph) → Facts
made rep single g = record { rep = rep; links = cond single 1 3; graph = g }

pub alike : {r r' : ℕ → ℕ} {g g' : ℕ → Graph} (b : Bool) → r ≡ r' → ((k : ℕ) → g k ≡ g' k) → made r b g ≡ made r' b g'
alike b d e = λ i. made (d i) b (fun_ext e i)

-- one link, or three
pub links_few : (single : Bool) → (0 < cond single 1 3) × (cond single 1 3 ≤ 3)
links_few true = (omega arith, omega arith)
links_few false = (omega arith, omega arith)

pub path_links : (s : code.Facts) → (path_of s).links ≡ cond s.single 1 3
unfolding path_of
path_links s = refl

-- The facts of a link of the path, and of no link
module _ (single : Bool) (link reach : List ℕ) (k : ℕ) where
  pub graph_at : k ≤ cond single 1 3 → graphs single link reach k ≡ graph_in link reach k
  unfolding graphs
  graph_at h = rw (le-leb k (cond single 1 3) h)

  pub graph_beyond : cond single 1 3 < k → graphs single link reach k ≡ no_facts
  unfolding graphs
  graph_beyond h = rw (lt-leb k (cond single 1 3) h)

-- the number 0 has none either
pub graph-none : (link reach : List ℕ) (k : ℕ) → k ≤ 0 → graph_in link reach k ≡ no_facts
unfolding graph_in no_facts
graph-none link reach k h = alike-graph (fun_ext (λ a. fun_ext (λ b. cube-none link k a b h))) (fun_ext (λ a. fun_ext (λ b. cube-none reach k a b h)))

-- rows of the link's own hold its facts
pub graph_own : (single : Bool) (link reach : List ℕ) (k : ℕ) → k ≤ cond single 1 3 → (l r : List ℕ) → square l ≡ cube link k → square r ≡ cube reach k → graph_of l r ≡ graphs single link reach k
unfolding graph_of graph_in
graph_own single link reach k h l r e f = alike-graph e f ∙ sym (graph_at single link reach k h)

-- whatever answers alike at each link, and holds nothing elsewhere, is what the rows hold
pub by_link : (single : Bool) (link reach : List ℕ) (g : ℕ → Graph) → ((k : ℕ) → k ≤ cond single 1 3 → graph_in link reach k ≡ g k) →
    ((k : ℕ) → cond single 1 3 < k → no_facts ≡ g k) → (k : ℕ) → graphs single link reach k ≡ g k
by_link single link reach g within beyond k =
    ⊎_elim (λ h. graph_at single link reach k h ∙ within k h) (λ h. graph_beyond single link reach k h ∙ beyond k h) (le_cases k (cond single 1 3))

-- nothing is added where the test fails
nothing_added : (f : ℕ → ℕ → Bool) (p : ℕ → ℕ → Bool) → ((x y : ℕ) → p x y ≡ false) → (λ x y. f x y or p x y) ≡ f
nothing_added f p e = fun_ext (λ x. fun_ext (λ y. rw (e x y) (or-false (f x y))))

module _ (single : Bool) (rep link reach : List ℕ) where
  -- a reachability fact is added to a link
  pub add_reach_rows : (later : List ℕ) (k a b : ℕ) → k ≤ cond single 1 3 →
      cube later ≡ (λ j x y. cube reach j x y or (eqb j k and eqb x a and eqb y b)) → path_as single rep link later ≡ add_reach k a b (path_as single rep link reach)
  unfolding add_reach graph_in no_facts ◌and◌
  add_reach_rows later k a b h e = alike single refl (by_link single link later _ within beyond)
    where
      within : (j : ℕ) → j ≤ cond single 1 3 → graph_in link later j ≡ linking (graphs single link reach j).link (λ x y. (graphs single link reach j).reach x y or (eqb j k and eqb x a and eqb y b))
      within j l = alike-graph refl (ap (λ (f : ℕ → ℕ → ℕ → Bool). f j) e)
          ∙ ap (λ (g : Graph). linking g.link (λ x y. g.reach x y or (eqb j k and eqb x a and eqb y b))) (sym (graph_at single link reach j l))

      beyond : (j : ℕ) → cond single 1 3 < j → no_facts ≡ linking (graphs single link reach j).link (λ x y. (graphs single link reach j).reach x y or (eqb j k and eqb x a and eqb y b))
      beyond j l =
          sym
          (ap (λ (g : Graph). linking g.link (λ x y. g.reach x y or (eqb j k and eqb x a and eqb y b))) (graph_beyond single link reach j l)
          ∙ alike-graph refl (nothing_added (λ x y. false) _ (λ x y. rw (ne_eqb j k (omega (arith, h, l))))))

  -- a link fact is added to every link
  pub add_links_rows : (later : List ℕ) (a b : ℕ) →
      ((j : ℕ) → 0 < j → j ≤ cond single 1 3 → cube later j ≡ (λ x y. cube link j x y or (eqb x a and eqb y b))) →
      ((j : ℕ) → j ≤ 0 → cube later j ≡ cube link j) → path_as single rep later reach ≡ add_links a b (path_as single rep link reach)
  unfolding add_links graph_in no_facts ◌and◌
  add_links_rows later a b e none = alike single refl (by_link single later reach _ within beyond)
    where
      new : ℕ → Graph → Graph
      new j g = linking (λ x y. g.link x y or (ltb 0 j and leb j (cond single 1 3) and eqb x a and eqb y b)) g.reach

      within : (j : ℕ) → j ≤ cond single 1 3 → graph_in later reach j ≡ new j (graphs single link reach j)
      within j l =
          ⊎_elim
          (λ z. alike-graph (none j z ∙ sym (nothing_added (cube link j) _ (λ x y. rw (lt-ltb-not j z)))) refl)
          (λ z. alike-graph (e j z l ∙ rw (lt-ltb 0 j z, le-leb j (cond single 1 3) l)) refl)
          (le_cases j 0)
          ∙ ap (new j) (sym (graph_at single link reach j l))
        where
          lt-ltb-not : (j : ℕ) → j ≤ 0 → ltb 0 j ≡ false
          lt-ltb-not j z = le-ltb 0 j z

      beyond : (j : ℕ) → cond single 1 3 < j → no_facts ≡ new j (graphs single link reach j)
      beyond j l = sym (ap (new j) (graph_beyond single link reach j l)
          ∙ alike-graph (nothing_added (λ x y. false) _ (λ x y. rw (lt-leb j (cond single 1 3) l) (off (ltb 0 j) (eqb x a) (eqb y b)))) refl)
        where
          off : (t u v : Bool) → t and false and u and v ≡ false
          off true u v = refl
          off false u v = refl

  -- a term is replaced in every link
  pub replace_rows : (rep' link' reach' : List ℕ) (lo hi : ℕ) → rep_of rep' ≡ replace_rep lo hi (rep_of rep) →
      ((j : ℕ) → j ≤ cond single 1 3 → cube link' j ≡ replace_in lo hi (cube link j)) →
      ((j : ℕ) → j ≤ cond single 1 3 → cube reach' j ≡ replace_in lo hi (cube reach j)) → path_as single rep' link' reach' ≡ replace lo hi (path_as single rep link reach)
  unfolding replace replace_rep graph_in no_facts
  replace_rows rep' link' reach' lo hi d e f = alike single d (by_link single link' reach' _ within beyond)
    where
      new : Graph → Graph
      new g = linking (replace_in lo hi g.link) (replace_in lo hi g.reach)

      within : (j : ℕ) → j ≤ cond single 1 3 → graph_in link' reach' j ≡ new (graphs single link reach j)
      within j l = alike-graph (e j l) (f j l) ∙ ap new (sym (graph_at single link reach j l))

      beyond : (j : ℕ) → cond single 1 3 < j → no_facts ≡ new (graphs single link reach j)
      beyond j l = sym (ap new (graph_beyond single link reach j l) ∙ ap₂ linking (replaced_nothing lo hi) (replaced_nothing lo hi))

-- a link of a path's record: its number is small, and its rows are the path's
module _ (s : code.Facts) (k : ℕ) (h : HasLink (path_of s) k) where
  within : k ≤ cond s.single 1 3
  unfolding path_of
  within = h.1

  pub link_few : k ≤ 3
  link_few = omega (arith, within, (links_few s.single).1)

  pub link_at : cube s.link k ≡ ((path_of s).graph k).link
  unfolding path_of graph_in
  link_at = ap (λ (g : Graph). g.link) (sym (graph_at s.single s.link s.reach k within))

  pub reach_at : cube s.reach k ≡ ((path_of s).graph k).reach
  unfolding path_of graph_in
  reach_at = ap (λ (g : Graph). g.reach) (sym (graph_at s.single s.link s.reach k within))

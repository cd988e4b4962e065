-- The search through all links and nodes of one size: what it finds, that nothing comes before it, and that it misses nothing.
use Prim.Native.Nat.{ℕ, suc, ◌+◌, ◌-◌, ◌≤◌}
use native.Mathlib.Omega.{arith}
use mathlib.Core.Path.{◌≡◌, refl, sym, ◌∙◌, subst}
use mathlib.Core.Logic.{⊎_elim}
use mathlib.Core.Bool.{Bool, true, false, not, cond}
use mathlib.Core.List.{List, [], ◌∷◌, ◌++◌}
use mathlib.Core.Option.{Option, none, some}
use lib.Dec.{ltb}
use Rattle.logic.specs.Query.{argument_of, term_count}
use Rattle.logic.specs.Calls.{padded}
use Rattle.theory.proofs.Basics.Search.{none-some}
use Rattle.theory.proofs.Basics.Compare.{le_cases, ltb-true}
use Rattle.between.specs.Meaning.{BetweenQuery}
use Rattle.between_search.specs.Tests.{used, breaks}
use Rattle.between_search.specs.Search.{Found, entry, lowest_node, highest_node, seek_nodes, nodes_found, seek_links, links_found}
use Rattle.between_search.specs.Promise.{Before}
use Rattle.between_search.proofs.Seek.{Grown, whole, more, before-append, seek-none, seek-first, First}
use Rattle.between_search.proofs.Growing.{grown_size}
use Rattle.between_search.proofs.Sound.{high-any, high-link}

-- higher bounds let more grow
pub grown_weaken : (lowest high high' : ℕ → List ℕ → ℕ) (fits : ℕ → List ℕ → Bool) → ((t : ℕ) (xs : List ℕ) → high t xs ≤ high' t xs) →
    {k i : ℕ} {xs ys : List ℕ} → Grown lowest high fits k i xs ys → Grown lowest high' fits k i xs ys
grown_weaken lowest high high' fits h whole = whole
grown_weaken lowest high high' fits h {k = suc k} {i = i} {xs = xs} (more v l u f g) = let b = h i xs in more v l (omega arith) f (grown_weaken lowest high high' fits h g)

module _ (q : BetweenQuery) (sorted : Bool) (m : ℕ) where
  abbrev n : ℕ
  n = term_count q.base

  abbrev pub GrownLinks : List ℕ → Type 0
  GrownLinks ls = Grown (λ j xs. 1) (λ j xs. m) (λ j xs. true) m 1 (m ∷ []) ls

  abbrev pub GrownNodes : List ℕ → List ℕ → Type 0
  GrownNodes ls ns = Grown (λ t xs. lowest_node q (entry ls) t (entry xs)) (λ t xs. highest_node q sorted m (entry ls) t (entry xs)) (λ t xs. not (breaks q m (entry ls) (entry xs) n t)) n 1 (n ∷ []) ns

  abbrev found_as : List ℕ → List ℕ → Option Found
  found_as ls ns = some (record { links = padded 17 ls; nodes = padded 17 ns })

  nodes_missed : (ls ns : List ℕ) → nodes_found q sorted m ls ≡ none → GrownNodes ls ns → ⊥
  unfolding nodes_found seek_nodes
  nodes_missed ls ns h g = none-some (sym (seek-none _ _ _ (λ xs. found_as ls xs) n 1 (n ∷ []) h ns g))

  pub search_none : links_found q sorted m ≡ none → (ls ns : List ℕ) → GrownLinks ls → GrownNodes ls ns → ⊥
  unfolding links_found seek_links
  search_none h ls ns gl gn = nodes_missed ls ns (seek-none _ _ _ (nodes_found q sorted m) m 1 (m ∷ []) h ls gl) gn

  pub record FirstFound (c : Found) : Type 0 where
    pub links : List ℕ
    pub nodes : List ℕ
    pub links_grown : GrownLinks links
    pub nodes_grown : GrownNodes links nodes
    pub found : c ≡ record { links = padded 17 links; nodes = padded 17 nodes }
    pub first : (ls ns : List ℕ) → GrownLinks ls → GrownNodes ls ns → Before (ls ++ ns) (links ++ nodes) → ⊥

  some_same : {A : Type 0} {a b : A} → some a ≡ some b → b ≡ a
  some_same e = cc

  nodes-first : (ls : List ℕ) (c : Found) → nodes_found q sorted m ls ≡ some c →
      First (λ t xs. lowest_node q (entry ls) t (entry xs)) (λ t xs. highest_node q sorted m (entry ls) t (entry xs))
      (λ t xs. not (breaks q m (entry ls) (entry xs) n t)) (λ xs. found_as ls xs) n 1 (n ∷ []) c
  unfolding nodes_found seek_nodes
  nodes-first ls c h = seek-first _ _ _ (λ xs. found_as ls xs) n 1 (n ∷ []) c h

  pub search_some : (c : Found) → links_found q sorted m ≡ some c → FirstFound c
  unfolding links_found seek_links
  search_some c h =
      let a = seek-first (λ j xs. 1) (λ j xs. m) (λ j xs. true) (nodes_found q sorted m) m 1 (m ∷ []) c h in
      let b = nodes-first a.list c a.answered in
      record {
        links = a.list;
        nodes = b.list;
        links_grown = a.grown;
        nodes_grown = b.grown;
        found = some_same b.answered;
        first = λ ls ns gl gn before.
            ⊎_elim
            (λ e. nodes_missed ls ns (a.first ls gl e) gn)
            (λ e. none-some (sym (b.first ns (subst (λ (x : List ℕ). GrownNodes x ns) e.0 gn) e.1)))
            (before-append ls ns a.list b.list (grown_size _ _ _ gl ∙ sym (grown_size _ _ _ a.grown)) before);
      }

-- what is found sorted can be found
pub sorted_some : (q : BetweenQuery) (m : ℕ) (c : Found) → links_found q true m ≡ some c → links_found q false m ≡ none → ⊥
sorted_some q m c h e =
    let f = search_some q true m c h in
    search_none q false m e f.links f.nodes f.links_grown
    (grown_weaken _ _ _ _ (λ t xs. higher t xs f.links) f.nodes_grown)
  where
    higher : (t : ℕ) (xs ls : List ℕ) → highest_node q true m (entry ls) t (entry xs) ≤ highest_node q false m (entry ls) t (entry xs)
    higher t xs ls = ⊎_elim
        (λ l. let a = high-link q (entry ls) t (entry xs) true m l in let b = high-link q (entry ls) t (entry xs) false m l in omega (arith, a, b))
        (λ z. let o : argument_of q.base.entries t ≡ 0 = omega arith in
        let b = high-any q (entry ls) t (entry xs) false m o in
        let a = high-any q (entry ls) t (entry xs) true m o in
        subst (λ (x : ℕ). highest_node q true m (entry ls) t (entry xs) ≤ x) (sym b) (subst (λ (x : ℕ). x ≤ m) (sym a) (small (ltb (used (entry xs) (t - 1) + 1) m) refl)))
        (le_cases 1 (argument_of q.base.entries t))
      where
        small : (b : Bool) → ltb (used (entry xs) (t - 1) + 1) m ≡ b → cond b (used (entry xs) (t - 1) + 1) m ≤ m
        small true e = let l = ltb-true (used (entry xs) (t - 1) + 1) m e in omega arith
        small false e = omega arith

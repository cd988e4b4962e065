-- What is doubled: read off the links alone, and found by loops over terms and links.
use Prim.Native.Nat.{ℕ, ◌+◌, ◌-◌, ◌≤◌, ◌<◌}
use native.Mathlib.Omega.{arith}
use mathlib.Core.Path.{◌≡◌, sym, ap, fun_ext}
use mathlib.Core.Bool.{Bool, cond}
use mathlib.Core.List.{List}
use mathlib.Core.Option.{Option, some}
use Rattle.logic.specs.Search.{from, first_of}
use Rattle.logic.specs.Facts.{Graph, Facts, link_numbers, terms, first_two, successors, doubled}
use Rattle.theory.proofs.Basics.Search.{first_of-some, first_of_alike, from-mem}
use Rattle.facts.specs.Path.{graphs, graph_in, path_as, links_by}
use Rattle.facts.proofs.Path.{graph_at}
use Rattle.rows.proofs.Successors.{two_below}
use Rattle.doubled.specs.Doubled.{two_in, doubled_in}

-- what is doubled is read off the links alone
module _ (n : ℕ) (single : Bool) (rep link reach : List ℕ) where
  links_alone : (k t : ℕ) → k ≤ cond single 1 3 → successors n (links_by link k) t ≡ successors n (graphs single link reach k) t
  unfolding successors links_by graph_in
  links_alone k t h = ap (λ (g : Graph). successors n g t) (sym (graph_at single link reach k h))

  pub doubled-links : doubled_in n single link ≡ doubled n (path_as single rep link reach)
  unfolding doubled_in two_in doubled link_numbers
  doubled-links =
      ap (λ (f : ℕ → Option (ℕ × ℕ)). first_of f (terms n))
      (fun_ext (λ t. first_of_alike _ _ (from (cond single 1 3) 1) (λ k m. let r = from-mem (cond single 1 3) 1 k m in ap first_two (links_alone k t (omega (arith, r))))))

-- the search of the numbers up to m as a loop up to `last` meets it
pub up_to : (m last : ℕ) (f : ℕ → Option (ℕ × ℕ)) → last ≡ m → first_of f (from m 1) ≡ first_of f (from (last + 1 - 1) 1)
up_to m last f e = ap (λ (j : ℕ). first_of f (from j 1)) (omega arith)

pub doubled_below : (n : ℕ) (s : Facts) (a b : ℕ) → doubled n s ≡ some (a, b) → (a < b) × (b ≤ n)
unfolding doubled successors
doubled_below n s a b e =
    let r = first_of-some (λ t. first_of (λ i. first_two (successors n (s.graph i) t)) (link_numbers s.links)) (terms n) (a, b) e in
    let i = first_of-some (λ i. first_two (successors n (s.graph i) r.0)) (link_numbers s.links) (a, b) r.2 in
    two_below ((s.graph i.0).link r.0) n a b i.2

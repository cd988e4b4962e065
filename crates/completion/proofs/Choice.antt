-- How the link of a remaining term is chosen, as the loops choose it.
use Prim.Native.Nat.{ℕ, zero, suc, ◌+◌, ◌-◌, ◌≤◌, ◌<◌}
use native.Mathlib.Omega.{arith}
use mathlib.Core.Path.{◌≡◌, refl, sym, ap, ◌∙◌}
use mathlib.Core.Bool.{Bool, true, false, not, cond, ◌&&◌, ◌||◌}
use mathlib.Core.List.{List, [], ◌∷◌}
use mathlib.Core.Option
use mathlib.Core.Option.{Option, none, some}
use lib.ListN.{length, get_or}
use lib.Dec.{eqb}
use borrow.Author.Tests.{eq-eqb, ne_eqb}
use Rattle.logic.specs.Search.{◌and◌, ◌or◌, from, any, select, first_of, find}
use Rattle.logic.specs.Facts.{Graph, terms, first_two}
use Rattle.theory.proofs.Basics.Search.{none-some}
use Rattle.logic.specs.Shown.{reached, in_basin, heads, on_path, basin_link, tree_link}
use Rattle.rows.specs.Square.{square}
use Rattle.rows.proofs.Successors.{two_one, two_both}
use Rattle.completion.specs.Links.{reach_in, leads_to, begins, begins_without, covers_all}
use Rattle.rows.proofs.Selections.{terms-from, all_selected, any_selected, find_selected, select_selected, and_both, first, find_first}

-- v reaches u, and not back
abbrev pub leaves : List ℕ → ℕ → ℕ → Bool
leaves reach v u = square reach v u && not (square reach u v)

pub basin_search : (n : ℕ) (reach : List ℕ) (v : ℕ) → in_basin n (reach_in reach) v ≡ not (any (leaves reach v) (from (n + 1 - 1) 1))
unfolding in_basin reached reach_in
basin_search n reach v = rw (terms-from n) (all_selected (square reach v) (λ u. square reach u v) (from (n + 1 - 1) 1))

pub begins_outside : (n : ℕ) (reach : List ℕ) (p : ℕ → ℕ) (v b : ℕ) → square reach v b ≡ false → begins n (reach_in reach) p v b ≡ false
unfolding begins reach_in ◌and◌
begins_outside n reach p v b e = rw e

pub begins_search : (n : ℕ) (reach : List ℕ) (p : ℕ → ℕ) (v b : ℕ) → square reach v b ≡ true → begins n (reach_in reach) p v b ≡ not (any (leads_to reach p v b) (from (n + 1 - 1) 1))
unfolding begins reach_in reached ◌and◌
begins_search n reach p v b e = rw (e, terms-from n) (ap not (any_selected (square reach v) (λ u. eqb (p u) b) (from (n + 1 - 1) 1)))

-- v reaches w, another term, and u does not
abbrev pub misses : List ℕ → ℕ → ℕ → ℕ → Bool
misses reach v u w = square reach v w && not (eqb w v || square reach u w)

or_either : (a b : Bool) → a || b ≡ a or b
unfolding ◌or◌
or_either true b = refl
or_either false b = refl

pub covers_search : (n : ℕ) (reach : List ℕ) (v u : ℕ) → covers_all n (reach_in reach) v u ≡ not (any (misses reach v u) (from (n + 1 - 1) 1))
unfolding covers_all reach_in reached
covers_search n reach v u = rw (terms-from n) (simp (← or_either) (all_selected (square reach v) (λ w. eqb w v || square reach u w) (from (n + 1 - 1) 1)))

-- a path of links followed
pub path_here : (p : ℕ → ℕ) (v k b : ℕ) → b ≡ v → on_path p v k b ≡ true
unfolding on_path ◌or◌
path_here p v zero b e = eq-eqb b v e
path_here p v (suc k) b e = rw (eq-eqb b v e)

pub path_next : (p : ℕ → ℕ) (v k b : ℕ) → 0 < k → (b ≡ v → ⊥) → on_path p v k b ≡ on_path p v (k - 1) (p b)
unfolding on_path ◌or◌
path_next p v zero b h d = absurd (omega arith)
path_next p v (suc k) b h d = rw (ne_eqb b v d) (ap (λ (j : ℕ). on_path p v j (p b)) (left))
  where
    left : k ≡ suc k - 1
    left = omega arith

pub path_end : (p : ℕ → ℕ) (v k b : ℕ) → k ≤ 0 → on_path p v k b ≡ eqb b v
unfolding on_path
path_end p v zero b h = refl
path_end p v (suc k) b h = absurd (omega arith)

-- u is another term that v reaches, and it reaches all that v reaches
abbrev pub above : ℕ → List ℕ → ℕ → ℕ → Bool
above n reach v u = square reach v u && (not (eqb u v) && covers_all n (reach_in reach) v u)

above_tests : (n : ℕ) (reach : List ℕ) (v : ℕ) (xs : List ℕ) →
    find (λ u. square reach v u && (not (eqb u v) and covers_all n (reach_in reach) v u)) xs ≡ find
    (λ u. square reach v u && (not (eqb u v) && covers_all n (reach_in reach) v u)) xs
above_tests n reach v xs = simp and_both

pub tree_search : (n : ℕ) (reach : List ℕ) (v : ℕ) → tree_link n (reach_in reach) v ≡ Option.get_or (find (above n reach v) (from (n + 1 - 1) 1)) 0
unfolding tree_link covers_all reach_in reached
tree_search n reach v =
    ap (λ (o : Option ℕ). Option.get_or o 0)
    (find_selected (square reach v) (λ u. not (eqb u v) and covers_all n (reach_in reach) v u) (terms n)
    ∙ above_tests n reach v (terms n)
    ∙ ap (find (above n reach v)) (terms-from n))

-- which of the terms that begin a path is taken
abbrev pick : (ℕ → Bool) → List ℕ → ℕ
pick without hs = cond (eqb (length hs) 1) (get_or hs 0 0) (Option.get_or (find without hs) 0)

pick-none : (t : ℕ → Bool) (hs : List ℕ) → first hs ≡ none → pick t hs ≡ 0
unfolding find first_of
pick-none t [] e = refl
pick-none t (x ∷ hs) e = absurd (none-some (sym e))

pick_one : (t : ℕ → Bool) (hs : List ℕ) (a : ℕ) → first hs ≡ some a → first_two hs ≡ none → pick t hs ≡ a
unfolding first_two
pick_one t [] a e f = absurd (none-some e)
pick_one t (x ∷ []) a e f = cc
pick_one t (x ∷ y ∷ hs) a e f = absurd (none-some (sym f))

pick_several : (t : ℕ → Bool) (hs : List ℕ) (a b : ℕ) → first_two hs ≡ some (a, b) → pick t hs ≡ Option.get_or (find t hs) 0
unfolding first_two
pick_several t [] a b e = absurd (none-some e)
pick_several t (x ∷ []) a b e = absurd (none-some e)
pick_several t (x ∷ y ∷ hs) a b e = rw (ne_eqb (length (x ∷ y ∷ hs)) 1 (λ q. omega arith))

without_tests : (n : ℕ) (g : Graph) (p : ℕ → ℕ) (v : ℕ) (xs : List ℕ) → find (λ b. begins n g p v b && not (on_path p v n b)) xs ≡ find (begins_without n g p v) xs
without_tests n g p v xs = simp and_both

module _ (n : ℕ) (reach : List ℕ) (p : ℕ → ℕ) (v : ℕ) where
  heads_selected : heads p (reached n (reach_in reach) v) ≡ select (begins n (reach_in reach) p v) (from (n + 1 - 1) 1)
  unfolding heads reached reach_in begins
  heads_selected =
      select_selected (square reach v) (λ b. not (any (λ u. eqb (p u) b) (select (square reach v) (terms n)))) (terms n)
      ∙ ap (select (begins n (reach_in reach) p v)) (terms-from n)

  picked : basin_link n p (reached n (reach_in reach) v) v ≡ pick (λ b. not (on_path p v n b)) (select (begins n (reach_in reach) p v) (from (n + 1 - 1) 1))
  unfolding basin_link
  picked = ap (pick (λ b. not (on_path p v n b))) heads_selected

  two_none : (a : ℕ) → find (begins n (reach_in reach) p v) (from (n + 1 - 1) 1) ≡ some a →
      find (begins n (reach_in reach) p v) (from (n + 1 - (a + 1)) (a + 1)) ≡ none → first_two (select (begins n (reach_in reach) p v) (from (n + 1 - 1) 1)) ≡ none
  two_none a e f = rw (← terms-from n) (two_one (begins n (reach_in reach) p v) n a (ap (find (begins n (reach_in reach) p v)) (terms-from n) ∙ e) f)

  pub basin_none : find (begins n (reach_in reach) p v) (from (n + 1 - 1) 1) ≡ none → basin_link n p (reached n (reach_in reach) v) v ≡ 0
  basin_none e = picked ∙ pick-none (λ b. not (on_path p v n b)) (select (begins n (reach_in reach) p v) (from (n + 1 - 1) 1)) (sym (find_first _ _) ∙ e)

  pub basin_one : (a : ℕ) → find (begins n (reach_in reach) p v) (from (n + 1 - 1) 1) ≡ some a →
      find (begins n (reach_in reach) p v) (from (n + 1 - (a + 1)) (a + 1)) ≡ none → basin_link n p (reached n (reach_in reach) v) v ≡ a
  basin_one a e f = picked ∙ pick_one (λ b. not (on_path p v n b)) (select (begins n (reach_in reach) p v) (from (n + 1 - 1) 1)) a (sym (find_first _ _) ∙ e) (two_none a e f)

  pub basin_several : (a b : ℕ) → find (begins n (reach_in reach) p v) (from (n + 1 - 1) 1) ≡ some a →
      find (begins n (reach_in reach) p v) (from (n + 1 - (a + 1)) (a + 1)) ≡ some b →
      basin_link n p (reached n (reach_in reach) v) v ≡ Option.get_or (find (begins_without n (reach_in reach) p v) (from (n + 1 - 1) 1)) 0
  basin_several a b e f =
      picked
      ∙ pick_several (λ b. not (on_path p v n b)) (select (begins n (reach_in reach) p v) (from (n + 1 - 1) 1)) a b
      (rw (← terms-from n) (two_both (begins n (reach_in reach) p v) n a b (ap (find (begins n (reach_in reach) p v)) (terms-from n) ∙ e) f))
      ∙ ap (λ (o : Option ℕ). Option.get_or o 0)
      (find_selected (begins n (reach_in reach) p v) (λ b. not (on_path p v n b)) (from (n + 1 - 1) 1) ∙ without_tests n (reach_in reach) p v (from (n + 1 - 1) 1))

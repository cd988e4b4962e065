-- The stack is never higher than its room.
use Prim.Native.Nat.{ℕ, zero, suc, ◌+◌, ◌*◌, ◌≤◌, max}
use native.Mathlib.Omega.{arith}
use mathlib.Core.Path.{◌≡◌, sym, subst}
use mathlib.Core.Logic.{⊎_elim}
use mathlib.Core.Bool.{Bool, true, false, cond}
use mathlib.Core.List.{List, [], ◌∷◌, ◌++◌, tail, Memᴰ}
use mathlib.Core.Option.{Option}
use lib.Dec.{eqb, leb}
use lib.ListN.{get_elem?, get_or, length}
use Rattle.logic.specs.Search.{all}
use Rattle.theory.proofs.Basics.Search.{bool_cases, and_left, and_right, all_true}
use Rattle.theory.proofs.Basics.Compare.{eqb-true, leb-true}
use Rattle.grammar_theory.specs.Grammar.{token, rule, action, Symbols, Kinds, Grammar, alternatives}
use Rattle.grammar_theory.specs.Machine.{Table, predicted, next, finish, read, refuse, expand_by, move}
use Rattle.grammar_theory.specs.LL1.{Facts, nullable, vanish, highest}
use Rattle.grammar_theory.specs.Room.{Sizes, space, growth, space_of, growth_of, fits_size, sized, room, peak_behind, peak, PeakBounded}
use Rattle.grammar_theory.proofs.Passed.{option_cases, implies_true, each-true, mem_get_elem, get_elem_mem, get_elem_get_d, Passed, ll1_passed}
use Rattle.grammar_theory.proofs.Prediction.{Fitting, fitting_token, fitting_action, fitting_expand, fitting_start}
use Rattle.grammar_theory.proofs.Bounds.{highest-append, highest_stays}

module _ (z : Sizes) where
  pub length-space : (ss : Symbols) → length ss ≤ space_of z ss
  unfolding space_of space
  length-space [] = omega arith
  length-space (token j ∷ ss) = let h = length-space ss in omega (arith, h)
  length-space (rule r ∷ ss) = let h = length-space ss in omega (arith, h)
  length-space (action a ∷ ss) = let h = length-space ss in omega (arith, h)

  space-append : (xs ys : Symbols) → space_of z (xs ++ ys) ≡ space_of z xs + space_of z ys
  unfolding space_of
  space-append [] ys = omega arith
  space-append (token j ∷ xs) ys = let e = space-append xs ys in omega (arith, e)
  space-append (rule r ∷ xs) ys = let e = space-append xs ys in omega (arith, e)
  space-append (action a ∷ xs) ys = let e = space-append xs ys in omega (arith, e)

get_d_most : (m : ℕ) (ns : List ℕ) (i : ℕ) → all (λ n. leb n m) ns ≡ true → get_or ns i 0 ≤ m
unfolding all
get_d_most m [] i h = omega arith
get_d_most m (n ∷ ns) zero h = leb-true n m (and_left _ _ h)
get_d_most m (n ∷ ns) (suc i) h = get_d_most m ns i (and_right _ _ h)

highest-most : (c : Facts) (f : ℕ → ℕ) (m : ℕ) → ((r : ℕ) → f r ≤ m) → (ss : Symbols) → highest c f ss ≤ m
highest-most c f m h [] = omega arith
highest-most c f m h (token j ∷ ss) = omega arith
highest-most c f m h (rule r ∷ ss) = go (nullable c r) (highest-most c f m h ss)
  where
    go : (b : Bool) → highest c f ss ≤ m → max (f r) (cond b (highest c f ss) 0) ≤ m
    go true l = let l' = h r in omega (arith, l, l')
    go false l = let l' = h r in omega (arith, l')
highest-most c f m h (action a ∷ ss) = highest-most c f m h ss

-- what a stack counts for, with the tokens that are left
unfoldable pub demand : Sizes → Facts → Symbols → Kinds → ℕ
demand z c ss left = space_of z ss + growth_of z c ss + length left * z.most

start-demand : (z : Sizes) (c : Facts) (r : ℕ) (ks : Kinds) → demand z c (rule r ∷ []) ks ≤ room z r (length ks)
unfolding demand room space_of growth_of
start-demand z c r ks = go (nullable c r)
  where
    go : (b : Bool) → space z r + 0 + max (growth z r) (cond b 0 0) + length ks * z.most ≤ space z r + growth z r + length ks * z.most
    go true = omega arith
    go false = omega arith

module _ {g : Grammar} {t : Table} {c : Facts} {start : ℕ} (p : Passed g t c start) (z : Sizes) (fit : sized z c g ≡ true) where
  growth-most : (r : ℕ) → growth z r ≤ z.most
  unfolding sized growth
  growth-most r = get_d_most z.most z.growths r (and_left _ _ fit)

  fits_size_lem : (r : ℕ) (ss : Symbols) → Memᴰ ss (alternatives g r) → fits_size z c r ss ≡ true
  unfolding sized alternatives
  fits_size_lem r ss m =
      let i = mem_get_elem m in
      all_true (fits_size z c r) ss (each-true (λ s. all (fits_size z c s)) g r (and_right _ _ fit) (get_elem_get_d g r i.0 i.1)) m

  -- no move makes it more
  pub demand-read : (j k : ℕ) (ss : Symbols) (left : Kinds) → demand z c ss left ≤ demand z c (token j ∷ ss) (k ∷ left)
  unfolding demand space_of growth_of
  demand-read j k ss left = let h = highest-most c (growth z) z.most growth-most ss in omega (arith, h)

  pub demand_perform : (a : ℕ) (ss : Symbols) (left : Kinds) → demand z c ss left ≤ demand z c (action a ∷ ss) left
  unfolding demand space_of growth_of
  demand_perform a ss left = omega arith

  pub demand_expand : (r : ℕ) (alternative ss : Symbols) (left : Kinds) → Memᴰ alternative (alternatives g r) →
      demand z c (alternative ++ ss) left ≤ demand z c (rule r ∷ ss) left
  unfolding demand space_of growth_of fits_size
  demand_expand r alternative ss left m =
      let f = fits_size_lem r alternative m in
      let e = space-append z alternative ss in
      let low : space_of z alternative + highest c (growth z) alternative ≤ space z r + growth z r = leb-true _ _ (and_right _ _ f) in
      ⊎_elim
      (λ v.
      let both = implies_true _ _ (and_left _ _ f) v in
      let l : space_of z alternative ≤ space z r = leb-true _ _ (and_left _ _ both) in
      let l' : highest c (growth z) alternative ≤ growth z r = leb-true _ _ (and_right _ _ both) in
      let h = highest-append c (growth z) alternative ss in
      rw ((p.rule_fits r alternative m).vanishing v).0 (omega (arith, e, l, l', h)))
      (λ v. let h = highest_stays c (growth z) alternative ss v in omega (arith, e, low, h))
      (bool_cases (vanish c alternative))

  demand_first : (j : ℕ) (ss : Symbols) (left : Kinds) → Fitting g t c (token j ∷ ss) → j ≡ next left → demand z c ss (tail left) ≤ demand z c (token j ∷ ss) left
  unfolding next
  demand_first j ss [] f e = let l = (fitting_token f).0 in absurd (omega (arith, l, e))
  demand_first j ss (k ∷ left) f e = demand-read j k ss left

  length-demand : (ss : Symbols) (left : Kinds) → length ss ≤ demand z c ss left
  unfolding demand
  length-demand ss left = let h = length-space z ss in omega (arith, h)

  peak-demand : (n : ℕ) (ss : Symbols) (left : Kinds) → Fitting g t c ss → peak g t n ss left ≤ demand z c ss left
  unfolding peak peak_behind move expand_by
  peak-demand zero ss left f = length-demand ss left
  peak-demand (suc n) [] left f = go (eqb (next left) 0)
    where
      go : (b : Bool) → max 0 (peak_behind (peak g t n) [] left (cond b finish refuse)) ≤ demand z c [] left
      go true = omega arith
      go false = omega arith
  peak-demand (suc n) (token j ∷ ss) left f =
      let d : ℕ = demand z c (token j ∷ ss) left in
      let Goal : Bool → Type 0 = λ b. max (suc (length ss)) (peak_behind (peak g t n) (token j ∷ ss) left (cond b read refuse)) ≤ d in
      let h = length-demand (token j ∷ ss) left in
      ⊎_elim
      (λ q.
      let l = peak-demand n ss (tail left) (fitting_token f).2 in
      let l' = demand_first j ss left f (eqb-true j (next left) q) in
      subst Goal (sym q) (omega (arith, h, l, l')))
      (λ q. subst Goal (sym q) (omega (arith, h)))
      (bool_cases (eqb j (next left)))
  peak-demand (suc n) (rule r ∷ ss) left f =
      let d : ℕ = demand z c (rule r ∷ ss) left in
      let Goal : Option Symbols → Type 0 = λ o. max (suc (length ss)) (peak_behind (peak g t n) (rule r ∷ ss) left (expand_by o)) ≤ d in
      let h = length-demand (rule r ∷ ss) left in
      ⊎_elim
      (λ q. subst Goal (sym q) (omega (arith, h)))
      (λ q.
      let m = get_elem_mem (alternatives g r) _ q.1 in
      let l = peak-demand n (q.0 ++ ss) left (fitting_expand p r q.0 ss m f) in
      let l' = demand_expand r q.0 ss left m in
      subst Goal (sym q.1) (omega (arith, h, l, l')))
      (option_cases (get_elem? (alternatives g r) (predicted t r (next left))))
  peak-demand (suc n) (action a ∷ ss) left f =
      let h = length-demand (action a ∷ ss) left in
      let l = peak-demand n ss left (fitting_action f) in
      let l' = demand_perform a ss left in
      omega (arith, h, l, l')

pub peak_bounded : PeakBounded
unfolding PeakBounded
peak_bounded g t c z r passes fit n ks =
    let p = ll1_passed g t c r passes in
    let h = peak-demand p z fit n (rule r ∷ []) ks (fitting_start p) in
    let l = start-demand z c r ks in
    omega (arith, h, l)

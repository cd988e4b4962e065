-- What a choice by an order list is.
use Prim.Native.Nat.{ℕ, ◌≤◌}
use native.Mathlib.Omega.{arith}
use mathlib.Core.Path.{◌≡◌, refl, sym, subst}
use mathlib.Core.Bool.{true}
use mathlib.Core.List.{List, [], ◌∷◌, Memᴰ}
use mathlib.Core.Option.{some}
use Rattle.std.specs.Prelude.{Option, Some, None}
use Rattle.logic.specs.Search.{◌and◌, ◌or◌, all, any, from, keep, first_of}
use Rattle.logic.specs.Query.{is_order}
use Rattle.logic.specs.Facts.{Facts, link_numbers}
use Rattle.logic.specs.Rules.{Rule, rules, Triple, triple, move, applies, triples, choose}
use Rattle.logic.specs.Walk.{order_of}
use Rattle.theory.proofs.Basics.Search.{keep_some, first_of-some}
use Rattle.theory.proofs.Walks.Order.{order_full, choose-some, choose_nothing}
use Rattle.theory.proofs.Paths.Applies.{triple_range}
use Rattle.rules.specs.Answers.{choice_of}
use Rattle.rules.specs.declared.Move.{Move}
use Rattle.picking.specs.Picks.{Picks}

pub choose_range : (n : ℕ) (order : List Rule) (s : Facts) (i : ℕ) (r : Rule) (x y z : ℕ) → choose n order s ≡ some (move i r (triple x y z)) → (x ≤ n) × (y ≤ n) × (z ≤ n)
unfolding choose
choose_range n order s i r x y z h =
    let f = first_of-some (λ r. first_of (λ i. first_of (λ t. keep (applies n s (move i r t)) (move i r t)) (triples n)) (link_numbers s.links)) order (move i r (triple x y z)) h in
    let l = first_of-some (λ i. first_of (λ t. keep (applies n s (move i f.0 t)) (move i f.0 t)) (triples n)) (link_numbers s.links) (move i r (triple x y z)) f.2 in
    let g = first_of-some (λ t. keep (applies n s (move l.0 f.0 t)) (move l.0 f.0 t)) (triples n) (move i r (triple x y z)) l.2 in
    let k = (keep_some (applies n s (move l.0 f.0 g.0)) g.2).1 in
    let e : g.0 ≡ triple x y z = cc in
    triple_range n x y z (subst (λ (t : Triple). Memᴰ t (triples n)) e g.1)

-- a choice by an order list picks
pub chosen_picks : (n : ℕ) → n ≤ 16 → (order : List ℕ) → is_order order ≡ true → (s : Facts) (r : Option Move) → choice_of r ≡ choose n (order_of order) s → Picks n s r
chosen_picks n few order o s (Some m) h =
    let (lx, ly, lz) = choose_range n (order_of order) s _ _ _ _ _ (sym h) in
    (choose-some n s (order_of order) _ (sym h), omega arith, omega arith, omega arith)
chosen_picks n few order o s None h = choose_nothing n s (order_of order) rules (order_full order o) (sym h)

pub plain_order : is_order (1 ∷ 2 ∷ 3 ∷ 8 ∷ 4 ∷ 5 ∷ 6 ∷ 7 ∷ []) ≡ true
unfolding is_order all any from ◌and◌ ◌or◌
plain_order = refl

pub total_order : is_order (1 ∷ 2 ∷ 3 ∷ 8 ∷ 7 ∷ 6 ∷ 5 ∷ 4 ∷ []) ≡ true
unfolding is_order all any from ◌and◌ ◌or◌
total_order = refl

-- The call keeps its promise, no other answer does, and an order that it answers passes check 1.
use Prim.Native.Nat.{ℕ, ◌+◌, ◌-◌, ◌<◌}
use native.Mathlib.Omega.{arith}
use mathlib.Core.Path.{◌≡◌, refl, sym, ap, ◌∙◌, subst}
use mathlib.Core.Logic.{inl, inr}
use mathlib.Core.Bool.{Bool, true, false, not, cond}
use mathlib.Core.List.{List, []}
use mathlib.Core.Option.{Option, none, some, Option-elim}
use lib.ListN.{length, take, replicate}
use lib.Seq.{take_at}
use lib.Dec.{leb}
use borrow.Author.Tests.{leb-true, leb-false}
use Rattle.logic.specs.Search.{keep}
use Rattle.logic.specs.Query.{is_order}
use Rattle.logic.specs.Calls.{order_check, padded}
use Rattle.theory.proofs.Basics.Search.{true-false}
use Rattle.ordering.specs.Sheet.{Pair, pairs, laid_out, rules_only}
use Rattle.ordering.specs.Kept.{is_ring, SmallestOrder, ShortestRing}
use Rattle.ordering.specs.Finding.{next_rule, grow, shown_ring}
use Rattle.ordering.specs.Calls.{Answer, order, ring, refused, Outcome, refusal, answered, order_call}
use Rattle.ordering.specs.Promise.{WholeSheet, RuleNumbers, Passes, StandsFirst, Means, Promised, PassesCheckOne}
use Rattle.ordering.proofs.Lists.{order_eight}
use Rattle.ordering.proofs.Places.{neither_smaller}
use Rattle.ordering.proofs.Rings.{Numbered, ring_no_order, shown_right}
use Rattle.ordering.proofs.Sheets.{sheet_numbered, laid_whole, whole_laid, rules_numbers, numbers_rules}
use Rattle.ordering.proofs.Orders.{grown-smallest, stuck, stuck_round}

-- "A sheet without a ring has an order", and one with a ring has none (`ring_no_order`).

pub shown_ring_lem : (ps : List Pair) → Numbered ps → grow ps 8 [] ≡ none → ShortestRing ps (shown_ring ps)
shown_ring_lem ps n h = go (stuck ps n 8 [] h)
  where
    go : (at : List ℕ) × (next_rule ps at ≡ none) × (length at < 0 + 8) → ShortestRing ps (shown_ring ps)
    go (at, e, l) = let r = stuck_round ps n at e (omega arith) in shown_right ps n r.0 r.1 r.2 r.3

pub no_ring-order : (ps : List Pair) → Numbered ps → ((l : List ℕ) → is_ring ps l ≡ false) → (l : List ℕ) × SmallestOrder ps l
no_ring-order ps n free = go (grow ps 8 []) refl
  where
    go : (o : Option (List ℕ)) → grow ps 8 [] ≡ o → (l : List ℕ) × SmallestOrder ps l
    go none e = absurd (true-false (shown_ring_lem ps n e).is_ring_lem (free (shown_ring ps)))
    go (some l) e = (l, grown-smallest ps n l e)

-- The promise is kept

answered_means : (sheet : List ℕ) (room : ℕ) → Passes sheet room → Means sheet room (answered (pairs sheet) room).answer (answered (pairs sheet) room).lent
unfolding answered Option-elim
answered_means sheet room p = go (grow (pairs sheet) 8 []) refl
  where
    n : Numbered (pairs sheet)
    n = sheet_numbered sheet (whole_laid sheet p.whole) (numbers_rules sheet p.numbered)

    result : Option (List ℕ) → Outcome
    result o = Option-elim o (record { answer = ring; lent = padded room (shown_ring (pairs sheet)) }) (λ l. record { answer = order; lent = padded room l })

    go : (o : Option (List ℕ)) → grow (pairs sheet) 8 [] ≡ o → Means sheet room (result o).answer (result o).lent
    go none e = let r = shown_ring_lem (pairs sheet) n e in (p, ring_no_order (pairs sheet) (shown_ring (pairs sheet)) r.is_ring_lem, (shown_ring (pairs sheet), refl, r))
    go (some l) e = (p, (l, refl, grown-smallest (pairs sheet) n l e))

pub call_promised : (sheet : List ℕ) (room : ℕ) → Promised sheet room (order_call sheet room)
unfolding order_call refusal
call_promised sheet room = record { means = go (laid_out sheet) (rules_only sheet) (leb 8 room) refl refl refl }
  where
    result : Bool → Bool → Bool → Outcome
    result a b c = cond a (cond b (cond c (answered (pairs sheet) room) (refusal room 14)) (refusal room 16)) (refusal room 15)

    go : (a b c : Bool) → laid_out sheet ≡ a → rules_only sheet ≡ b → leb 8 room ≡ c → Means sheet room (result a b c).answer (result a b c).lent
    go false b c d e f = (inl (refl, λ w. true-false (whole_laid sheet w) d), refl, refl)
    go true false c d e f = (inr (inl (refl, laid_whole sheet d, λ n. true-false (numbers_rules sheet n) e)), refl, refl)
    go true true false d e f = (inr (inr (refl, laid_whole sheet d, rules_numbers sheet e, leb-false 8 room f)), refl, refl)
    go true true true d e f = answered_means sheet room (record { whole = laid_whole sheet d; numbered = rules_numbers sheet e; roomy = leb-true 8 room f })

-- No other answer keeps it

module _ (ps : List Pair) where
  smallest_one : (l m : List ℕ) → SmallestOrder ps l → SmallestOrder ps m → l ≡ m
  smallest_one l m a b =
      neither_smaller l m (order_eight l a.is_order_lem ∙ sym (order_eight m b.is_order_lem)) (b.smallest l a.is_order_lem a.keeps_all) (a.smallest m b.is_order_lem b.keeps_all)

  shortest_one : (l m : List ℕ) → ShortestRing ps l → ShortestRing ps m → l ≡ m
  shortest_one l m a b = neither_smaller l m same (b.smallest l a.is_ring_lem a.from_lowest_lem same) (a.smallest m b.is_ring_lem b.from_lowest_lem (sym same))
    where
      same : length l ≡ length m
      same = omega (arith, a.shortest m b.is_ring_lem, b.shortest l a.is_ring_lem)

-- the first refusal that stands is one
stands_one : (j k : ℕ) (sheet : List ℕ) (room : ℕ) → StandsFirst j sheet room → StandsFirst k sheet room → j ≡ k
stands_one j k sheet room (inl a) (inl b) = a.0 ∙ sym b.0
stands_one j k sheet room (inl a) (inr (inl b)) = absurd (a.1 b.1)
stands_one j k sheet room (inl a) (inr (inr b)) = absurd (a.1 b.1)
stands_one j k sheet room (inr (inl a)) (inl b) = absurd (b.1 a.1)
stands_one j k sheet room (inr (inr a)) (inl b) = absurd (b.1 a.1)
stands_one j k sheet room (inr (inl a)) (inr (inl b)) = a.0 ∙ sym b.0
stands_one j k sheet room (inr (inl a)) (inr (inr b)) = absurd (a.2 b.2)
stands_one j k sheet room (inr (inr a)) (inr (inl b)) = absurd (b.2 a.2)
stands_one j k sheet room (inr (inr a)) (inr (inr b)) = a.0 ∙ sym b.0

passes_stands : (k : ℕ) (sheet : List ℕ) (room : ℕ) → Passes sheet room → StandsFirst k sheet room → ⊥
passes_stands k sheet room p (inl b) = b.1 p.whole
passes_stands k sheet room p (inr (inl b)) = b.2 p.numbered
passes_stands k sheet room p (inr (inr b)) = omega (arith, p.roomy, b.3)

means_one : (sheet : List ℕ) (room : ℕ) (a b : Answer) (l m : List ℕ) → Means sheet room a l → Means sheet room b m → (a ≡ b) × (l ≡ m)
means_one sheet room order order l m (p, x) (q, y) =
    (refl, x.1 ∙ ap (padded room) (smallest_one (pairs sheet) x.0 y.0 x.2 y.2) ∙ sym y.1)
means_one sheet room order ring l m (p, x) (q, no_order, y) = absurd (true-false x.2.keeps_all (no_order x.0 x.2.is_order_lem))
means_one sheet room order (refused k at) l m (p, x) (s, y, z) = absurd (passes_stands k sheet room p s)
means_one sheet room ring order l m (p, no_order, x) (q, y) = absurd (true-false y.2.keeps_all (no_order y.0 y.2.is_order_lem))
means_one sheet room ring ring l m (p, f, x) (q, g, y) =
    (refl, x.1 ∙ ap (padded room) (shortest_one (pairs sheet) x.0 y.0 x.2 y.2) ∙ sym y.1)
means_one sheet room ring (refused k at) l m (p, f, x) (s, y, z) = absurd (passes_stands k sheet room p s)
means_one sheet room (refused j at) order l m (s, x, z) (q, y) = absurd (passes_stands j sheet room q s)
means_one sheet room (refused j at) ring l m (s, x, z) (q, g, y) = absurd (passes_stands j sheet room q s)
means_one sheet room (refused j at) (refused k to) l m x y =
    let number : j ≡ k = stands_one j k sheet room x.0 y.0 in
    let place : at ≡ to = x.1 ∙ sym y.1 in
    (cc, x.2 ∙ sym y.2)

pub promised_one : (sheet : List ℕ) (room : ℕ) (o p : Outcome) → Promised sheet room o → Promised sheet room p → o ≡ p
promised_one sheet room o p a b =
    let r = means_one sheet room o.answer p.answer o.lent p.lent a.means b.means in
    λ i. record { answer = r.0 i; lent = r.1 i }

-- Check 1

pub passes_check_one : PassesCheckOne
unfolding order_check keep padded
passes_check_one sheet room h i e = go (subst (λ (a : Answer). Means sheet room a (order_call sheet room).lent) h (call_promised sheet room).means)
  where
    go : Means sheet room order (order_call sheet room).lent → Path (Option ℕ) (keep (not (is_order i.order)) 0) none
    go (p, x) =
        let whole : take 8 (padded room x.0) ≡ x.0 = take_at x.0 (replicate (room - length x.0) 0) 8 (order_eight x.0 x.2.is_order_lem) in
        rw (e ∙ ap (take 8) x.1 ∙ whole, x.2.is_order_lem)

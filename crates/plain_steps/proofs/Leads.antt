-- What is known of a path and found there, where our walk of another path comes to it by REFLEX, TRANS1 and TRANS2 alone.
use Prim.Native.Nat.{ℕ, ◌-◌, ◌≤◌}
use native.Mathlib.Omega.{arith}
use mathlib.Core.Path.{◌≡◌, sym, ap, ◌∙◌, subst}
use mathlib.Core.Logic.{⊎_elim}
use mathlib.Core.Bool.{Bool, true}
use mathlib.Core.List.{List}
use lib.ListN.{length, take, drop, length-drop}
use lib.Seq.{take-length}
use lib.Dec.{eqb}
use borrow.Author.Tests.{eqb-true}
use Rattle.logic.specs.Search.{from, any, all}
use Rattle.logic.specs.Query.{Query, term_count, is_order}
use Rattle.logic.specs.Facts.{Facts}
use Rattle.logic.specs.Walk.{Look, look, order_of}
use Rattle.logic.specs.Steps.{AtMost}
use Rattle.logic.specs.Decision.{Closes}
use Rattle.theory.proofs.Basics.Search.{bool_cases, and_left}
use Rattle.theory.proofs.Query.Tied.{Accepted}
use Rattle.theory.proofs.Walks.Order.{order_full}
use Rattle.theory.proofs.Calls.Decision.{Known, closed_known, closed_heap}
use Rattle.closing.specs.Closed.{Closed, Begins, begins}
use Rattle.closing.proofs.Order.{begins_with}
use Rattle.closing.proofs.Walks.{closed-most, closed-walk, look-rest}
use Rattle.plain_steps.specs.Walks.{Ahead, WalksTo}
use Rattle.kinds.specs.declared.Kind.{Kind}

pub order_long : (order : List ℕ) → is_order order ≡ true → 3 ≤ length order
unfolding is_order
order_long order o = let e : length order ≡ 8 = eqb-true (length order) 8 (and_left (eqb (length order) 8) (all (λ k. any (eqb k) order) (from 8 1)) o) in omega arith

-- the rest of the list, as the code lends it, decides what is seen
look_behind : (q : Query) (order : List ℕ) (n : ℕ) (t : Facts) → n ≡ term_count q → 3 ≤ length order → begins order ≡ true → Closed n t →
    look q (order_of order) t ≡ look q (order_of (take (length order - 3) (drop 3 order))) t
look_behind q order n t e long b cl =
    look-rest q (order_of order) (order_of (drop 3 order)) (begins_with order long b) t (subst (λ (m : ℕ). Closed m t) e cl)
    ∙ ap (λ (ks : List ℕ). look q (order_of ks) t) (sym (ap (λ (m : ℕ). take m (drop 3 order)) (sym (length-drop 3 order)) ∙ take-length (drop 3 order)))

-- and so what is seen by the rest is what is seen
pub look_ended : (l : Look) (q : Query) (order : List ℕ) (n : ℕ) (t : Facts) → n ≡ term_count q → 3 ≤ length order → begins order ≡ true → Closed n t →
    l ≡ look q (order_of (take (length order - 3) (drop 3 order))) t → l ≡ look q (order_of order) t
look_ended l q order n t e long b cl h = h ∙ sym (look_behind q order n t e long b cl)

module _ {q : Query} (order : List ℕ) (ok : Accepted q) (o : is_order order ≡ true) (k : ℕ) (s t : Facts) (known : Known q s)
    (most : AtMost (term_count q) s k) (n : ℕ) (terms_are : n ≡ term_count q) (a : Ahead n order s t) where
  closes : begins order ≡ true → Closes (term_count q) s t
  closes b = subst (λ (m : ℕ). Closes m s t) terms_are (a.0 b).0

  -- the closed path, by the laws of closing
  module _ (b : begins order ≡ true) where
    first : Begins (order_of order) (order_of (drop 3 order))
    first = begins_with order (order_long order o) b

    closed : Closed (term_count q) t
    closed = subst (λ (m : ℕ). Closed m t) terms_are (a.0 b).1

    most-closed : AtMost (term_count q) t k
    most-closed = closed-most q ok (order_of order) (order_of (drop 3 order)) first t closed k s known most (closes b)

    walks_closed : (limited : Bool) (w : Kind) (p : Facts) → WalksTo q order k t limited w p → WalksTo q order k s limited w p
    walks_closed limited w p told =
        record {
          refuted = λ e h. told.refuted e (closed_heap q ok s t known (closes b) h);
          ends = λ e. closed-walk q ok (order_of order) (order_of (drop 3 order)) first t closed k s known most (closes b) (order_full order o) p (told.ends e);
          gives_up = told.gives_up;
        }

  pub ahead_known : Known q t
  ahead_known = ⊎_elim (λ b. closed_known q ok s t known (closes b)) (λ b. subst (Known q) (sym (a.1 b)) known) (bool_cases (begins order))

  pub ahead_most : AtMost (term_count q) t k
  ahead_most = ⊎_elim most-closed (λ b. subst (λ (u : Facts). AtMost (term_count q) u k) (sym (a.1 b)) most) (bool_cases (begins order))

  pub ahead_walks : (limited : Bool) (w : Kind) (p : Facts) → WalksTo q order k t limited w p → WalksTo q order k s limited w p
  ahead_walks limited w p told = ⊎_elim (λ b. walks_closed b limited w p told) (λ b. subst (λ (u : Facts). WalksTo q order k u limited w p) (a.1 b) told) (bool_cases (begins order))

-- The answer of the code, from what it placed or followed.
use Prim.Native.Nat.{ℕ, ◌+◌, ◌-◌, ◌≤◌, ◌<◌}
use native.Mathlib.Omega.{arith}
use mathlib.Core.Path.{◌≡◌, refl, sym, ap, ◌∙◌}
use mathlib.Core.Bool.{true, false}
use mathlib.Core.List.{List, [], ◌++◌, append_assoc}
use mathlib.Core.Option.{none, some, Option-elim}
use lib.ListN.{length, replicate, length-append, length-replicate, replicate-append-replicate}
use borrow.Author.Tests.{le-leb, lt-leb}
use Rattle.logic.specs.Calls.{padded}
use Rattle.ordering.specs.Sheet.{Pair, pairs, laid_out, rules_only}
use Rattle.ordering.specs.Finding.{grow, shown_ring}
use Rattle.ordering.specs.Calls.{answered, order_call, refusal}
use Rattle.precedence.specs.Answers.{Does, DoesAnswer}
use Rattle.std.specs.Prelude.{Ok, Err}
use Rattle.refusals.specs.declared.Fault.TheVariants as fault
use Rattle.refusals.specs.Numbers.{refusal_at}
use Rattle.precedence.specs.declared.OrderAnswer.{OrderAnswer}
use Rattle.precedence.specs.declared.OrderAnswer.TheVariants as answer
use Rattle.ordering.proofs.Lists.{order_eight}
use Rattle.ordering.proofs.Sheets.{sheet_numbered}
use Rattle.ordering.proofs.Orders.{grown-smallest}

pub order_size : (sheet l : List ℕ) → laid_out sheet ≡ true → rules_only sheet ≡ true → grow (pairs sheet) 8 [] ≡ some l → length l ≡ 8
order_size sheet l a b e = order_eight l (grown-smallest (pairs sheet) (sheet_numbered sheet a b) l e).is_order_lem

pub does_order : (ps : List Pair) (room : ℕ) (l bytes : List ℕ) → grow ps 8 [] ≡ some l → length l ≡ 8 → bytes ≡ l ++ replicate (room - 8) 0 → DoesAnswer (answered ps room) answer.Order bytes
unfolding answered padded Option-elim
does_order ps room l bytes e size h = rw e (record { answers = refl; leaves = h ∙ ap (λ (k : ℕ). l ++ replicate (room - k) 0) (sym size) })

-- zeros to eight, and past them
padded_more : (room : ℕ) (l : List ℕ) → length (padded 8 l) ≡ 8 → 8 ≤ room → padded 8 l ++ replicate (room - 8) 0 ≡ padded room l
unfolding padded
padded_more room l size h =
    append_assoc l (replicate (8 - length l) 0) (replicate (room - 8) 0)
    ∙ ap (λ (zs : List ℕ). l ++ zs) (replicate-append-replicate (8 - length l) (room - 8) 0 ∙ ap (λ (k : ℕ). replicate k 0) total)
  where
    total : 8 - length l + (room - 8) ≡ room - length l
    total = omega (arith, size, length-append l (replicate (8 - length l) 0), length-replicate {A = ℕ} (8 - length l) 0)

pub does_ring : (ps : List Pair) (room : ℕ) (list bytes : List ℕ) → grow ps 8 [] ≡ none → length list ≡ 8 → list ≡ padded 8 (shown_ring ps) →
    8 ≤ room → bytes ≡ list ++ replicate (room - 8) 0 → DoesAnswer (answered ps room) answer.Ring bytes
unfolding answered Option-elim
does_ring ps room list bytes e size is h b =
    rw e (record { answers = refl; leaves = b ∙ ap (λ (l : List ℕ). l ++ replicate (room - 8) 0) is ∙ padded_more room (shown_ring ps) (sym (ap length is) ∙ size) h })

module _ (sheet : List ℕ) (room : ℕ) where
  pub refused_15 : (bytes : List ℕ) → laid_out sheet ≡ false → bytes ≡ replicate room 0 → Does (order_call sheet room) (Err (refusal_at fault.SheetLength 0)) bytes
  unfolding order_call refusal
  refused_15 bytes h b = rw h (record { answers = refl; leaves = b })

  pub refused_16 : (bytes : List ℕ) → laid_out sheet ≡ true → rules_only sheet ≡ false → bytes ≡ replicate room 0 → Does (order_call sheet room) (Err (refusal_at fault.SheetRule 0)) bytes
  unfolding order_call refusal
  refused_16 bytes h k b = rw (h, k) (record { answers = refl; leaves = b })

  pub refused_14 : (bytes : List ℕ) → laid_out sheet ≡ true → rules_only sheet ≡ true → room < 8 → bytes ≡ replicate room 0 → Does (order_call sheet room) (Err (refusal_at fault.TextBuffer 0)) bytes
  unfolding order_call refusal
  refused_14 bytes h k l b = rw (h, k, lt-leb 8 room l) (record { answers = refl; leaves = b })

  pub does_answered : (r : OrderAnswer) (bytes : List ℕ) → laid_out sheet ≡ true → rules_only sheet ≡ true → 8 ≤ room → DoesAnswer (answered (pairs sheet) room) r bytes → Does (order_call sheet room) (Ok r) bytes
  unfolding order_call
  does_answered r bytes h k l d = rw (h, k, le-leb 8 room l) d

-- The machine ends: every move but reading a token takes something from the stack's potential.
use Prim.Native.Nat.{ℕ, zero, suc, ◌+◌, ◌*◌, ◌≤◌, ◌<◌, max}
use native.Mathlib.Omega.{arith}
use native.Mathlib.Nat.{mul-le-mul_left}
use mathlib.Core.Path.{◌≡◌, refl, sym, ap, subst}
use mathlib.Core.Logic.{⊎_elim}
use mathlib.Core.Bool.{Bool, true, false, cond, true≢false}
use mathlib.Core.List.{[], ◌∷◌, ◌++◌, tail}
use mathlib.Core.Option.{Option}
use lib.Dec.{eqb}
use Rattle.theory.proofs.Basics.Compare.{eqb-true}
use lib.ListN.{get_elem?, length}
use Rattle.logic.specs.Search.{◌and◌}
use Rattle.theory.proofs.Basics.Search.{bool_cases}
use Rattle.grammar_theory.specs.Grammar.{token, rule, action, Symbols, Kinds, Grammar, alternatives, Step, shift, act}
use Rattle.grammar_theory.specs.Machine.{Table, predicted, next, finish, read, refuse, expand_by, move, State, after_read, after_perform, after_expand, moved, run}
use Rattle.grammar_theory.specs.LL1.{Facts, nullable, rank, weight, vanish, highest, leading, weigh, moves}
use Rattle.grammar_theory.proofs.States.{at}
use Rattle.grammar_theory.specs.Claims.{ended}
use Rattle.grammar_theory.proofs.Passed.{option_cases, get_elem_mem, FitsRule, Passed}
use Rattle.grammar_theory.proofs.Prediction.{Fitting, fitting_token, fitting_action, fitting_rule, fitting_expand}

module _ (c : Facts) where
  pub weigh-append : (xs ys : Symbols) → weigh c (xs ++ ys) ≡ weigh c xs + weigh c ys
  unfolding weigh
  weigh-append [] ys = omega arith
  weigh-append (token j ∷ xs) ys = weigh-append xs ys
  weigh-append (rule r ∷ xs) ys = let e = weigh-append xs ys in omega (arith, e)
  weigh-append (action a ∷ xs) ys = let e = weigh-append xs ys in omega (arith, e)

  -- in front of others: those count only where the first ones vanish
  pub highest-append : (f : ℕ → ℕ) (xs ys : Symbols) → highest c f (xs ++ ys) ≤ max (highest c f xs) (highest c f ys)
  highest-append f [] ys = omega arith
  highest-append f (token j ∷ xs) ys = omega arith
  highest-append f (rule r ∷ xs) ys = go (nullable c r) (highest-append f xs ys)
    where
      go : (b : Bool) → highest c f (xs ++ ys) ≤ max (highest c f xs) (highest c f ys) →
          max (f r) (cond b (highest c f (xs ++ ys)) 0) ≤ max (max (f r) (cond b (highest c f xs) 0)) (highest c f ys)
      go true h = omega (arith, h)
      go false h = omega (arith, h)
  highest-append f (action a ∷ xs) ys = highest-append f xs ys

  pub highest_stays : (f : ℕ → ℕ) (xs ys : Symbols) → vanish c xs ≡ false → highest c f (xs ++ ys) ≡ highest c f xs
  unfolding vanish ◌and◌
  highest_stays f [] ys h = absurd (true≢false h)
  highest_stays f (token j ∷ xs) ys h = refl
  highest_stays f (rule r ∷ xs) ys h = go (nullable c r) h (highest_stays f xs ys)
    where
      go : (b : Bool) → b and vanish c xs ≡ false → (vanish c xs ≡ false → highest c f (xs ++ ys) ≡ highest c f xs) →
          max (f r) (cond b (highest c f (xs ++ ys)) 0) ≡ max (f r) (cond b (highest c f xs) 0)
      go true h k = ap (max (f r)) (k h)
      go false h k = refl
  highest_stays f (action a ∷ xs) ys h = highest_stays f xs ys h

  pub leading-append : (xs ys : Symbols) → leading c (xs ++ ys) ≤ max (leading c xs) (leading c ys)
  unfolding leading
  leading-append xs ys = highest-append (λ r. suc (rank c r)) xs ys

  pub leading_stays : (xs ys : Symbols) → vanish c xs ≡ false → leading c (xs ++ ys) ≡ leading c xs
  unfolding leading
  leading_stays xs ys h = highest_stays (λ r. suc (rank c r)) xs ys h

-- of a stack: how many moves there are at most before the next token is read, and what those to come may add to it
unfoldable pub potential : Facts → Symbols → ℕ
potential c ss = weigh c ss + suc c.heaviest * leading c ss

-- what a token that is read gives at most
unfoldable pub gain : Facts → ℕ
gain c = suc c.heaviest * c.top

module _ (c : Facts) where
  potential-action : (a : ℕ) (ss : Symbols) → suc (potential c ss) ≤ potential c (action a ∷ ss)
  unfolding potential weigh leading
  potential-action a ss = omega arith

  -- a rule whose alternative vanishes
  potential_null : (r : ℕ) (alternative ss : Symbols) → nullable c r ≡ true → suc (weigh c alternative) ≤ weight c r → leading c alternative ≤ rank c r →
      suc (potential c (alternative ++ ss)) ≤ potential c (rule r ∷ ss)
  unfolding potential weigh leading
  potential_null r alternative ss n w l =
      rw n (
      let over : ℕ = max (suc (rank c r)) (leading c ss) in
      let low : leading c (alternative ++ ss) ≤ over = let h = leading-append c alternative ss in omega (arith, h, l) in
      let h = mul-le-mul_left (suc c.heaviest) low in
      let e = weigh-append c alternative ss in
      omega (arith, h, e, w))

  -- a rule whose alternative does not
  potential_full : (r : ℕ) (alternative ss : Symbols) → vanish c alternative ≡ false → weigh c alternative ≤ c.heaviest → leading c alternative ≤ rank c r →
      suc (potential c (alternative ++ ss)) ≤ potential c (rule r ∷ ss)
  unfolding potential weigh leading
  potential_full r alternative ss v w l =
      let over : ℕ = max (suc (rank c r)) (cond (nullable c r) (leading c ss) 0) in
      let low : suc (leading c (alternative ++ ss)) ≤ over = let h = leading_stays c alternative ss v in omega (arith, h, l) in
      let h = mul-le-mul_left (suc c.heaviest) low in
      let e = weigh-append c alternative ss in
      omega (arith, h, e, w)

  -- how many moves are enough from here
  unfoldable pub enough : Symbols → Kinds → ℕ
  enough ss left = suc (potential c ss + length left * suc (gain c))

  enough-some : (ss : Symbols) (left : Kinds) → enough ss left ≤ 0 → ⊥
  unfolding enough
  enough-some ss left m = omega (arith, m)

  -- a move that takes from the potential
  enough-move : (n : ℕ) (ss ss' : Symbols) (left : Kinds) → suc (potential c ss') ≤ potential c ss → enough ss left ≤ suc n → enough ss' left ≤ n
  unfolding enough
  enough-move n ss ss' left l m = omega (arith, l, m)

module _ {g : Grammar} {t : Table} {c : Facts} where
  leading_top : (ss : Symbols) → Fitting g t c ss → leading c ss ≤ c.top
  unfolding leading
  leading_top [] f = omega arith
  leading_top (token j ∷ ss) f = omega arith
  leading_top (rule r ∷ ss) f = let parts = fitting_rule f in go (nullable c r) parts.1 (leading_top ss parts.3)
    where
      go : (b : Bool) → rank c r < c.top → leading c ss ≤ c.top → max (suc (rank c r)) (cond b (leading c ss) 0) ≤ c.top
      go true l h = omega (arith, l, h)
      go false l h = omega (arith, l, h)
  leading_top (action a ∷ ss) f = leading_top ss (fitting_action f)

  potential-token : (j : ℕ) (ss : Symbols) → Fitting g t c ss → potential c ss ≤ potential c (token j ∷ ss) + gain c
  unfolding potential gain weigh leading
  potential-token j ss f = let h = mul-le-mul_left (suc c.heaviest) (leading_top ss f) in omega (arith, h)

  potential-rule : (r : ℕ) (alternative ss : Symbols) → FitsRule g t c r alternative → suc (potential c (alternative ++ ss)) ≤ potential c (rule r ∷ ss)
  potential-rule r alternative ss f =
      ⊎_elim
      (λ v. let both = f.vanishing v in potential_null c r alternative ss both.0 both.1 f.rank_above)
      (λ v. potential_full c r alternative ss v f.weigh_most f.rank_above)
      (bool_cases (vanish c alternative))

  pub start-enough : (r : ℕ) (ks : Kinds) → Fitting g t c (rule r ∷ []) → enough c (rule r ∷ []) ks ≤ moves c r (length ks)
  unfolding enough moves potential gain weigh
  start-enough r ks f = let h = mul-le-mul_left (suc c.heaviest) (leading_top (rule r ∷ []) f) in omega (arith, h)

module _ {g : Grammar} {t : Table} {c : Facts} {start : ℕ} (p : Passed g t c start) {B : Type 0} (does : Step → B → B) where
  ends_read : (n j : ℕ) (ss : Symbols) (left : Kinds) → 0 < j → j ≡ next left → Fitting g t c ss → enough c (token j ∷ ss) left ≤ suc n →
      enough c ss (tail left) ≤ n
  unfolding enough next
  ends_read n j ss [] l e f m = absurd (omega (arith, l, e))
  ends_read n j ss (k ∷ left) l e f m = let h = potential-token j ss f in omega (arith, h, m)

  pub ends_at : (n : ℕ) (ss : Symbols) (left : Kinds) (now certain : B) (e : Bool) → Fitting g t c ss → enough c ss left ≤ n →
      ended (run does g t n (at ss left now certain e)) ≡ true
  unfolding run move moved ended after_read after_perform after_expand expand_by
  ends_at zero ss left now certain e f m = absurd (enough-some c ss left m)
  ends_at (suc n) [] left now certain e f m = go (eqb (next left) 0)
    where
      go : (b : Bool) → ended (moved does (run does g t n) (at [] left now certain e) (cond b finish refuse)) ≡ true
      go true = refl
      go false = refl
  ends_at (suc n) (token j ∷ ss) left now certain e f m =
      let s : State B = at (token j ∷ ss) left now certain e in
      let Goal : Bool → Type 0 = λ b. ended (moved does (run does g t n) s (cond b read refuse)) ≡ true in
      let parts = fitting_token f in
      let b : B = does (shift (next left)) now in
      ⊎_elim
      (λ q. subst Goal (sym q) (ends_at n ss (tail left) b b true parts.2 (ends_read n j ss left parts.0 (eqb-true j (next left) q) parts.2 m)))
      (λ q. subst Goal (sym q) refl)
      (bool_cases (eqb j (next left)))
  ends_at (suc n) (rule r ∷ ss) left now certain e f m =
      let s : State B = at (rule r ∷ ss) left now certain e in
      let Goal : Option Symbols → Type 0 = λ o. ended (moved does (run does g t n) s (expand_by o)) ≡ true in
      ⊎_elim
      (λ q. subst Goal (sym q) refl)
      (λ q.
      let mem = get_elem_mem (alternatives g r) _ q.1 in
      let less = potential-rule r q.0 ss (p.rule_fits r q.0 mem) in
      subst Goal (sym q.1)
      (ends_at n (q.0 ++ ss) left now certain false (fitting_expand p r q.0 ss mem f) (enough-move c n (rule r ∷ ss) (q.0 ++ ss) left less m)))
      (option_cases (get_elem? (alternatives g r) (predicted t r (next left))))
  ends_at (suc n) (action a ∷ ss) left now certain e f m =
      let b : B = does (act a) now in
      ends_at n ss left b (cond e b certain) e (fitting_action f) (enough-move c n (action a ∷ ss) ss left (potential-action c a ss) m)

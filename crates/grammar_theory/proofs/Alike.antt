-- Two machines that do the same steps to different things end alike, if each move keeps what they are about related.
use Prim.Native.Nat.{ℕ, zero, suc}
use mathlib.Core.Path.{refl, sym, subst}
use mathlib.Core.Logic.{⊎_elim}
use mathlib.Core.Bool.{Bool, true, false, cond}
use mathlib.Core.List.{[], ◌∷◌, ◌++◌, tail}
use mathlib.Core.Option.{Option}
use lib.Dec.{eqb}
use lib.ListN.{get_elem?, length}
use Rattle.theory.proofs.Basics.Search.{bool_cases}
use Rattle.theory.proofs.Basics.Compare.{eqb-true}
use Rattle.grammar_theory.specs.Grammar.{token, rule, action, Symbols, Kinds, Grammar, alternatives, Step, shift, act, Steps}
use Rattle.grammar_theory.specs.Machine.{Table, predicted, next, finish, read, refuse, expand_by, move, State, after_read, after_perform, after_expand, moved, run, start, after}
use Rattle.grammar_theory.specs.LL1.{Facts, moves, parse}
use Rattle.grammar_theory.specs.Claims.{Keeps, Alike}
use Rattle.grammar_theory.proofs.States.{at}
use Rattle.grammar_theory.proofs.Passed.{option_cases, get_elem_mem}

module _ {g : Grammar} {A B : Type 0} {R : Symbols → A → B → Type 0} {does : Step → A → A} {does' : Step → B → B} (kept : Keeps g R does does') (t : Table) where
  -- The stack where the certain steps ended is another one.
  pub run_alike : (n : ℕ) (ss settled : Symbols) (left : Kinds) (e : Bool) (now certain : A) (now' certain' : B) → R ss now now' → R settled certain certain' →
      Alike R (run does g t n (at ss left now certain e)) (run does' g t n (at ss left now' certain' e))
  unfolding run move moved expand_by Alike after_read after_perform after_expand
  run_alike zero ss settled left e now certain now' certain' q q' = tt
  run_alike (suc n) [] settled left e now certain now' certain' q q' = go (eqb (next left) 0)
    where
      go : (b : Bool) →
          Alike R (moved does (run does g t n) (at [] left now certain e) (cond b finish refuse))
          (moved does' (run does' g t n) (at [] left now' certain' e) (cond b finish refuse))
      go true = q
      go false = (refl, (settled, q'))
  run_alike (suc n) (token j ∷ ss) settled left e now certain now' certain' q q' =
      let s : State A = at (token j ∷ ss) left now certain e in
      let s' : State B = at (token j ∷ ss) left now' certain' e in
      let Goal : Bool → Type 0 = λ b. Alike R (moved does (run does g t n) s (cond b read refuse)) (moved does' (run does' g t n) s' (cond b read refuse)) in
      let k : ℕ = next left in
      ⊎_elim
      (λ h.
      let next_kept = kept.keeps_shift k ss now now' (subst (λ (x : ℕ). R (token x ∷ ss) now now') (eqb-true j k h) q) in
      subst Goal (sym h)
      (run_alike n ss ss (tail left) true (does (shift k) now) (does (shift k) now) (does' (shift k) now') (does' (shift k) now') next_kept next_kept))
      (λ h. subst Goal (sym h) (refl, (settled, q')))
      (bool_cases (eqb j k))
  run_alike (suc n) (rule r ∷ ss) settled left e now certain now' certain' q q' =
      let s : State A = at (rule r ∷ ss) left now certain e in
      let s' : State B = at (rule r ∷ ss) left now' certain' e in
      let Goal : Option Symbols → Type 0 = λ o. Alike R (moved does (run does g t n) s (expand_by o)) (moved does' (run does' g t n) s' (expand_by o)) in
      ⊎_elim
      (λ h. subst Goal (sym h) (refl, (settled, q')))
      (λ h.
      let expand_kept = kept.keeps_expand r h.0 ss now now' (get_elem_mem (alternatives g r) _ h.1) q in
      subst Goal (sym h.1) (run_alike n (h.0 ++ ss) settled left false now certain now' certain' expand_kept q'))
      (option_cases (get_elem? (alternatives g r) (predicted t r (next left))))
  run_alike (suc n) (action x ∷ ss) settled left true now certain now' certain' q q' =
      let next_kept = kept.keeps_act x ss now now' q in
      run_alike n ss ss left true (does (act x) now) (does (act x) now) (does' (act x) now') (does' (act x) now') next_kept next_kept
  run_alike (suc n) (action x ∷ ss) settled left false now certain now' certain' q q' =
      run_alike n ss settled left false (does (act x) now) certain (does' (act x) now') certain' (kept.keeps_act x ss now now' q) q'

  pub parse_alike : (c : Facts) (r : ℕ) (ks : Kinds) (a : A) (b : B) → R (rule r ∷ []) a b → Alike R (parse does g t c r ks a) (parse does' g t c r ks b)
  unfolding parse start
  parse_alike c r ks a b q = run_alike (moves c r (length ks)) (rule r ∷ []) (rule r ∷ []) ks true a a b b q q

-- a relation that does not look at the stack, and is kept by every step
module _ {A B : Type 0} (R : A → B → Type 0) (does : Step → A → A) (does' : Step → B → B) (kept : (s : Step) (a : A) (b : B) → R a b → R (does s a) (does' s b)) where
  pub steps_keep : (g : Grammar) → Keeps g (λ ss. R) does does'
  steps_keep g =
      record {
        keeps_shift = λ k ss a b q. kept (shift k) a b q;
        keeps_act = λ x ss a b q. kept (act x) a b q;
        keeps_expand = λ r alternative ss a b m q. q;
      }

  pub after_alike : (steps : Steps) (a : A) (b : B) → R a b → R (after does steps a) (after does' steps b)
  unfolding after
  after_alike [] a b q = q
  after_alike (s ∷ steps) a b q = after_alike steps (does s a) (does' s b) (kept s a b q)

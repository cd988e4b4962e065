-- A state of the machine by its parts; what each move makes of it.
use Prim.Native.Nat.{ℕ, suc}
use mathlib.Core.Path.{◌≡◌, refl, ap}
use mathlib.Core.Bool.{Bool, true, false, cond}
use mathlib.Core.List.{[], ◌∷◌, ◌++◌}
use mathlib.Core.Option.{Option, none, some}
use lib.Dec.{eqb}
use lib.ListN.{get_elem?}
use Rattle.theory.proofs.Basics.Compare.{eqb_intro}
use Rattle.grammar_theory.specs.Grammar.{token, rule, action, Symbols, Kinds, Grammar, alternatives, Step, shift, act}
use Rattle.grammar_theory.specs.Machine.{Table, predicted, next, finish, read, refuse, expand_by, move, State, accepted, stuck, after_read, after_perform, after_expand, moved, run}

abbrev pub at : {B : Type 0} → Symbols → Kinds → B → B → Bool → State B
at ss left now certain e = record { stack = ss; left = left; now = now; certain = certain; eager = e }

module _ {B : Type 0} (does : Step → B → B) (g : Grammar) (t : Table) (n : ℕ) where
  pub run-finish : (now certain : B) (e : Bool) → run does g t (suc n) (at [] [] now certain e) ≡ accepted now
  unfolding run move moved next
  run-finish now certain e = refl

  pub run_behind : (left : Kinds) (now certain : B) (e : Bool) → eqb (next left) 0 ≡ false → run does g t (suc n) (at [] left now certain e) ≡ stuck left certain
  unfolding run move moved
  run_behind left now certain e q = ap (λ (b : Bool). moved does (run does g t n) (at [] left now certain e) (cond b finish refuse)) q

  pub run-read : (k : ℕ) (ss : Symbols) (left : Kinds) (now certain : B) (e : Bool) →
      run does g t (suc n) (at (token k ∷ ss) (k ∷ left) now certain e) ≡ run does g t n (at ss left (does (shift k) now) (does (shift k) now) true)
  unfolding run move moved after_read next
  run-read k ss left now certain e = rw (eqb_intro {m = k} {n = k} refl) refl

  pub run_other : (j : ℕ) (ss : Symbols) (left : Kinds) (now certain : B) (e : Bool) → eqb j (next left) ≡ false →
      run does g t (suc n) (at (token j ∷ ss) left now certain e) ≡ stuck left certain
  unfolding run move moved
  run_other j ss left now certain e q = ap (λ (b : Bool). moved does (run does g t n) (at (token j ∷ ss) left now certain e) (cond b read refuse)) q

  pub run_perform : (a : ℕ) (ss : Symbols) (left : Kinds) (now certain : B) (e : Bool) →
      run does g t (suc n) (at (action a ∷ ss) left now certain e) ≡ run does g t n (at ss left (does (act a) now) (cond e (does (act a) now) certain) e)
  unfolding run move moved after_perform
  run_perform a ss left now certain e = refl

  pub run_expand : (r : ℕ) (alternative ss : Symbols) (left : Kinds) (now certain : B) (e : Bool) →
      get_elem? (alternatives g r) (predicted t r (next left)) ≡ some alternative →
      run does g t (suc n) (at (rule r ∷ ss) left now certain e) ≡ run does g t n (at (alternative ++ ss) left now certain false)
  unfolding run move moved after_expand expand_by
  run_expand r alternative ss left now certain e q =
      ap (λ (o : Option Symbols). moved does (run does g t n) (at (rule r ∷ ss) left now certain e) (expand_by o)) q

  pub run_none : (r : ℕ) (ss : Symbols) (left : Kinds) (now certain : B) (e : Bool) → get_elem? (alternatives g r) (predicted t r (next left)) ≡ none →
      run does g t (suc n) (at (rule r ∷ ss) left now certain e) ≡ stuck left certain
  unfolding run move moved expand_by
  run_none r ss left now certain e q =
      ap (λ (o : Option Symbols). moved does (run does g t n) (at (rule r ∷ ss) left now certain e) (expand_by o)) q

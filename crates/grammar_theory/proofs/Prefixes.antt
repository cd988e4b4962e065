-- The machine's moves up to a token, whatever comes behind it; more moves than are enough.
use Prim.Native.Nat.{ℕ, zero, suc, ◌+◌}
use native.Mathlib.Omega.{arith}
use mathlib.Core.Path.{◌≡◌, refl, sym, ap, ◌∙◌, subst}
use mathlib.Core.Bool.{Bool, true, false, cond, false≢true}
use mathlib.Core.List.{[], ◌∷◌, ◌++◌, cons-ne-nil, head-eq_of_cons-eq, tail-eq_of_cons-eq}
use mathlib.Core.Option.{some}
use lib.ListN.{get_elem?}
use Rattle.grammar_theory.specs.Grammar.{token, rule, action, Symbols, Kinds, Grammar, alternatives, Step, shift, act, Steps, Derives, empty, reading, acting, expanding}
use Rattle.grammar_theory.specs.Machine.{Table, predicted, next, Move, finish, read, perform, expand, refuse, move, State, after_read, after_perform, after_expand, moved, run}
use Rattle.grammar_theory.specs.LL1.{Facts}
use Rattle.grammar_theory.proofs.States.{at, run-read, run_perform, run_expand}
use Rattle.grammar_theory.specs.Claims.{ended, leaving}
use Rattle.grammar_theory.proofs.Passed.{mem_get_elem, Passed}
use Rattle.grammar_theory.proofs.Prediction.{Fitting, fitting_token, fitting_action, fitting_expand, derives_predicted}

module _ {B : Type 0} (does : Step → B → B) (g : Grammar) (t : Table) where
  -- from a state with these kinds to be read, some moves lead to another one, whatever comes behind them
  pub record Leads (ss : Symbols) (read : Kinds) (now certain : B) (e : Bool) : Type 0 where
    pub moves : ℕ
    pub state : State B
    pub same : (rest : Kinds) (m : ℕ) → run does g t (moves + m) (at ss (read ++ rest) now certain e) ≡ run does g t m (leaving rest state)

  leads_here : (ss : Symbols) (now certain : B) (e : Bool) → Leads ss [] now certain e
  unfolding leaving
  leads_here ss now certain e =
      record {
        moves = 0;
        state = at ss [] now certain e;
        same = λ rest m. let z : 0 + m ≡ m = omega arith in ap (λ (x : ℕ). run does g t x (at ss rest now certain e)) z;
      }

  -- one move and then what it leads to
  leads_move : (ss ss' : Symbols) (read read' : Kinds) (now certain now' certain' : B) (e e' : Bool) →
      ((rest : Kinds) (n : ℕ) → run does g t (suc n) (at ss (read ++ rest) now certain e) ≡ run does g t n (at ss' (read' ++ rest) now' certain' e')) →
      Leads ss' read' now' certain' e' → Leads ss read now certain e
  leads_move ss ss' front front' now certain now' certain' e e' one l =
      record {
        moves = suc l.moves;
        state = l.state;
        same = λ rest m.
            let z : suc l.moves + m ≡ suc (l.moves + m) = omega arith in
            ap (λ (x : ℕ). run does g t x (at ss (front ++ rest) now certain e)) z ∙ one rest (l.moves + m) ∙ l.same rest m;
      }

  module _ {c : Facts} {start : ℕ} (p : Passed g t c start) where
    pub derives_leads : {ss : Symbols} {ks : Kinds} {steps : Steps} → Derives g ss ks steps → Fitting g t c ss →
        (front rest₀ : Kinds) (now certain : B) (e : Bool) → ks ≡ front ++ rest₀ → Leads ss front now certain e
    unfolding next
    derives_leads {ss} d f [] rest₀ now certain e q = leads_here ss now certain e
    derives_leads empty f (k ∷ front) rest₀ now certain e q = absurd (cons-ne-nil k (front ++ rest₀) (sym q))
    derives_leads (reading {ss = ss} d) f (k ∷ front) rest₀ now certain e q =
        let b : B = does (shift k) now in
        let on = derives_leads d (fitting_token f).2 front rest₀ b b true (tail-eq_of_cons-eq q) in
        subst (λ (x : ℕ). Leads (token x ∷ ss) (k ∷ front) now certain e) (sym (head-eq_of_cons-eq q))
        (leads_move (token k ∷ ss) ss (k ∷ front) front now certain b b e true (λ rest n. run-read does g t n k ss (front ++ rest) now certain e) on)
    derives_leads (acting {a = a} {ss = ss} d) f (k ∷ front) rest₀ now certain e q =
        let b : B = does (act a) now in
        let on = derives_leads d (fitting_action f) (k ∷ front) rest₀ b (cond e b certain) e q in
        leads_move (action a ∷ ss) ss (k ∷ front) (k ∷ front) now certain b (cond e b certain) e e
        (λ rest n. run_perform does g t n a ss (k ∷ front ++ rest) now certain e) on
    derives_leads (expanding {r = r} {ss = ss} alternative m d) f (k ∷ front) rest₀ now certain e q =
        let i = mem_get_elem m in
        let at_next = ap next q in
        let taken : get_elem? (alternatives g r) (predicted t r k) ≡ some alternative =
        ap (λ (x : ℕ). get_elem? (alternatives g r) (predicted t r x)) (sym at_next) ∙ ap (get_elem? (alternatives g r)) (derives_predicted p r i.0 alternative ss i.1 d f) ∙ i.1 in
        let on = derives_leads d (fitting_expand p r alternative ss m f) (k ∷ front) rest₀ now certain false q in
        leads_move (rule r ∷ ss) (alternative ++ ss) (k ∷ front) (k ∷ front) now certain now certain e false
        (λ rest n. run_expand does g t n r alternative ss (k ∷ (front ++ rest)) now certain e taken) on

  -- more moves change nothing
  pub run_more : (n m : ℕ) (s : State B) → ended (run does g t n s) ≡ true → run does g t (n + m) s ≡ run does g t n s
  unfolding run moved ended
  run_more zero m s h = absurd (false≢true h)
  run_more (suc n) m s h =
      let z : suc n + m ≡ suc (n + m) = omega arith in
      ap (λ (x : ℕ). run does g t x s) z ∙ go (move g t s.stack (next s.left)) (λ s' h'. run_more n m s' h') h
    where
      go : (v : Move) → ((s' : State B) → ended (run does g t n s') ≡ true → run does g t (n + m) s' ≡ run does g t n s') →
          ended (moved does (run does g t n) s v) ≡ true → moved does (run does g t (n + m)) s v ≡ moved does (run does g t n) s v
      go finish ih h = refl
      go read ih h = ih (after_read does s) h
      go (perform a) ih h = ih (after_perform does a s) h
      go (expand ss) ih h = ih (after_expand ss s) h
      go refuse ih h = refl

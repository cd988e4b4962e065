-- What a derivation is at each symbol; derivations one behind the other.
use Prim.Native.Nat.{ℕ}
use mathlib.Core.Path.{◌≡◌, refl, subst}
use mathlib.Core.List.{[], ◌∷◌, ◌++◌, append_assoc, Memᴰ}
use Rattle.grammar_theory.specs.Grammar.{token, rule, action, Symbols, Kinds, Grammar, alternatives, shift, act, Steps, Derives, empty, reading, acting, expanding}

-- what it is to derive kinds by steps, by the first symbol
unfoldable pub Parts : Grammar → Symbols → Kinds → Steps → Type 0
Parts g [] ks steps = (ks ≡ []) × (steps ≡ [])
Parts g (token k ∷ ss) ks steps = (ks' : Kinds) × (steps' : Steps) × (ks ≡ k ∷ ks') × (steps ≡ shift k ∷ steps') × Derives g ss ks' steps'
Parts g (rule r ∷ ss) ks steps = (alternative : Symbols) × Memᴰ alternative (alternatives g r) × Derives g (alternative ++ ss) ks steps
Parts g (action a ∷ ss) ks steps = (steps' : Steps) × (steps ≡ act a ∷ steps') × Derives g ss ks steps'

pub derives_parts : {g : Grammar} {ss : Symbols} {ks : Kinds} {steps : Steps} → Derives g ss ks steps → Parts g ss ks steps
unfolding Parts
derives_parts empty = (refl, refl)
derives_parts (reading {ks = ks} {steps = steps} d) = (ks, steps, refl, refl, d)
derives_parts (acting {steps = steps} d) = (steps, refl, d)
derives_parts (expanding alternative m d) = (alternative, m, d)

module _ {g : Grammar} where
  pub derives_nil : {ks : Kinds} {steps : Steps} → Derives g [] ks steps → (ks ≡ []) × (steps ≡ [])
  unfolding Parts
  derives_nil d = derives_parts d

  pub derives_token : {k : ℕ} {ss : Symbols} {ks : Kinds} {steps : Steps} → Derives g (token k ∷ ss) ks steps →
      (ks' : Kinds) × (steps' : Steps) × (ks ≡ k ∷ ks') × (steps ≡ shift k ∷ steps') × Derives g ss ks' steps'
  unfolding Parts
  derives_token d = derives_parts d

  pub derives_action : {a : ℕ} {ss : Symbols} {ks : Kinds} {steps : Steps} → Derives g (action a ∷ ss) ks steps →
      (steps' : Steps) × (steps ≡ act a ∷ steps') × Derives g ss ks steps'
  unfolding Parts
  derives_action d = derives_parts d

  pub derives_rule : {r : ℕ} {ss : Symbols} {ks : Kinds} {steps : Steps} → Derives g (rule r ∷ ss) ks steps →
      (alternative : Symbols) × Memᴰ alternative (alternatives g r) × Derives g (alternative ++ ss) ks steps
  unfolding Parts
  derives_rule d = derives_parts d

  pub derives_append : {ss ss' : Symbols} {ks ks' : Kinds} {steps steps' : Steps} →
      Derives g ss ks steps → Derives g ss' ks' steps' → Derives g (ss ++ ss') (ks ++ ks') (steps ++ steps')
  derives_append empty e = e
  derives_append (reading d) e = reading (derives_append d e)
  derives_append (acting d) e = acting (derives_append d e)
  derives_append {ss'} {ks'} {steps'} (expanding {ss = ss} {ks = ks} {steps = steps} alternative m d) e =
      expanding alternative m (subst (λ (x : Symbols). Derives g x (ks ++ ks') (steps ++ steps')) (append_assoc alternative ss ss') (derives_append d e))

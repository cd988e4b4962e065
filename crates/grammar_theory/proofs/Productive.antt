-- From every known symbol of a grammar that passes the test something is derived.
use Prim.Native.Nat.{ℕ, zero, suc, ◌<◌}
use native.Mathlib.Omega.{arith}
use mathlib.Core.Path.{◌≡◌, sym, subst}
use mathlib.Core.Bool.{true}
use mathlib.Core.List.{[], ◌∷◌, ◌++◌, append-nil}
use Rattle.theory.proofs.Basics.Search.{and_left, and_right, any-true}
use Rattle.theory.proofs.Basics.Compare.{ltb-true}
use Rattle.grammar_theory.specs.Grammar.{token, rule, action, Symbols, Kinds, Grammar, alternatives, shift, act, Steps, Derives, empty, reading, acting, expanding}
use Rattle.grammar_theory.specs.Machine.{Table}
use Rattle.grammar_theory.specs.LL1.{Facts, height, lower, known}
use Rattle.grammar_theory.proofs.Derivations.{derives_append}
use Rattle.grammar_theory.proofs.Passed.{Passed}
use lib.ListN.{length}

-- something is derived from these symbols
abbrev pub Derivable : Grammar → Symbols → Type 0
Derivable g ss = (ks : Kinds) × (steps : Steps) × Derives g ss ks steps

-- each rule among these symbols has a property
unfoldable Rules : (ℕ → Type 0) → Symbols → Type 0
Rules P [] = Unit
Rules P (token j ∷ ss) = Rules P ss
Rules P (rule r ∷ ss) = P r × Rules P ss
Rules P (action a ∷ ss) = Rules P ss

module _ {g : Grammar} where
  rules_derivable : (ss : Symbols) → Rules (λ r. Derivable g (rule r ∷ [])) ss → Derivable g ss
  unfolding Rules
  rules_derivable [] h = ([], [], empty)
  rules_derivable (token j ∷ ss) h = let d = rules_derivable ss h in (j ∷ d.0, shift j ∷ d.1, reading d.2)
  rules_derivable (rule r ∷ ss) h =
      let d = h.0 in
      let e = rules_derivable ss h.1 in
      (d.0 ++ e.0, d.1 ++ e.1, derives_append d.2 e.2)
  rules_derivable (action a ∷ ss) h = let d = rules_derivable ss h in (d.0, act a ∷ d.1, acting d.2)

module _ (g : Grammar) (t : Table) (c : Facts) where
  rules-lower : (P : ℕ → Type 0) (h : ℕ) → ((r : ℕ) → r < length g → height c r < h → P r) →
      (ss : Symbols) → known g t c ss ≡ true → lower c h ss ≡ true → Rules P ss
  unfolding Rules known lower
  rules-lower P h f [] k l = tt
  rules-lower P h f (token j ∷ ss) k l = rules-lower P h f ss (and_right _ _ k) l
  rules-lower P h f (rule r ∷ ss) k l =
      (f r (ltb-true _ _ (and_left _ _ (and_left _ _ k))) (ltb-true _ _ (and_left _ _ l)), rules-lower P h f ss (and_right _ _ k) (and_right _ _ l))
  rules-lower P h f (action a ∷ ss) k l = rules-lower P h f ss k l

  rules-known : (P : ℕ → Type 0) → ((r : ℕ) → r < length g → P r) → (ss : Symbols) → known g t c ss ≡ true → Rules P ss
  unfolding Rules known
  rules-known P f [] k = tt
  rules-known P f (token j ∷ ss) k = rules-known P f ss (and_right _ _ k)
  rules-known P f (rule r ∷ ss) k = (f r (ltb-true _ _ (and_left _ _ (and_left _ _ k))), rules-known P f ss (and_right _ _ k))
  rules-known P f (action a ∷ ss) k = rules-known P f ss k

module _ {g : Grammar} {t : Table} {c : Facts} {start : ℕ} (p : Passed g t c start) where
  rule_derivable : (h r : ℕ) → r < length g → height c r < h → Derivable g (rule r ∷ [])
  rule_derivable zero r l low = absurd (omega arith)
  rule_derivable (suc h) r l low =
      let found = any-true (lower c (height c r)) (alternatives g r) (p.productive r l) in
      let alternative : Symbols = found.0 in
      let known_all = (p.rule_fits r alternative found.1).are_known in
      let rules = rules-lower g t c (λ s. Derivable g (rule s ∷ [])) (height c r) (λ s l' low'. rule_derivable h s l' (omega (arith, low, low'))) alternative known_all found.2 in
      let d = rules_derivable alternative rules in
      (d.0, d.1, expanding alternative found.1 (subst (λ (x : Symbols). Derives g x d.0 d.1) (sym (append-nil alternative)) d.2))

  pub known_derivable : (ss : Symbols) → known g t c ss ≡ true → Derivable g ss
  known_derivable ss k =
      rules_derivable ss (rules-known g t c (λ r. Derivable g (rule r ∷ [])) (λ r l. rule_derivable (suc (height c r)) r l (omega arith)) ss k)

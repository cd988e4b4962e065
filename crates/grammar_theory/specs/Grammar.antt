-- Context-free grammars whose alternatives hold actions (syntax-directed translation), and what they derive.
use Rattle.std.specs.Prelude.{ℕ, ◌-◌, cond, ltb, get_or}
use mathlib.Core.List.{List, [], ◌∷◌, ◌++◌, map, Memᴰ}

-- A token of a kind is read; a rule is expanded; an action reads nothing and is done where it stands. Kind 0 is the end of the text: no token has it.
pub data Symbol : Type 0 where
  token : ℕ → Symbol
  rule : ℕ → Symbol
  action : ℕ → Symbol

abbrev pub Symbols : Type 0
Symbols = List Symbol

abbrev pub Kinds : Type 0
Kinds = List ℕ

-- the alternatives of each rule, the rules numbered from 0
abbrev pub Grammar : Type 0
Grammar = List (List Symbols)

-- a rule that there is not has no alternative
unfoldable pub alternatives : Grammar → ℕ → List Symbols
alternatives g r = get_or g r []

-- what is done in reading: a token of a kind is read, or an action is done
pub data Step : Type 0 where
  shift : ℕ → Step
  act : ℕ → Step

abbrev pub Steps : Type 0
Steps = List Step

-- `Derives g symbols kinds steps`: tokens of these kinds are derived from these symbols by these steps, in order (leftmost derivations).
pub data Derives (g : Grammar) : Symbols → Kinds → Steps → Type 0 where
  empty : Derives g [] [] []
  reading : {k : ℕ} {ss : Symbols} {ks : Kinds} {steps : Steps} → Derives g ss ks steps → Derives g (token k ∷ ss) (k ∷ ks) (shift k ∷ steps)
  acting : {a : ℕ} {ss : Symbols} {ks : Kinds} {steps : Steps} → Derives g ss ks steps → Derives g (action a ∷ ss) ks (act a ∷ steps)
  expanding : {r : ℕ} {ss : Symbols} {ks : Kinds} {steps : Steps} (alternative : Symbols) → Memᴰ alternative (alternatives g r) →
      Derives g (alternative ++ ss) ks steps → Derives g (rule r ∷ ss) ks steps

-- tokens of these kinds are a text, read by these steps; they begin a text
abbrev pub Text : Grammar → ℕ → Kinds → Steps → Type 0
Text g r ks steps = Derives g (rule r ∷ []) ks steps

abbrev pub Begins : Grammar → ℕ → Kinds → Type 0
Begins g r ks = (rest : Kinds) × (steps : Steps) × Text g r (ks ++ rest) steps

-- A symbol as a number: below 64 a token's kind, then a rule, from 128 on an action.
unfoldable pub symbol_of : ℕ → Symbol
symbol_of n = cond (ltb n 64) (token n) (cond (ltb n 128) (rule (n - 64)) (action (n - 128)))

unfoldable pub grammar_of : List (List (List ℕ)) → Grammar
grammar_of rules = map (map (map symbol_of)) rules

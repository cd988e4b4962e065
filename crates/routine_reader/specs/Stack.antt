-- A stack of numbers in an array, and the symbols that it holds.
use Rattle.std.specs.Prelude.{ℕ, zero, suc, cond, List, [], ◌∷◌, map, get_or, ltb}
use Rattle.grammar_theory.specs.Grammar.{Symbols, symbol_of}

-- the first `height` numbers of the array, the top, which is the last of them, first
unfoldable pub stack_of : List ℕ → ℕ → List ℕ
stack_of array zero = []
stack_of array (suc height) = get_or array height 0 ∷ stack_of array height

-- these numbers, up to the first below 2, which is no symbol of an alternative, are pushed one after the other
unfoldable pub pushed : List ℕ → List ℕ → List ℕ
pushed [] stack = stack
pushed (c ∷ cs) stack = cond (ltb c 2) stack (pushed cs (c ∷ stack))

unfoldable pub symbols_of : List ℕ → Symbols
symbols_of codes = map symbol_of codes

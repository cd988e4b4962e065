use Rattle.std.proofs.Common.{ℕ, ◌≡◌, ◌+◌, length, drop}
use Rattle.std.specs.Prelude.{replicate}
use Rattle.formula.specs.Grammar.{Formula}
use Rattle.formula.specs.Expansion.{expand}
use Rattle.formula.specs.Call.{first_of}
use Rattle.formula_call.specs.FormulaPromise.{formula_input, Formulas}
use mathlib.Core.List.{List}
use Rattle.formula_call.proofs.decide_first.Given as goal

-- those before k are not satisfiable
abbrev pub invariant-loop-k : goal.invariant-loop-k
invariant-loop-k l =
    (l.report ≡ replicate (length l.initial.report) 0)
    × ((f : Formula) (text : List ℕ) → Formulas l.nodes l.root l.count f
    → first_of (formula_input l.order l.query text l.initial.report) 1 (expand f)
    ≡ first_of (formula_input l.order l.query text l.initial.report) (l.k + 1) (drop l.k (expand f)))

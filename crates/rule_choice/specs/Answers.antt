-- The triple that the code finds as the definitions', and what a rule finds in what is read by a link.
use Rattle.std.specs.Prelude.{ℕ, Option as CodeOption}
use Rattle.std.proofs.Math.Option.{Option}
use Rattle.rows.specs.Bits.{bit}
use Rattle.rows.specs.Options.{option_of}
use Rattle.rows.specs.declared.Term.{Term}
use Rattle.rules.specs.declared.Third.{Third}
use Rattle.rules.specs.declared.View.{View}
use Rattle.facts.specs.Path.{graph_of}
use Rattle.logic.specs.Rules.{Triple, triple, Move}
use Rattle.rule_choice.specs.Smallest.{tried_at}

abbrev pub place_of : CodeOption (Term × Term × Third) → Option Triple
place_of = option_of (λ t. triple t.0.0 t.1.0 t.2.0)

-- the rule that has number k, by link i whose rows are read
abbrev pub tried_in : ℕ → View → ℕ → Option Move
tried_in i v k = tried_at i v.n (bit v.alive) (graph_of v.link v.reach) k

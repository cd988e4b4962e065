-- The code's answers as the definitions' options.
use Rattle.std.specs.Prelude.{ℕ, Option as CodeOption}
use Rattle.std.proofs.Math.Option.{Option}
use Rattle.logic.specs.Facts.{Line, line}
use Rattle.rows.specs.Options.{option_of}
use Rattle.clash.specs.declared.Clash.{Clash}

abbrev pub place_of : CodeOption ℕ → Option ℕ
place_of = option_of (λ i. i)

-- "A clash line is 9, section, place of the negated literal", and the place of its partner
abbrev pub line_of : CodeOption Clash → Option Line
line_of = option_of (λ c. line 9 c.section c.place c.partner)

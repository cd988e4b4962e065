-- The two forms of query bytes as one, by the number of links: with one link that of 01, else that of three links (02, R-11).
use Rattle.std.specs.Prelude.{ℕ, cond, [], ◌∷◌, eqb}
use Rattle.logic.specs.Query.{Section, Form}
use Rattle.entries.specs.declared.Kind.{Kind}
use Rattle.entries.specs.declared.Kind.TheVariants as kind
use Rattle.entries.specs.Entries.{width_of, roles_at}

-- the kind of the entries of section 1, and of section 3
unfoldable pub entry_kind : ℕ → Kind
entry_kind links = cond (eqb links 1) kind.Terms kind.LinkedTerms

unfoldable pub reach_kind : ℕ → Kind
reach_kind links = cond (eqb links 1) kind.Pairs kind.LinkedPairs

-- a section, by its kind
abbrev pub section_of : Kind → ℕ → ℕ → ℕ → Section
section_of kind n limit excess = record { limit = limit; excess = excess; width = width_of kind; roles = roles_at kind n }

-- the five sections, where so many booleans pass and more meet this refusal
unfoldable pub form_by : ℕ → ℕ → ℕ → Form
form_by links most excess n =
    section_of (entry_kind links) n 16 3
    ∷ section_of kind.Pairs n 60 3
    ∷ section_of (reach_kind links) n 60 3
    ∷ section_of kind.Fields n 60 3
    ∷ section_of kind.Booleans n most excess
    ∷ []

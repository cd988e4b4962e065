-- What the searches at a path find, as what is seen.
use Prim.Native.Nat.{ℕ}
use mathlib.Core.Path.{◌≡◌, subst}
use Rattle.std.specs.Prelude.{Option}
use Rattle.logic.specs.Query.{Query, term_count}
use Rattle.logic.specs.Facts.{Facts}
use Rattle.rules.specs.declared.Move.{Move}
use Rattle.picking.specs.Picks.{Picks}

-- what is picked of the terms counted is picked of the query's
pub picks_of : (q : Query) (s : Facts) (n : ℕ) → n ≡ term_count q → (p : Option Move) → Picks n s p → Picks (term_count q) s p
picks_of q s n terms_are p picks = subst (λ (m : ℕ). Picks m s p) terms_are picks

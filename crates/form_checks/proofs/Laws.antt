-- The laws of either form, and the links of a query that is read.
use Prim.Native.Nat.{ℕ, ◌≤◌}
use native.Mathlib.Omega.{arith}
use mathlib.Core.Path.{◌≡◌, refl}
use mathlib.Core.Logic.{⊎_elim}
use mathlib.Core.Bool.{Bool, true, false}
use mathlib.Core.List.{List}
use Rattle.theory.proofs.Calls.CallLaws.{FormLaws}
use Rattle.theory.proofs.Calls.Refusals.{one_link_laws}
use Rattle.theory.proofs.Calls.ThreeLinks.{three_link_laws}
use Rattle.query.specs.declared.Layout.{Layout}
use Rattle.link_query.specs.Said.{said, Within}
use Rattle.call_limits.specs.Forms.{form_of}

pub laws_of : (three : Bool) → FormLaws (form_of three)
laws_of true = three_link_laws
laws_of false = one_link_laws

-- a query of these sections has so many links, one or three
pub said-links : (l : Layout) (bytes : List ℕ) → l.links ≡ (said l bytes).links
unfolding said
said-links l bytes = refl

pub layout_links : (l : Layout) (bytes : List ℕ) → Within l bytes → l.links ≤ 3
layout_links l bytes w = ⊎_elim (λ e. omega (arith, e)) (λ e. omega (arith, e)) w.one_or_three

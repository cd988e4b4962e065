use Rattle.std.proofs.Common.{◌≡◌, ◌+◌, ◌-◌, [], ◌∷◌, drop}
use Rattle.logic.specs.Query.{sign_role, term_role, role_fault}
use Rattle.refusals.specs.Numbers.{number_of}
use Rattle.between_checks.proofs.Merged.{terms_left}
use Rattle.between_checks.proofs.triple_fault.Given as goal

abbrev pub invariant-loop-place : goal.invariant-loop-place
invariant-loop-place l =
    role_fault (number_of l.fault) l.at (sign_role ∷ term_role l.n ∷ term_role l.n ∷ term_role l.n ∷ []) (drop l.at l.query)
    ≡ role_fault (number_of l.fault) l.place (terms_left l.n (l.at + 4 - l.place)) (drop l.place l.query)

-- What the code's steps come to, by the cases of its enums.
use Prim.Native.Nat.{ℕ, ◌≤◌}
use native.Mathlib.Omega.{arith}
use mathlib.Core.Path.{◌≡◌, refl, ap, ◌∙◌}
use mathlib.Core.List.{List}
use mathlib.Core.Bool.{Bool}
use mathlib.Core.Option.{get_or}
use Rattle.logic.specs.Heap.{iterate}
use Rattle.logic.specs.Search.{find}
use Rattle.logic.specs.Facts.{Graph, terms}
use Rattle.logic.specs.Rules.{Rule, REFLEX, TRANS1, TRANS2, FUNC, CYCLE, SCC, TOTAL, SHARE, equal, next}
use Rattle.rows.specs.Square.{square}
use Rattle.link_rows.specs.Cube.{cube}
use Rattle.facts.specs.declared.Facts as code
use Rattle.facts.specs.Path.{links_in, links_by, path_of, HasLink}
use Rattle.facts.proofs.Path.{link_at}
use Rattle.link_steps.specs.Cycle.{steps_to}
use Rattle.link_steps.proofs.Around.{steps_never, iterate-le}
use Rattle.alternatives.specs.Alternatives.{alternative_at}

-- the term that all i links lead to: 17 is met on no way
pub followed : (n : ℕ) (g : Graph) (c i s t : ℕ) → n ≤ 16 → c ≤ 16 → s ≡ steps_to n g 17 i c → t ≡ iterate (next n g) s c → (t ≡ iterate (next n g) i c) × (t ≤ 16)
followed n g c i s t h l e f = (f ∙ ap (λ (k : ℕ). iterate (next n g) k c) (e ∙ steps_never n g 17 (omega arith) i c (omega arith)), rw f (iterate-le n g s c 16 h l))

-- alternatives read the links alone
pub alternative_links : (k n : ℕ) (f g : Graph) → f.link ≡ g.link → (r : Rule) (x y z i : ℕ) → alternative_at k n f r x y z i ≡ alternative_at k n g r x y z i
unfolding next
alternative_links k n f g e REFLEX x y z i = refl
alternative_links k n f g e TRANS1 x y z i = refl
alternative_links k n f g e TRANS2 x y z i = refl
alternative_links k n f g e FUNC x y z i = refl
alternative_links k n f g e CYCLE x y z i = ap (λ (l : ℕ → ℕ → Bool). equal y (iterate (λ c. get_or (find (l c) (terms n)) 0) i x)) e
alternative_links k n f g e SCC x y z i = refl
alternative_links k n f g e TOTAL x y z i = refl
alternative_links k n f g e SHARE x y z i = refl

-- of rows copied out, and of a path that has them
pub alternative_own : (k n : ℕ) (link own : List ℕ) → square own ≡ cube link k → (r : Rule) (x y z i : ℕ) → alternative_at k n (links_in own) r x y z i ≡ alternative_at k n (links_by link k) r x y z i
unfolding links_in links_by
alternative_own k n link own e = alternative_links k n (links_in own) (links_by link k) e

pub alternative_record : (k n : ℕ) (s : code.Facts) → HasLink (path_of s) k → (r : Rule) (x y z i : ℕ) →
    alternative_at k n (links_by s.link k) r x y z i ≡ alternative_at k n ((path_of s).graph k) r x y z i
unfolding links_by
alternative_record k n s h = alternative_links k n (links_by s.link k) ((path_of s).graph k) (link_at s k h)

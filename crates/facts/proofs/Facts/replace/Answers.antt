-- A replacement in the rows of each link.
use Rattle.std.proofs.Common.{ℕ, ◌≤◌, sym, subst}
use Rattle.facts.specs.Path.{path_of}
use Rattle.facts.proofs.Path.{replace_rows}
use Rattle.facts.proofs.Facts.replace.Goals as goal

pub returns : goal.returns
unfolding path_of
returns c =
    let few = c.links-count.ensures.0 in
    replace_rows _ _ _ _ _ _ _ _ _ c.replace_rep.ensures.0
    (λ j h. c.replace.ensures.0 j (subst (λ (n : ℕ). j ≤ n) (sym few) h))
    (λ j h. c.replace-2.ensures.0 j (subst (λ (n : ℕ). j ≤ n) (sym few) h))

-- What is asked of a move that is probed.
use Rattle.std.proofs.Common.{◌≡◌, ◌≤◌, sym, subst}
use Rattle.logic.specs.Facts.{Facts}
use Rattle.facts.specs.Path.{HasLink}
use Rattle.link_rows.specs.declared.Link.{Link}
use Rattle.rows.specs.declared.Term.{Term}
use Rattle.rules.specs.Answers.{TripleInRange}
use Rattle.rules.specs.declared.Rule.{Rule}
use Rattle.rules.specs.declared.Third.{Third}
use Rattle.rules.specs.declared.Move.{Move}

-- a move made of a link of the path and of numbers in range
pub asked : (s : Facts) (m : Move) (k : Link) (r : Rule) (x y : Term) (z : Third) → m ≡ record { link = k; rule = r; x = x; y = y; z = z } →
    HasLink s k.0 → x.0 ≤ 16 → y.0 ≤ 16 → z.0 ≤ 16 → HasLink s m.link.0 × TripleInRange m
asked s m k r x y z e h a b c = subst (λ (m : Move). HasLink s m.link.0 × TripleInRange m) (sym e) (h, (a, b, c))

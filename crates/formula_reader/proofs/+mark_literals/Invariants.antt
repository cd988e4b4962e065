-- The measure of mark_literals: the node falls.
use Rattle.formula_reader.proofs.+mark_literals.Given as goal

abbrev pub decreases-mark_literals : goal.decreases-mark_literals
decreases-mark_literals l = l.i

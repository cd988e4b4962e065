-- What is left of the text is read from where the code is, in the turns that are left.
use Rattle.std.proofs.Common.{◌+◌, ◌*◌, ◌-◌, ◌≤◌, length}
use Rattle.routine_reader.specs.Stack.{stack_of}
use Rattle.routine_reader.proofs.Going.{Going}
use Rattle.routine_reader.proofs.recognise.Given as goal

abbrev pub invariant-loop-made : goal.invariant-loop-made
invariant-loop-made l =
    (l.height ≤ length l.stack) × (l.height ≤ 15 * l.made + 1) × Going l.text (stack_of l.stack l.height) l.t (l.made-end - l.made)

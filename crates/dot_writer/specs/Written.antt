-- What a writer is once bytes are added.
use Rattle.std.specs.Prelude.{ℕ, ◌+◌, List, length}
use denote.Ref.{at_last}
use Rattle.text.specs.Text.{write_at}
use Rattle.dot_writer.specs.declared.Writer.{Writer}

-- the same borrow, with these bytes behind the writer's fill, and the next fill. `at_last x l` is the reference x at the list l.
abbrev pub written : Writer → List ℕ → Writer
written w bytes = record { out = at_last w.out (write_at w.out.now w.fill bytes); fill = w.fill + length bytes }

-- What is left of the text falls, and from an or to an and to an item.
use Rattle.std.proofs.Common.{◌+◌, ◌*◌, ◌-◌, length}
use Rattle.formula_reader.proofs.+read_and_read_item_read_or.Given as goal

abbrev pub decreases-read_and : goal.decreases-read_and
decreases-read_and l = 3 * (length l.text.now - l.at) + 2

abbrev pub decreases-read_item : goal.decreases-read_item
decreases-read_item l = 3 * (length l.text.now - l.at) + 1

abbrev pub decreases-read_or : goal.decreases-read_or
decreases-read_or l = 3 * (length l.text.now - l.at) + 3

use Rattle.std.proofs.Common.{length}
use Rattle.tables.specs.Items.{entries}
use Rattle.lexer.specs.Scans.{left}
use Rattle.nestlines.proofs.RowLines.{Sofar}
use Rattle.nestlines.proofs.rows.read_numbers.Given as goal

abbrev pub invariant-loop-value : goal.invariant-loop-value
invariant-loop-value l = Sofar l.fn.reader l.reader (entries l.numbers)

abbrev pub decreases-loop-value : goal.decreases-loop-value
decreases-loop-value l = length (left l.reader)

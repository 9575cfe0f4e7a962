use Rattle.std.proofs.Common.{ℕ, ◌<◌}
use Rattle.assignments.specs.Assignments.{at}
use Rattle.assignments.proofs.values.is_complete.Given as goal

abbrev pub invariant-loop-byte : goal.invariant-loop-byte
invariant-loop-byte l = (k : ℕ) → k < l.byte-index → at l.assignment k < 2

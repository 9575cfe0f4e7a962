use Rattle.std.proofs.Common.{◌≡◌, ℕ, ◌<◌}
use Rattle.assignments.specs.Assignments.{at}
use Rattle.assignments.proofs.orders.precedes.Given as goal

abbrev pub invariant-loop-i : goal.invariant-loop-i
invariant-loop-i l = (k : ℕ) → k < l.i → at l.left k ≡ at l.right k

use Rattle.std.proofs.Common.{◌≡◌, take}
use Rattle.loads.specs.Sums.{Marked}
use Rattle.loads.specs.Rows.{total}
use Rattle.loads.proofs.total.explain.Given as goal

abbrev pub invariant-loop-row : goal.invariant-loop-row
invariant-loop-row g l = (l.sum ≡ total g.L.LoadKind.EMPTY g.L.LoadKind.join l.assignment (take l.row-index l.rows))
    × (l.reason.assignment.now ≡ l.assignment)
    × Marked l.assignment l.reason.marks l.rows l.row-index

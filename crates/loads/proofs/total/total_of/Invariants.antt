use Rattle.std.proofs.Common.{◌≡◌, take}
use Rattle.loads.specs.Rows.{total}
use Rattle.loads.proofs.total.total_of.Given as goal

abbrev pub invariant-loop-row : goal.invariant-loop-row
invariant-loop-row g l = l.all ≡ total g.L.LoadKind.EMPTY g.L.LoadKind.join l.assignment (take l.row-index l.rows)

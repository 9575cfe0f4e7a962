use Rattle.std.proofs.Common.{sym, ◌∙◌}
use Rattle.loads.specs.Sums.{counted, skipped}
use Rattle.loads.proofs.total.total_of.Goals as goal
use Rattle.loads.proofs.total.total_of.Goals.{then-is_live, else-is_live}

pub loop-row-preserved : goal.loop-row-preserved
loop-row-preserved g c =
    let m = g.L.LoadKind in
    let laws = g.met.L.LoadKind in
    let p = c.args.assignment.now in
    let rs = c.args.rows.now in
    let i = c.loop-row.row-index in
    let told = c.is_live.ensures in
    elim c.if-is_live.branch [
      | then-is_live w ↦ counted m.EMPTY m.join laws.assoc laws.comm p rs i _ _ _ c.loop-row-test.true c.row-item.is (sym told ∙ w.if-is_live.true) c.loop-row.invariant (w.all-is ∙ w.joined-all.ensures)
      | else-is_live w ↦ skipped m.EMPTY m.join laws.assoc laws.comm p rs i _ _ _ c.loop-row-test.true c.row-item.is (sym told ∙ w.if-is_live.false) c.loop-row.invariant w.all-is
    ]

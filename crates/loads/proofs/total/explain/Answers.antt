use Rattle.std.proofs.Common.{◌≡◌, true, take, sym, refl, ◌∙◌, subst, take_all}
use Rattle.loads.specs.Rows.{total}
use Rattle.loads.specs.Sums.{is_on, counted, skipped, marked_skip, marked_one, marked_over}
use Rattle.loads.proofs.total.explain.Goals as goal

pub loop-row-preserved-then-not-is_live : goal.loop-row-preserved-then-not-is_live
loop-row-preserved-then-not-is_live g c =
    let m = g.L.LoadKind in
    let laws = g.met.L.LoadKind in
    let p = c.args.assignment.now in
    let rs = c.args.rows.now in
    let i = c.loop-row.row-index in
    let r = c.row-item.result in
    let off = sym c.if-not-is_live.ensures in (
      skipped m.EMPTY m.join laws.assoc laws.comm p rs i r _ _ c.loop-row-test.true c.row-item.is off c.loop-row.invariant.0 refl,
      c.loop-row.invariant.1,
      marked_skip p c.loop-row.reason.marks rs i r c.loop-row-test.true c.row-item.is c.loop-row.invariant.2 off,
    )

pub loop-row-preserved : goal.loop-row-preserved
loop-row-preserved g c =
    let m = g.L.LoadKind in
    let laws = g.met.L.LoadKind in
    let p = c.args.assignment.now in
    let rs = c.args.rows.now in
    let i = c.loop-row.row-index in
    let r = c.row-item.result in
    let t = c.loop-row.reason.marks in
    let on = sym c.if-not-is_live.ensures in (
      counted m.EMPTY m.join laws.assoc laws.comm p rs i r _ _ c.loop-row-test.true c.row-item.is on c.loop-row.invariant.0 c.joined-sum.ensures,
      c.mark.ensures.of ∙ c.loop-row.invariant.1,
      marked_one p t rs i r c.loop-row-test.true c.row-item.is c.loop-row.invariant.2 _ _ (is_on p r on) c.loop-row.reason.known.long c.mark.ensures.marks c.loop-row.invariant.1,
    )

pub returns-after-loop-row-clause-over : goal.returns-after-loop-row-clause-over
returns-after-loop-row-clause-over g c h =
    let m = g.L.LoadKind in
    let laws = g.met.L.LoadKind in
    let rs = c.args.rows.now in
    let all : take c.loop-row.row-index rs ≡ rs = take_all _ _ c.loop-row-test.false in
    marked_over m.EMPTY m.join laws.assoc laws.comm m.over laws.stays c.args.limit c.args.assignment.now _ rs _ c.loop-row.invariant.2
    (subst (λ l. m.over c.args.limit (total m.EMPTY m.join c.args.assignment.now l) ≡ true) (sym all) h)

pub returns-then-is_over-clause-over : goal.returns-then-is_over-clause-over
returns-then-is_over-clause-over g c _ =
    let m = g.L.LoadKind in
    let laws = g.met.L.LoadKind in
    let p = c.args.assignment.now in
    let rs = c.args.rows.now in
    let i = c.loop-row.row-index in
    let r = c.row-item.result in
    let t = c.loop-row.reason.marks in
    let on = sym c.if-not-is_live.ensures in
    let sum = counted m.EMPTY m.join laws.assoc laws.comm p rs i r _ _ c.loop-row-test.true c.row-item.is on c.loop-row.invariant.0 c.joined-sum.ensures in
    marked_over m.EMPTY m.join laws.assoc laws.comm m.over laws.stays c.args.limit p _ rs _
    (marked_one p t rs i r c.loop-row-test.true c.row-item.is c.loop-row.invariant.2 _ _ (is_on p r on) c.loop-row.reason.known.long c.mark.ensures.marks c.loop-row.invariant.1)
    (subst (λ x. m.over c.args.limit x ≡ true) sum (sym c.if-is_over.ensures))

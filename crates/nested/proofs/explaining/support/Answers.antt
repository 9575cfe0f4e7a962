use Rattle.std.proofs.Common.{◌≡◌, false, get_or, pos, to_z, of_z, w16, rules}
use Rattle.assignments.specs.Literals.{true_at}
use Rattle.nested.proofs.Marking.{support_skip}
use Rattle.nested.proofs.explaining.support.Goals as goal

pub loop-literal-preserved-then-not-is_true : goal.loop-literal-preserved-then-not-is_true
loop-literal-preserved-then-not-is_true c =
    let ls = c.args.clause.now in
    let i = c.loop-literal.literal-index in
    let back : to_z w16 (of_z w16 (get_or ls i (pos 0))) ≡ get_or ls i (pos 0) = search rules in
    let off : true_at c.args.values.now (get_or ls i (pos 0)) ≡ false = search rules in
    support_skip c.args.map.now c.args.values.now ls i c.loop-literal.found c.loop-literal-test.true off c.loop-literal.invariant

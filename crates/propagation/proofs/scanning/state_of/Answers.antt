use Rattle.std.proofs.Common.{◌≡◌, ◌+◌, Some, None, get_or, take, pos, sym, subst, w16, to_z, of_z, rules}
use Rattle.assignments.specs.Literals.{met}
use Rattle.propagation.proofs.ClauseSteps.{SoFar, OneOpen, sofar_fails, sofar_open, met_at, one_open_more, one_open_here}
use Rattle.propagation.proofs.scanning.state_of.Goals as goal

pub returns-in-Holds : goal.returns-in-Holds
returns-in-Holds c =
    let ls = c.args.clause.now in
    let i = c.loop-literal.literal-index in
    let back : to_z w16 (of_z w16 (get_or ls i (pos 0))) ≡ get_or ls i (pos 0) = search rules in
    met_at c.args.from c.args.assignment.now ls i c.loop-literal-test.true (rw back at c.in-Holds.ensures)

pub loop-literal-preserved-in-Fails : goal.loop-literal-preserved-in-Fails
loop-literal-preserved-in-Fails c =
    let ls = c.args.clause.now in
    let i = c.loop-literal.literal-index in
    let back : to_z w16 (of_z w16 (get_or ls i (pos 0))) ≡ get_or ls i (pos 0) = search rules in
    (sofar_fails c.args.from c.args.assignment.now ls i c.loop-literal-test.true c.loop-literal.open c.loop-literal.invariant.0 (rw back at c.in-Fails.ensures), one_open_more _ _ _ _ _ c.loop-literal.invariant.1)

pub loop-literal-preserved : goal.loop-literal-preserved
loop-literal-preserved c =
    let ls = c.args.clause.now in
    let i = c.loop-literal.literal-index in
    let p = c.args.assignment.now in
    let back : to_z w16 (of_z w16 (get_or ls i (pos 0))) ≡ get_or ls i (pos 0) = search rules in
    let none : c.loop-literal.open ≡ None = search rules in
    let one : c.replace.new.self ≡ Some c.in-Open.wanted = search rules in
    let so = subst (SoFar c.args.from p (λ q. met q (take i ls))) none c.loop-literal.invariant.0 in
    let here = rw back at c.in-Open.ensures in (
      subst (SoFar c.args.from p (λ q. met q (take (i + 1) ls))) (sym one) (sofar_open c.args.from p ls i c.loop-literal-test.true c.in-Open.wanted so here),
      subst (OneOpen c.args.from p ls (i + 1)) (sym one) (one_open_here c.args.from p ls i c.in-Open.wanted c.loop-literal-test.true here),
    )

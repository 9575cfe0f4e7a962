use Rattle.std.proofs.Common.{◌≡◌, ◌+◌, ◌<◌, Some, None, length, get_or, pos, min, to_z, of_z, w16, sym, subst, arith, rules}
use Rattle.assignments.specs.Assignments.{at}
use Rattle.assignments.specs.Literals.{place_in}
use Rattle.assignments.proofs.ByteLaws.{at_read, at_within}
use Rattle.propagation.specs.Literals.{place}
use Rattle.propagation.specs.Ticking.{Adds, Named, Inside}
use Rattle.propagation.proofs.LiteralLaws.{placed, none_in}
use Rattle.propagation.proofs.TickSteps.{named_skip, named_tick}
use Rattle.propagation.proofs.explaining.tick_known.Goals as goal
use Rattle.propagation.proofs.explaining.tick_known.Goals.{then-assignment-place-lt2, else-assignment-place-lt2}

pub loop-literal-preserved-in_default : goal.loop-literal-preserved-in_default
loop-literal-preserved-in_default c =
    let ls = c.args.literals.now in
    let j = c.loop-literal.literal-index in
    let p = c.args.assignment.now in
    let z = get_or ls j (pos 0) in
    let back : to_z w16 (of_z w16 z) ≡ z = search rules in
    let all : c.min-atoms.result ≡ min (length p) (length c.args.ticks.now) = search rules in
    let off : None ≡ place_in c.min-atoms.result z = search rules in
    named_skip _ p ls j _ _ (λ r k h. none_in c.min-atoms.result z off r (let w = at_within p (place z) k in omega (arith, all))) c.loop-literal.invariant

pub loop-literal-preserved : goal.loop-literal-preserved
loop-literal-preserved c =
    let ls = c.args.literals.now in
    let j = c.loop-literal.literal-index in
    let p = c.args.assignment.now in
    let n = length c.args.ticks.now in
    let i = c.in-Some.place in
    let back : to_z w16 (of_z w16 (get_or ls j (pos 0))) ≡ get_or ls j (pos 0) = search rules in
    let on : Some i ≡ place_in c.min-atoms.result (get_or ls j (pos 0)) = search rules in
    let a = placed c.min-atoms.result (get_or ls j (pos 0)) i on in
    let r = at_read p i (search rules) in
    elim c.if-assignment-place-lt2.branch [
      | then-assignment-place-lt2 y ↦ subst (Adds (Inside n (Named p ls (j + 1))) c.args.ticks.now) (sym y.ticks-is)
          (named_tick n p ls j _ _ i a.here a.real (omega arith) (search rules) (search rules) c.loop-literal.invariant)
      | else-assignment-place-lt2 y ↦ subst (Adds (Inside n (Named p ls (j + 1))) c.args.ticks.now) (sym y.ticks-is)
          (named_skip n p ls j _ _ (λ _ k _. let known : at p i < 2 = subst (λ x. at p x < 2) (sym a.here) k in omega arith) c.loop-literal.invariant)
    ]

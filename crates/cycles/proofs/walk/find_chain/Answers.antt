use Rattle.std.proofs.Common.{◌∙◌, subst₂, arith}
use Rattle.vetoes.specs.Verdicts.{ticked}
use Rattle.vetoes.proofs.Marking.{ticked_part}
use Rattle.cycles.specs.Graphs.{Closed}
use Rattle.cycles.specs.Warshall.{is_cyclic, not_cyclic}
use Rattle.cycles.proofs.WalkLaws.{none_closed, closed_there}
use Rattle.cycles.proofs.walk.find_chain.Goals as goal

pub returns-in-Found : goal.returns-in-Found
returns-in-Found c =
    let p = c.args.assignment.now in
    let was = c.loop-at.walk in
    let now = c.walk.new.self in
    let found = closed_there was.arcs.now was.reason.assignment.now was.on now.on now.done now.reason.marks c.loop-at.at c.walk.result c.loop-at.invariant.2 c.in-Found.is c.walk.ensures.walked in
    let both = is_cyclic c.args.arcs.now p _ (ticked_part p now.reason.marks) (subst₂ (λ l q. Closed l (ticked q now.reason.marks)) c.loop-at.invariant.0 c.loop-at.invariant.1 found) in
    record { value = both.0; of = c.walk.ensures.assignment ∙ c.loop-at.invariant.1; reason = both.1 }

pub returns-clause-value : goal.returns-clause-value
returns-clause-value c =
    let xs = c.args.arcs.now in
    let p = c.args.assignment.now in
    not_cyclic xs p (none_closed xs p (λ s low high. c.loop-at.invariant.3 s low (omega arith)))

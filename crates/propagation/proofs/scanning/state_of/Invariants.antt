use Rattle.std.proofs.Common.{take}
use Rattle.assignments.specs.Literals.{met}
use Rattle.propagation.proofs.ClauseSteps.{SoFar, OneOpen}
use Rattle.propagation.proofs.scanning.state_of.Given as goal

abbrev pub invariant-loop-literal : goal.invariant-loop-literal
invariant-loop-literal l = SoFar l.from l.assignment (λ q. met q (take l.literal-index l.clause)) l.open
    × OneOpen l.from l.assignment l.clause l.literal-index l.open

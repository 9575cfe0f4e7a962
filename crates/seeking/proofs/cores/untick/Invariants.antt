use Rattle.seeking.specs.Choosing.{KeepsNamed}
use Rattle.seeking.proofs.cores.untick.Given as goal

abbrev pub invariant-loop-i : goal.invariant-loop-i
invariant-loop-i l = KeepsNamed l.assumed l.reason l.fn.ticks l.ticks

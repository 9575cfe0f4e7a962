use Rattle.std.proofs.Common.{length}
use Rattle.propagation.specs.Ticking.{Adds, Named, Inside}
use Rattle.propagation.proofs.explaining.tick_known.Given as goal

abbrev pub invariant-loop-literal : goal.invariant-loop-literal
invariant-loop-literal l = Adds (Inside (length l.fn.ticks) (Named l.assignment l.literals l.literal-index)) l.fn.ticks l.ticks

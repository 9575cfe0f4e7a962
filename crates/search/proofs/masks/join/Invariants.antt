use Rattle.propagation.specs.Ticking.{Adds}
use Rattle.search.specs.Masks.{Ticked}
use Rattle.search.proofs.masks.join.Given as goal

abbrev pub invariant-loop-i : goal.invariant-loop-i
invariant-loop-i l = Adds (Ticked l.other l.i) l.initial.ticks l.ticks

use Rattle.nested.proofs.Searching.{FrontSeen}
use Rattle.nested.proofs.mapping.seen_values.Given as goal

abbrev pub invariant-loop-i : goal.invariant-loop-i
invariant-loop-i l = FrontSeen l.map l.assignment l.i l.values

use Rattle.nested.proofs.Marking.{SupportSoFar}
use Rattle.nested.proofs.explaining.support.Given as goal

abbrev pub invariant-loop-literal : goal.invariant-loop-literal
invariant-loop-literal l = SupportSoFar l.map l.values l.clause l.literal-index l.found

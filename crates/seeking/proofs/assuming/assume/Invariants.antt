use Rattle.std.proofs.Common.{length}
use Rattle.std.specs.Option.{option_copied}
use Rattle.seeking.proofs.Assumptions.{StandsTo}
use Rattle.seeking.proofs.assuming.assume.Given as goal

abbrev pub invariant-loop-index : goal.invariant-loop-index
invariant-loop-index l = StandsTo l.assumed (option_copied l.only) (length l.fn.assignment) l.assignment l.index

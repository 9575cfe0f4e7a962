use Rattle.std.proofs.Common.{◌≡◌, drop}
use Rattle.finder.specs.Bodies.{entry_at}
use Rattle.finder.proofs.contents.entry_of.Given as goal

abbrev pub invariant-loop-entry : goal.invariant-loop-entry
invariant-loop-entry l = entry_at l.kind (drop l.entry-index l.contents) ≡ entry_at l.kind l.contents

use Rattle.std.proofs.Common.{◌≡◌, drop}
use Rattle.nestformat.specs.Due.{listed}
use Rattle.nestlines.proofs.entries.is_listed.Given as goal

abbrev pub invariant-loop-entry : goal.invariant-loop-entry
invariant-loop-entry l = listed l.kind (drop l.entry-index l.contents) ≡ listed l.kind l.contents

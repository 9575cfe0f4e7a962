use Rattle.std.proofs.Common.{◌≡◌, drop}
use Rattle.nestformat.specs.Due.{atoms_at}
use Rattle.nestfile.proofs.bodies.atoms_at.Given as goal

abbrev pub invariant-loop-entry : goal.invariant-loop-entry
invariant-loop-entry l = atoms_at l.kind (drop l.entry-index l.contents) ≡ atoms_at l.kind l.contents

use Rattle.std.proofs.Common.{refl, sym}
use Rattle.nestformat.specs.declared.kinds.BodyKind.TheVariants.{Outer}
use Rattle.nestfile.proofs.Listing.{rows_told}
use Rattle.nestfile.proofs.Sizes.{atoms_told}
use Rattle.nestfile.proofs.Problem.outer.Goals as goal

pub returns-clause-rows : goal.returns-clause-rows
returns-clause-rows c = let h = c.args.self.now in sym (rows_told h.parts Outer h.bare)

pub returns-clause-atoms : goal.returns-clause-atoms
returns-clause-atoms c = let h = c.args.self.now in atoms_told h.parts Outer refl h.sized

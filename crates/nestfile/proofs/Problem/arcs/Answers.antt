use Rattle.std.proofs.Common.{map, sym, ap, ◌∙◌}
use Rattle.nestformat.specs.declared.kinds.BodyKind.TheVariants.{Loop}
use Rattle.nestlines.specs.Rows.{arc_numbers}
use Rattle.nestfile.proofs.Listing.{rows_told}
use Rattle.nestfile.proofs.Problem.arcs.Goals as goal

pub returns-clause-rows : goal.returns-clause-rows
returns-clause-rows c = let h = c.args.self.now in ap (map arc_numbers) c.as_slice.ensures ∙ sym (rows_told h.parts Loop h.bare)

use Rattle.std.proofs.Common.{map, sym, ap, ◌∙◌}
use Rattle.nestformat.specs.declared.kinds.BodyKind.TheVariants.{Milliamperes}
use Rattle.nestlines.specs.Rows.{load_numbers}
use Rattle.nestfile.proofs.Listing.{rows_told}
use Rattle.nestfile.proofs.Problem.milliamperes.Goals as goal

pub returns-clause-rows : goal.returns-clause-rows
returns-clause-rows c = let h = c.args.self.now in ap (map load_numbers) c.as_slice.ensures ∙ sym (rows_told h.parts Milliamperes h.bare)

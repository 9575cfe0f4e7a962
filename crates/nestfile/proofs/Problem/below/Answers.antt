use Rattle.std.proofs.Common.{◌≡◌, refl, sym, ◌∙◌}
use Rattle.nestformat.specs.declared.kinds.BodyKind.TheVariants.{Below}
use Rattle.nestformat.specs.Items.{contents_of}
use Rattle.nestformat.specs.Bodies.{rows_at}
use Rattle.nestformat.specs.Due.{atoms_at}
use Rattle.nestfile.specs.Bodies.{nest_rows, nest_atoms}
use Rattle.nestfile.specs.Problems.{told}
use Rattle.nestfile.proofs.Listing.{rows_told}
use Rattle.nestfile.proofs.Sizes.{atoms_told, below_told, lent}
use Rattle.nestfile.proofs.Problem.below.Goals as goal

pub returns-clause-there : goal.returns-clause-there
returns-clause-there c = let h = c.args.self.now in c.as_ref.ensures.variant ∙ below_told h.parts h.whole h.bare

pub returns-clause-rows : goal.returns-clause-rows
returns-clause-rows c =
    let h = c.args.self.now in
    lent (λ o. nest_rows o ≡ rows_at Below (told h).bodies) c.as_ref.result h.parts.below c.as_ref.ensures.value (sym (rows_told h.parts Below h.bare))

pub returns-clause-atoms : goal.returns-clause-atoms
returns-clause-atoms c =
    let h = c.args.self.now in
    lent (λ o. nest_atoms o ≡ atoms_at Below (contents_of (told h).bodies)) c.as_ref.result h.parts.below c.as_ref.ensures.value (atoms_told h.parts Below refl h.sized)

use Rattle.std.proofs.Common.{◌≡◌, [], ◌∷◌, refl, ◌∙◌, rules}
use Rattle.tables.specs.Items.{entries}
use Rattle.nestformat.specs.declared.kinds.BodyKind.TheVariants.{Outer}
use Rattle.nestfile.specs.declared.Parts.{Parts}
use Rattle.nestfile.proofs.Listing.{is_empty, empty_whole, bare_from}
use Rattle.nestfile.proofs.Sizes.{empty_sized}
use Rattle.nestfile.proofs.Steps.{same_rows, same_atoms}
use Rattle.nestfile.proofs.Problem.empty.Goals as goal

pub invariant_of-result : goal.invariant_of-result
invariant_of-result c =
    let n = c.new-parts.result in
    let p : Parts = record { map = n.map; contents = c.push.new.self; outer = n.outer; nest = n.nest; below = n.below; arcs = n.arcs; milliamperes = n.milliamperes; lines = n.lines } in
    let named : entries p.contents ≡ record { kind = Outer; size = 0; own = 0; rows = 0 } ∷ [] = search rules in
    record {
      whole = empty_whole p (is_empty p c.new-parts.ensures.map named (c.new-parts.ensures.rows Outer));
      bare = bare_from p (λ k l. same_rows n p refl refl refl refl refl refl k ∙ c.new-parts.ensures.rows k);
      sized = empty_sized p named (λ k. same_atoms n p refl refl refl k ∙ c.new-parts.ensures.atoms k);
    }

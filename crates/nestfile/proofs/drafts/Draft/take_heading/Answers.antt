use Rattle.std.proofs.Common.{refl, subst, rules}
use Rattle.lexer.specs.Scans.{left}
use Rattle.nestformat.specs.Items.{heading_line}
use Rattle.nestformat.specs.Due.{heading_due}
use Rattle.nestfile.specs.declared.Parts.{Parts}
use Rattle.nestfile.specs.declared.drafts.Draft.{Draft}
use Rattle.nestfile.specs.declared.drafts.Phase.TheVariants.{Heading, Contents}
use Rattle.nestfile.specs.Drafts.{state_of, PhaseSound, Bare, Sized}
use Rattle.nestfile.proofs.Steps.{item_fits, heading_step, same_rows, taken, refused_result, same_atoms}
use Rattle.nestfile.proofs.drafts.Draft.take_heading.Goals as goal

pub returns-in_err-heading-clause-taken : goal.returns-in_err-heading-clause-taken
returns-in_err-heading-clause-taken c = refused_result _ _ _ _ c.in_err-heading.field-0.0 _ _ (search rules) c.letter.ensures (c.in_err-heading.ensures.told (state_of c.args.self.now))

pub returns-clause-taken : goal.returns-clause-taken
returns-clause-taken c =
    let old = c.args.self.now in
    let h = c.in_ok-heading.heading in
    let q : Parts = record { map = h.map; contents = old.parts.contents; outer = old.parts.outer; nest = old.parts.nest; below = old.parts.below; arcs = old.parts.arcs; milliamperes = old.parts.milliamperes; lines = old.parts.lines } in
    let new : Draft = record { parts = q; phase = Contents h.bodies; opened = old.opened; numbers = old.numbers } in
    let is = c.in_ok-heading.ensures.told (state_of old) in
    let ph : PhaseSound old.parts old.opened Heading = subst (PhaseSound old.parts old.opened) c.requires.phase c.requires.sound.phase in
    taken _ _ (heading_line h) old new Heading tt is c.requires.phase
    (heading_step old.parts q old.opened h c.requires.sound.good ph (item_fits heading_due (state_of old) (left c.args.reader.now) (heading_line h) is) refl refl (λ k. same_rows old.parts q refl refl refl refl refl refl k) (λ k. same_atoms old.parts q refl refl refl k) (subst (Bare old.parts) c.requires.phase c.requires.sound.bare) (subst (Sized old.parts) c.requires.phase c.requires.sound.sized))

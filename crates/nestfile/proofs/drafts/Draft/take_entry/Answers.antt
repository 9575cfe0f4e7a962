use Rattle.std.proofs.Common.{refl, sym, subst, rules}
use Rattle.tables.specs.Items.{entries}
use Rattle.lexer.specs.Scans.{left}
use Rattle.nestformat.specs.Items.{contents_line}
use Rattle.nestformat.specs.Due.{contents_due}
use Rattle.nestfile.specs.declared.Parts.{Parts}
use Rattle.nestfile.specs.declared.drafts.Draft.{Draft}
use Rattle.nestfile.specs.declared.drafts.Phase.TheVariants.{Contents}
use Rattle.nestfile.specs.Drafts.{state_of, PhaseSound, Bare, Sized}
use Rattle.nestfile.proofs.Steps.{item_fits, entry_pushed, entry_step, same_rows, taken, refused_result, same_atoms}
use Rattle.nestfile.proofs.drafts.Draft.take_entry.Goals as goal

pub returns-in_err-entry-clause-taken : goal.returns-in_err-entry-clause-taken
returns-in_err-entry-clause-taken c = refused_result _ _ _ _ c.in_err-entry.field-0.0 _ _ (search rules) c.letter.ensures (c.in_err-entry.ensures.told (state_of c.args.self.now) (sym c.as_slice.ensures))

pub returns-clause-taken : goal.returns-clause-taken
returns-clause-taken c =
    let old = c.args.self.now in
    let p = old.parts in
    let e = c.in_ok-entry.entry in
    let q : Parts = record { map = p.map; contents = c.push.new.self; outer = p.outer; nest = p.nest; below = p.below; arcs = p.arcs; milliamperes = p.milliamperes; lines = p.lines } in
    let new : Draft = record { parts = q; phase = c.after_entry-self.result; opened = old.opened; numbers = old.numbers } in
    let is = c.in_ok-entry.ensures.told (state_of old) (sym c.as_slice.ensures) in
    let ph : PhaseSound p old.opened (Contents c.args.count) = subst (PhaseSound p old.opened) c.requires.phase c.requires.sound.phase in
    taken _ _ (contents_line e) old new (Contents c.args.count) tt is c.requires.phase
    (entry_step p q old.opened c.args.count c.after_entry-self.result e c.requires.sound.good ph (item_fits contents_due (state_of old) (left c.args.reader.now) (contents_line e) is) refl
    (entry_pushed c.push.result (entries p.contents) (entries c.push.new.self) e c.args.count c.push.ensures.value c.push.ensures.items ph.0 ph.1)
    c.after_entry-self.ensures
    (λ k. same_rows p q refl refl refl refl refl refl k) (λ k. same_atoms p q refl refl refl k) (subst (Bare p) c.requires.phase c.requires.sound.bare) (subst (Sized p) c.requires.phase c.requires.sound.sized))

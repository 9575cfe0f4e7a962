use Rattle.std.proofs.Common.{◌≡◌, ◌+◌, Some, drop, refl, sym, ap, subst, ◌∙◌, rules}
use Rattle.tables.specs.Items.{entries}
use Rattle.nestformat.specs.Items.{body_line}
use Rattle.nestformat.specs.Due.{body_due, bodies_due, due}
use Rattle.nestfile.specs.declared.drafts.Draft.{Draft}
use Rattle.nestfile.specs.declared.drafts.Phase.TheVariants.{Bodies}
use Rattle.nestfile.specs.Drafts.{slots, state_of, Bare, Sized}
use Rattle.nestfile.proofs.Steps.{opening_step, opened_by, next_ranged, atoms_near, taken, refused_result}
use Rattle.nestfile.proofs.drafts.Draft.take_opening.Goals as goal

pub returns-in_err-read_opening-clause-taken : goal.returns-in_err-read_opening-clause-taken
returns-in_err-read_opening-clause-taken c = refused_result _ _ _ _ c.in_err-read_opening.field-0.0 _ _ (search rules) c.letter.ensures (c.in_err-read_opening.ensures.told (state_of c.args.self.now) c.args.entry refl refl)

pub begin-requires : goal.begin-requires
begin-requires c =
    let es = entries c.args.self.now.parts.contents in
    let first : due (bodies_due (drop c.args.next es)) ≡ body_due c.args.entry = ap (λ x. due (slots x es)) (sym c.requires.phase) ∙ c.requires.entry in
    atoms_near c.args.entry (next_ranged es c.args.next c.args.entry c.requires.sound.good first)

pub returns-clause-taken : goal.returns-clause-taken
returns-clause-taken c =
    let old = c.args.self.now in
    let p = old.parts in
    let e = c.args.entry in
    let es = entries p.contents in
    let y = c.after_opening-self.result in
    let new : Draft = record { parts = c.begin.new.self; phase = y; opened = Some e.kind; numbers = old.numbers } in
    let first : due (bodies_due (drop c.args.next es)) ≡ body_due e = ap (λ x. due (slots x es)) (sym c.requires.phase) ∙ c.requires.entry in
    let is = c.in_ok-read_opening.ensures.told (state_of old) e refl refl in
    taken _ _ (body_line e.kind p.map) old new (Bodies c.args.next) tt is c.requires.phase
    (opening_step p c.begin.new.self old.opened c.args.next e y c.requires.sound.good first c.begin.ensures.others c.begin.ensures.begun (opened_by e (c.args.next + 1) y c.after_opening-self.ensures.map c.after_opening-self.ensures.rows) (subst (Bare p) c.requires.phase c.requires.sound.bare) (subst (Sized p) c.requires.phase c.requires.sound.sized))

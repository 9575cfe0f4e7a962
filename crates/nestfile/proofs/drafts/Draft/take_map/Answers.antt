use Rattle.std.proofs.Common.{◌≡◌, Ok, Some, None, ◌∷◌, [], refl, ap, subst, ◌∙◌, rules}
use Rattle.tables.specs.Items.{entries}
use Rattle.lexer.specs.Scans.{left, line_number}
use Rattle.nestformat.specs.Items.{row_line}
use Rattle.nestformat.specs.Due.{map_due, host_of}
use Rattle.nestfile.specs.declared.drafts.Draft.{Draft}
use Rattle.nestfile.specs.declared.drafts.Phase.TheVariants.{Map}
use Rattle.nestfile.specs.Drafts.{state_of, PhaseSound, Bare, Sized}
use Rattle.nestlines.specs.LineItems.{item_or_fault}
use Rattle.nestlines.proofs.RowLines.{map_unread}
use Rattle.nestlines.proofs.Placed.{told_same}
use Rattle.nestfile.proofs.RowsRead.{map_read}
use Rattle.nestfile.proofs.Steps.{map_step, atoms_few, taken, refused, refused_result}
use Rattle.nestfile.proofs.drafts.Draft.take_map.Goals as goal

pub returns-in_err-read_row-clause-taken : goal.returns-in_err-read_row-clause-taken
returns-in_err-read_row-clause-taken c = refused_result _ _ _ _ c.in_err-read_row.field-0.0 _ _ (search rules) c.letter-body.ensures (map_unread c.args.entry (state_of c.args.self.now) _ _ (left c.args.reader.now) (entries c.read_row.new.numbers) _ c.requires.few c.in_err-read_row.ensures.read)

pub add_map-requires-clause-near : goal.add_map-requires-clause-near
add_map-requires-clause-near c = atoms_few (host_of c.args.entry.kind) (entries c.args.self.now.parts.contents) c.requires.sound.good

pub returns-in-Err-clause-taken : goal.returns-in-Err-clause-taken
returns-in-Err-clause-taken c =
    let s = state_of c.args.self.now in
    let read = c.in_ok-read_row.ensures.read in
    refused _ _ _ _ _ _ _ (map_read c.args.entry s (left c.args.reader.now) (entries c.read_row.new.numbers) c.as_slice.result.now (Some c.in-Err.cause) read.0 read.1 c.as_slice.ensures c.in-Err.ensures.refused) (told_same _ _ _ _ _ _ _ c.row_fault.ensures refl c.line-line.ensures c.letter-body.ensures)

pub returns-clause-taken : goal.returns-clause-taken
returns-clause-taken c =
    let old = c.args.self.now in
    let e = c.args.entry in
    let q = c.add_map.new.self in
    let zs = entries c.read_row.new.numbers in
    let y = c.rows_left-self.result in
    let new : Draft = record { parts = q; phase = y; opened = old.opened; numbers = c.read_row.new.numbers } in
    let read = c.in_ok-read_row.ensures.read in
    let is : item_or_fault (map_due e) (state_of old) (left c.args.reader.now) ≡ Ok (row_line zs) = map_read e (state_of old) (left c.args.reader.now) zs c.as_slice.result.now None read.0 read.1 c.as_slice.ensures c.in_default.ensures.refused in
    let ph : PhaseSound old.parts old.opened (Map e c.args.next) = subst (PhaseSound old.parts old.opened) c.requires.phase c.requires.sound.phase in
    taken (item_or_fault (map_due e) (state_of old) (left c.args.reader.now)) (line_number c.args.reader.now) (row_line zs) old new (Map e c.args.next) tt is c.requires.phase
    (map_step old.parts q old.opened e c.args.next y zs c.requires.sound.good ph c.in_default.ensures.others (c.in_default.ensures.rows ∙ ap (λ x. x ∷ []) c.as_slice.ensures) c.in_default.ensures.clauses (c.in_default.ensures.ready refl) c.rows_left-self.ensures (subst (Bare old.parts) c.requires.phase c.requires.sound.bare) (subst (Sized old.parts) c.requires.phase c.requires.sound.sized))

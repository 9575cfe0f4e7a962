use Rattle.std.proofs.Common.{◌≡◌, true, drop, sym, ap, subst, ◌∙◌, rules}
use Rattle.tables.specs.Items.{entries}
use Rattle.lexer.specs.Lines.{lead}
use Rattle.lexer.specs.Scans.{left}
use Rattle.lexer.proofs.Moves.{left_same}
use Rattle.nestformat.specs.Due.{contents_due, row_due, due, bodies_due}
use Rattle.nestformat.specs.Reading.{of_sort}
use Rattle.nestfile.specs.declared.drafts.Phase.TheVariants.{Contents, Rows}
use Rattle.nestlines.specs.Sorts.{slot_of}
use Rattle.nestfile.specs.Drafts.{slots, state_of, PhaseSound}
use Rattle.nestfile.proofs.Steps.{sorted, due_contents, due_rows, no_end}
use Rattle.nestfile.proofs.Turns.{on_line}
use Rattle.nestfile.proofs.drafts.Draft.take.Goals as goal

pub returns-in-Contents-clause-taken : goal.returns-in-Contents-clause-taken
returns-in-Contents-clause-taken c =
    let old = c.args.self.now in
    let r = c.args.reader.now in
    let t = c.take_entry in
    let of_old : PhaseSound old.parts old.opened (Contents c.in-Contents.left) = subst (PhaseSound old.parts old.opened) c.in-Contents.is c.requires.sound.phase in
    let first : due (state_of old).todo ≡ contents_due = ap (λ x. due (slots x (entries old.parts.contents))) c.in-Contents.is ∙ due_contents c.in-Contents.left of_old.0 in
    let passed : c.is_of_sort.result ≡ true = search rules in
    let sort : of_sort contents_due (lead (left r)) ≡ true = subst (λ x. of_sort x (lead (left r)) ≡ true) (c.due-due.ensures ∙ first) (ap (of_sort (slot_of c.due-due.result)) (sym c.peek.ensures.value) ∙ sym c.is_of_sort.ensures ∙ passed) in
    on_line t.result _ _ _ _ old t.new.self
    (sorted contents_due (state_of old) (left r) (left c.peek.new.self) first (left_same r c.peek.new.self c.peek.ensures.same c.peek.ensures.stays) sort)
    c.peek.ensures.same.counts t.ensures.taken

pub returns-in-Rows-clause-taken : goal.returns-in-Rows-clause-taken
returns-in-Rows-clause-taken c =
    let old = c.args.self.now in
    let r = c.args.reader.now in
    let t = c.take_row in
    let e = c.in-Rows.entry in
    let of_old : PhaseSound old.parts old.opened (Rows e c.in-Rows.left c.in-Rows.next) = subst (PhaseSound old.parts old.opened) c.in-Rows.is c.requires.sound.phase in
    let first : due (state_of old).todo ≡ row_due e = ap (λ x. due (slots x (entries old.parts.contents))) c.in-Rows.is ∙ due_rows e c.in-Rows.left c.in-Rows.next (entries old.parts.contents) of_old.some in
    let passed : c.is_of_sort.result ≡ true = search rules in
    let sort : of_sort (row_due e) (lead (left r)) ≡ true = subst (λ x. of_sort x (lead (left r)) ≡ true) (c.due-due.ensures ∙ first) (ap (of_sort (slot_of c.due-due.result)) (sym c.peek.ensures.value) ∙ sym c.is_of_sort.ensures ∙ passed) in
    on_line t.result _ _ _ _ old t.new.self
    (sorted (row_due e) (state_of old) (left r) (left c.peek.new.self) first (left_same r c.peek.new.self c.peek.ensures.same c.peek.ensures.stays) sort)
    c.peek.ensures.same.counts t.ensures.taken

pub returns-in_default : goal.returns-in_default
returns-in_default c =
    let es = entries c.args.self.now.parts.contents in
    let first : slot_of c.due-due.result ≡ due (bodies_due (drop c.in-Bodies.next es)) = c.due-due.ensures ∙ ap (λ x. due (slots x es)) c.in-Bodies.is in
    let passed : c.is_of_sort.result ≡ true = search rules in
    absurd (no_end (drop c.in-Bodies.next es) c.due-due.result c.peek.result first c.in_default.not-Body (sym c.is_of_sort.ensures ∙ passed))

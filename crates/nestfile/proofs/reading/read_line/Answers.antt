use Rattle.std.proofs.Common.{◌≡◌, true, false, sym, ap, ◌∙◌, rules}
use Rattle.refusals.specs.declared.Refusal.TheVariants.{BadByte}
use Rattle.lexer.specs.Lines.{clean}
use Rattle.lexer.specs.Scans.{current, line_number}
use Rattle.nestformat.specs.Faults.{plain}
use Rattle.nestfile.specs.Drafts.{state_of}
use Rattle.nestlines.proofs.Counting.{few_left}
use Rattle.nestlines.proofs.Placed.{told_same}
use Rattle.nestfile.proofs.Turns.{bad_line, clean_line}
use Rattle.nestfile.proofs.reading.read_line.Goals as goal

pub returns-then-not-is_clean-clause-taken : goal.returns-then-not-is_clean-clause-taken
returns-then-not-is_clean-clause-taken c =
    let r = c.args.reader.now in
    let old = c.args.draft.now in
    let no : c.is_clean.result ≡ false = search rules in
    let bad : clean (current r) ≡ false = ap clean (sym c.rest.ensures) ∙ sym c.is_clean.ensures ∙ no in
    bad_line (Unit {0}) (current r) (line_number r) c.at.result old old bad
    (told_same c.at.result c.plain.result (plain BadByte) c.line.result (line_number r) c.letter.result (state_of old).letter c.at.ensures c.plain.ensures c.line.ensures c.letter.ensures)

pub take-requires-clause-few : goal.take-requires-clause-few
take-requires-clause-few c = few_left c.args.reader.now c.requires.short

pub returns-clause-taken : goal.returns-clause-taken
returns-clause-taken c =
    let r = c.args.reader.now in
    let old = c.args.draft.now in
    let yes : c.is_clean.result ≡ true = search rules in
    let good : clean (current r) ≡ true = ap clean (sym c.rest.ensures) ∙ sym c.is_clean.ensures ∙ yes in
    clean_line c.take.result (current r) (line_number r) old c.take.new.self good c.take.ensures.taken

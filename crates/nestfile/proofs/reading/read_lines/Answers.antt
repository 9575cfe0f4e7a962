use Rattle.std.proofs.Common.{◌≡◌, ◌+◌, ◌≤◌, true, false, Err, length, refl, sym, ap, subst, ◌∙◌, rules}
use Rattle.refusals.specs.declared.Refusal.TheVariants.{BadEnd}
use Rattle.lexer.specs.Lines.{tokens, lead}
use Rattle.lexer.specs.Scans.{current, after, line_number}
use Rattle.lexer.proofs.Moves.{current_same, after_same}
use Rattle.nestformat.specs.Limits.{text_limit}
use Rattle.nestformat.specs.Faults.{plain}
use Rattle.nestformat.specs.Reading.{accept, skipped, fault_at, reading_from}
use Rattle.nestfile.specs.Drafts.{state_of, items_in}
use Rattle.nestlines.proofs.Placed.{told_same}
use Rattle.nestfile.proofs.Turns.{at_place, took, failed, lacking, done, line_ok, line_err, answered_result, shorter}
use Rattle.nestfile.proofs.reading.read_lines.Goals as goal

pub loop-reader-smaller-then-is_skipped : goal.loop-reader-smaller-then-is_skipped
loop-reader-smaller-then-is_skipped c =
    shorter (after c.loop-reader.reader) (after c.next_line.new.self) (after c.peek.new.self) (current c.next_line.new.self) c.loop-reader-test.ensures.lines (after_same c.peek.ensures.same)

pub loop-reader-smaller : goal.loop-reader-smaller
loop-reader-smaller c =
    shorter (after c.loop-reader.reader) (after c.next_line.new.self) (after c.read_line.new.reader) (current c.next_line.new.self) c.loop-reader-test.ensures.lines (after_same c.read_line.ensures.same ∙ after_same c.peek.ensures.same)

pub read_line-requires-clause-short : goal.read_line-requires-clause-short
read_line-requires-clause-short c =
    subst (λ t. length t ≤ text_limit) (sym (c.peek.ensures.same.text ∙ c.next_line.ensures.text)) c.loop-reader.invariant.short

pub returns-in_err-read_line-clause-answered : goal.returns-in_err-read_line-clause-answered
returns-in_err-read_line-clause-answered c =
    let r1 = c.next_line.new.self in
    let r2 = c.peek.new.self in
    let d = c.loop-reader.draft in
    let s = state_of d in
    let here = current_same r1 r2 c.peek.ensures.same c.peek.ensures.stays in
    let no : c.is_skipped.result ≡ false = search rules in
    let skip : skipped (lead (tokens (current r1))) ≡ false = ap skipped (sym c.peek.ensures.value) ∙ sym c.is_skipped.ensures ∙ no in
    let g = c.in_err-read_line.field-0.0 in
    let e : c.from_residual.result ≡ Err g = search rules in
    let k = line_err (Unit {0}) (accept s (current r2)) (line_number r2) g d c.read_line.new.draft c.in_err-read_line.ensures.taken in
    let line : line_number r2 ≡ line_number c.loop-reader.reader + 1 = c.peek.ensures.same.counts ∙ c.loop-reader-test.ensures.count refl in
    answered_result (reading_from (state_of c.args.draft.now) (line_number c.args.reader.now + 1) (after c.args.reader.now)) c.from_residual.result g (items_in c.args.draft.now) (items_in c.read_line.new.draft) e
    (failed c.loop-reader.invariant.turn (Unit {0}) (current r1) (after r1) c.loop-reader-test.ensures.lines skip k.0 (ap (accept s) (sym here) ∙ k.1) g (items_in c.read_line.new.draft) (k.2 ∙ ap (λ n. fault_at s n k.0) line))

pub loop-reader-preserved : goal.loop-reader-preserved
loop-reader-preserved c =
    let r1 = c.next_line.new.self in
    let r2 = c.peek.new.self in
    let r3 = c.read_line.new.reader in
    let d = c.loop-reader.draft in
    let new = c.read_line.new.draft in
    let s = state_of d in
    let here = current_same r1 r2 c.peek.ensures.same c.peek.ensures.stays in
    let no : c.is_skipped.result ≡ false = search rules in
    let skip : skipped (lead (tokens (current r1))) ≡ false = ap skipped (sym c.peek.ensures.value) ∙ sym c.is_skipped.ensures ∙ no in
    let k = line_ok (accept s (current r2)) (line_number r2) tt d new c.in_ok-read_line.ensures.taken in
    let line : line_number r3 ≡ line_number c.loop-reader.reader + 1 = c.read_line.ensures.same.counts ∙ c.peek.ensures.same.counts ∙ c.loop-reader-test.ensures.count refl in
    record {
      turn = at_place
          (took c.loop-reader.invariant.turn (current r1) (after r1) c.loop-reader-test.ensures.lines skip k.0 (ap (accept s) (sym here) ∙ k.1) (state_of new) (items_in new) k.2 k.3)
          (ap (λ n. n + 1) line)
          (after_same c.read_line.ensures.same ∙ after_same c.peek.ensures.same);
      short = subst (λ t. length t ≤ text_limit) (sym (c.read_line.ensures.same.text ∙ c.peek.ensures.same.text ∙ c.next_line.ensures.text)) c.loop-reader.invariant.short;
      sound = k.4;
    }

pub returns-then-not-is_done-clause-answered : goal.returns-then-not-is_done-clause-answered
returns-then-not-is_done-clause-answered c =
    let d = c.loop-reader.draft in
    let s = state_of d in
    let no : c.is_done.result ≡ false = search rules in
    let stays = c.loop-reader-test.ensures.same refl in
    lacking c.loop-reader.invariant.turn (Unit {0}) c.loop-reader-test.ensures.lines (sym c.is_done.ensures ∙ no) c.at.result (items_in d)
    (told_same c.at.result c.plain.result (plain BadEnd) (c.line.result + 1) (line_number c.loop-reader.reader + 1) c.letter.result s.letter c.at.ensures c.plain.ensures (ap (λ n. n + 1) (c.line.ensures ∙ stays.counts)) c.letter.ensures)

pub returns-clause-answered : goal.returns-clause-answered
returns-clause-answered c =
    let yes : c.is_done.result ≡ true = search rules in
    done c.loop-reader.invariant.turn tt c.loop-reader-test.ensures.lines (sym c.is_done.ensures ∙ yes)

pub returns-clause-done : goal.returns-clause-done
returns-clause-done c =
    let yes : c.is_done.result ≡ true = search rules in
    (sym c.is_done.ensures ∙ yes, c.loop-reader.invariant.sound)

use Rattle.std.proofs.Common.{drop, ap, ◌∙◌}
use Rattle.lexer.proofs.Scanning.{next_line, past_end}
use Rattle.lexer.proofs.reader.Reader.next_line.Goals as goal
use Rattle.lexer.proofs.reader.Reader.next_line.Goals.{then-end-text, else-end-text}

pub returns-clause-lines : goal.returns-clause-lines
returns-clause-lines c =
    let t = c.args.self.now.text.now in
    next_line t c.args.self.now.next c.until-end.result c.if-end-text.next c.if-start-text.false c.until-end.ensures.value
    (elim c.if-end-text.branch [ then-end-text w ↦ ap (λ k. drop k t) w.next-is | else-end-text w ↦ ap (λ k. drop k t) w.next-is ∙ past_end t c.until-end.result w.if-end-text.false ])

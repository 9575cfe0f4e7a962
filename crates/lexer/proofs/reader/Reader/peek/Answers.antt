use Rattle.lexer.proofs.Scanning.{leads_none, leads_some}
use Rattle.lexer.proofs.reader.Reader.peek.Goals as goal

pub returns-then-at-line-clause-value : goal.returns-then-at-line-clause-value
returns-then-at-line-clause-value c = leads_none c.args.self.now.text.now c.args.self.now.end c.args.self.now.cursor.place c.skip_spaces-guard.result c.skip_spaces-guard.ensures.value c.if-at-line.true

pub returns-clause-value : goal.returns-clause-value
returns-clause-value c = leads_some c.args.self.now.text.now c.args.self.now.end c.args.self.now.cursor.place c.skip_spaces-guard.result c.skip_spaces-guard.ensures.value c.if-at-line.false

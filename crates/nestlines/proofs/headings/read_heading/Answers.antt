use Rattle.std.proofs.Common.{rules}
use Rattle.lexer.specs.Scans.{left}
use Rattle.nestformat.specs.Items.{heading_line}
use Rattle.nestlines.proofs.Placed.{line_read}
use Rattle.nestlines.proofs.HeadingLines.{heading_judged}
use Rattle.nestlines.proofs.headings.read_heading.Goals as goal

pub returns-clause-told : goal.returns-clause-told
returns-clause-told c s = line_read heading_line _ _ _ _ _ (heading_judged s (left c.args.reader.now)) (search rules)

use Rattle.std.proofs.Common.{rules}
use Rattle.lexer.specs.Scans.{left}
use Rattle.nestformat.specs.Items.{contents_line}
use Rattle.nestlines.proofs.Placed.{line_read}
use Rattle.nestlines.proofs.EntryLines.{entry_judged}
use Rattle.nestlines.proofs.entries.read_entry.Goals as goal

pub returns-clause-told : goal.returns-clause-told
returns-clause-told c s h = line_read contents_line _ _ _ _ _ (entry_judged s (left c.args.reader.now)) (search rules)

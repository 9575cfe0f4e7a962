use Rattle.std.proofs.Common.{rules}
use Rattle.lexer.specs.Scans.{left}
use Rattle.nestformat.specs.Items.{body_line}
use Rattle.nestlines.proofs.Placed.{line_read}
use Rattle.nestlines.proofs.OpeningLines.{opening_judged}
use Rattle.nestlines.proofs.openings.read_opening.Goals as goal

pub returns-clause-told : goal.returns-clause-told
returns-clause-told c s e h k = line_read {T = Unit {0}} (λ _. body_line e.kind s.map) _ _ _ _ _ (opening_judged e s (left c.args.reader.now)) (search rules)

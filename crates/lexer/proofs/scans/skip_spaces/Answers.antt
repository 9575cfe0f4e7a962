use Rattle.std.proofs.Common.{arith}
use Rattle.std.proofs.lemmas.Bool.Decides.{nat_tests}
use Rattle.lexer.proofs.Scanning.{spaces_at, spaces_past}
use Rattle.lexer.proofs.scans.skip_spaces.Goals as goal

pub loop-at-preserved : goal.loop-at-preserved
loop-at-preserved c = let e = spaces_at c.args.line.now c.loop-at.at c.loop-at-test.true in grind (arith, nat_tests)

pub returns-else-line-at-eq32 : goal.returns-else-line-at-eq32
returns-else-line-at-eq32 c = let e = spaces_at c.args.line.now c.loop-at.at c.loop-at-test.true in grind (arith, nat_tests)

pub returns-after-loop-at : goal.returns-after-loop-at
returns-after-loop-at c = let e = spaces_past c.args.line.now c.loop-at.at c.loop-at-test.false in grind (arith, nat_tests)

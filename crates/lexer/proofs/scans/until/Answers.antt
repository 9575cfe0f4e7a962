use Rattle.std.proofs.Common.{arith}
use Rattle.std.proofs.lemmas.Bool.Decides.{nat_tests}
use Rattle.lexer.proofs.Scanning.{run_at, run_past}
use Rattle.lexer.proofs.scans.until.Goals as goal

pub loop-at-preserved : goal.loop-at-preserved
loop-at-preserved c = let e = run_at c.args.stop c.args.text.now c.loop-at.at c.loop-at-test.true in grind (arith, nat_tests)

pub returns-else-text-at : goal.returns-else-text-at
returns-else-text-at c = let e = run_at c.args.stop c.args.text.now c.loop-at.at c.loop-at-test.true in grind (arith, nat_tests)

pub returns-after-loop-at : goal.returns-after-loop-at
returns-after-loop-at c = let e = run_past c.args.stop c.args.text.now c.loop-at.at c.loop-at-test.false in grind (arith, nat_tests)

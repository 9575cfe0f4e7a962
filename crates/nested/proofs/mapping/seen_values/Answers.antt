use Rattle.std.proofs.Common.{arith}
use Rattle.nested.proofs.Searching.{none_seen, one_seen, all_front_seen}
use Rattle.nested.proofs.mapping.seen_values.Goals as goal

pub loop-i-init : goal.loop-i-init
loop-i-init c = none_seen c.args.map.now c.args.assignment.now

pub loop-i-preserved : goal.loop-i-preserved
loop-i-preserved c = one_seen c.args.map.now c.args.assignment.now c.loop-i.i c.loop-i.values _ (omega arith) c.value_of.ensures c.loop-i.invariant

pub returns-clause-long : goal.returns-clause-long
returns-clause-long c = c.loop-i.invariant.long

pub returns-clause-begins : goal.returns-clause-begins
returns-clause-begins c = all_front_seen c.args.map.now c.args.assignment.now c.loop-i.i c.loop-i.values c.loop-i-test.false (omega arith) c.loop-i.invariant

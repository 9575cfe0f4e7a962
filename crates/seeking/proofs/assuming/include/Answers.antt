use Rattle.std.proofs.Common.{length, rules}
use Rattle.seeking.proofs.Assumptions.{included, clashing_all}
use Rattle.seeking.proofs.assuming.include.Goals as goal

pub returns-then-assume-clause-included : goal.returns-then-assume-clause-included
returns-then-assume-clause-included g c = included _ _ c.args.assumed.now _ c.assume.new.assignment _ _ c.complete.result c.if-assume.ensures c.complete.ensures.completed

pub returns-clause-included : goal.returns-clause-included
returns-clause-included g c = clashing_all _ _ c.args.assumed.now _ (length c.args.reason.now) c.fill.new.self (search rules) c.if-assume.ensures

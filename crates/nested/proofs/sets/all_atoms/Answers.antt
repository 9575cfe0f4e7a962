use Rattle.std.proofs.Common.{arith, rules}
use Rattle.nested.proofs.SetLaws.{first_taken}
use Rattle.nested.proofs.sets.all_atoms.Goals as goal

pub returns-clause-atoms : goal.returns-clause-atoms
returns-clause-atoms c = first_taken c.loop-i.atom-items (λ i h. c.loop-i.invariant i (omega arith)) (search rules)

use Rattle.std.proofs.Common.{arith}
use Rattle.std.proofs.lemmas.Grind.{common_steps}
use Rattle.vetoes.proofs.Marking.{copied_leaves}
use Rattle.nested.proofs.nested.NestedVeto.examine.Goals as goal

pub returns-clause-reason : goal.returns-clause-reason
returns-clause-reason g c = grind (arith, common_steps, copied_leaves)

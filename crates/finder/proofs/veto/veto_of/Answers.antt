use Rattle.nestfile.specs.Problems.{told}
use Rattle.finder.proofs.Deciding.{meaning_decides}
use Rattle.finder.proofs.veto.veto_of.Goals as goal

pub returns-clause-meaning : goal.returns-clause-meaning
returns-clause-meaning c = c.all_of.ensures

pub returns-clause-decides : goal.returns-clause-decides
returns-clause-decides c = λ q. meaning_decides (told c.args.problem.now) _ c.all_of.ensures q

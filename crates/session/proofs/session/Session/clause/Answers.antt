use Rattle.std.proofs.Common.{refl, rules}
use Rattle.session.proofs.Keeping.{keeps_of, clause_keeps}
use Rattle.session.proofs.session.Session.clause.Goals as goal

pub returns-clause-keeps : goal.returns-clause-keeps
returns-clause-keeps g c = keeps_of (search rules) (clause_keeps _ c.in_ok-table.table.now _ c.add.ensures.atoms refl c.args.literals.now c.add.result refl refl c.add.ensures.refused c.add.ensures.clauses)

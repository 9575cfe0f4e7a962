use Rattle.std.proofs.Common.{refl, arith, rules}
use Rattle.session.proofs.Keeping.{keeps_of, open_keeps}
use Rattle.session.proofs.session.Session.open.Goals as goal

pub returns-clause-keeps : goal.returns-clause-keeps
returns-clause-keeps g c = keeps_of (search rules) (open_keeps _ c.in_ok-table.table.now _ refl refl c.counts.result c.counts.ensures.clauses c.counts.ensures.literals (search rules) (search rules) refl refl (omega arith))

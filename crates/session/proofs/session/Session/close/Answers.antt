use Rattle.std.proofs.Common.{◌-◌, refl, arith, rules}
use Rattle.session.proofs.Keeping.{keeps_of, close_keeps}
use Rattle.session.proofs.session.Session.close.Goals as goal

pub returns-clause-keeps : goal.returns-clause-keeps
returns-clause-keeps g c = keeps_of (search rules) (close_keeps _ c.in_ok-table.table.now _ c.cut_back.ensures.atoms (c.in_ok-table.table.now.opened - 1) (omega arith) c.cut_back.result c.cut_back.ensures.value c.cut_back.ensures.clauses refl refl refl)

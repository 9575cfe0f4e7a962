use Rattle.std.proofs.Common.{sym, arith}
use Rattle.nested.proofs.SetLaws.{too_many}
use Rattle.nested.proofs.sets.over_first.Goals as goal

pub returns-then-seen-gt-ATOM_LIMIT-clause-refused : goal.returns-then-seen-gt-ATOM_LIMIT-clause-refused
returns-then-seen-gt-ATOM_LIMIT-clause-refused g c = sym (too_many (g.V.Veto.means c.args.veto).reach c.args.seen c.args.own (omega arith))

use Rattle.std.proofs.Common.{length, sym, ap, ◌∙◌}
use Rattle.clauses.proofs.Fronts.{all_literals}
use Rattle.clauses.proofs.book.ClauseBook.counts.Goals as goal

pub returns-clause-literals : goal.returns-clause-literals
returns-clause-literals c = ap length c.as_slice-2.ensures ∙ sym (all_literals c.args.self.now)

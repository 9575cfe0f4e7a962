use Rattle.assignments.proofs.OrderLaws.{strict_total_order}
use Rattle.assignments.proofs.orders.precedes.Goals as goal

pub returns-then-l-r-clause-total : goal.returns-then-l-r-clause-total
returns-then-l-r-clause-total c = strict_total_order

pub returns-clause-total : goal.returns-clause-total
returns-clause-total c = strict_total_order

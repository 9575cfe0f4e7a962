use Rattle.std.proofs.Common.{◌≡◌, drop}
use Rattle.assignments.specs.Literals.{met, all_met}
use Rattle.clauses.specs.Stretches.{parts}
use Rattle.clauses.proofs.book.ClauseBook.is_met_by.Given as goal

abbrev pub invariant-clauses : goal.invariant-clauses
invariant-clauses l = all_met l.assignment (parts l.literals (drop l.stretch-index l.stretch-items)) ≡ all_met l.assignment (parts l.literals l.stretch-items)

abbrev pub invariant-loop-literal : goal.invariant-loop-literal
invariant-loop-literal l = met l.assignment (drop l.literal-index l.literal-items) ≡ met l.assignment l.literal-items

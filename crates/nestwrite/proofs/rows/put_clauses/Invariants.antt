use Rattle.std.proofs.Common.{◌≡◌}
use Rattle.clauses.specs.Books.{clauses_of}
use Rattle.clauses.specs.Listing.{left}
use Rattle.writing.specs.Texts.{joined}
use Rattle.writing.specs.Buffers.{held}
use Rattle.nestwrite.specs.Texts.{rows_text}
use Rattle.nestwrite.proofs.rows.put_clauses.Given as goal

abbrev pub invariant-loop-clause : goal.invariant-loop-clause
invariant-loop-clause l = joined (held l.out) (rows_text (left l.clause-iterator)) ≡ joined (held l.initial.out) (rows_text (clauses_of l.book))

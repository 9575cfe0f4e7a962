use Rattle.std.proofs.Common.{ap}
use Rattle.clauses.specs.Books.{clauses_of}
use Rattle.clauses.specs.Listing.{left}
use Rattle.writing.specs.Texts.{joined}
use Rattle.writing.specs.Buffers.{held}
use Rattle.nestwrite.specs.Texts.{row_text, rows_text}
use Rattle.nestwrite.proofs.Many.{next_put, put_all}
use Rattle.nestwrite.proofs.rows.put_clauses.Goals as goal

pub loop-clause-preserved : goal.loop-clause-preserved
loop-clause-preserved c =
    next_put row_text (joined (held c.args.out.now) (rows_text (clauses_of c.args.book.now))) (held c.loop-clause.out) (held c.put_row.new.self)
    (left c.loop-clause.clause-iterator) (left c.next.new.self) c.in-Some.clause.now c.in-Some.ensures.steps c.loop-clause.invariant c.put_row.ensures

pub returns : goal.returns
returns c =
    put_all c.loop-clause.out (joined (held c.args.out.now) (rows_text (clauses_of c.args.book.now))) (rows_text (left c.loop-clause.clause-iterator))
    (ap rows_text c.in-None.ensures.steps.0) c.loop-clause.invariant

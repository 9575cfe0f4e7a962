use Rattle.std.proofs.Common.{map, pos, decimal, ap, ◌∙◌}
use Rattle.tables.specs.Items.{entries}
use Rattle.clauses.specs.Books.{clauses_of}
use Rattle.writing.specs.Texts.{joined, ended, row_tokens}
use Rattle.writing.specs.Buffers.{held}
use Rattle.nestwrite.specs.Texts.{row_text, rows_text}
use Rattle.nestwrite.proofs.Wholes.{map_row, two_put, nest_put}
use Rattle.nestwrite.proofs.rows.put_nest.Goals as goal

pub returns-in-Some : goal.returns-in-Some
returns-in-Some c =
    let o = held c.args.out.now in
    let b = c.in-Some.body.now in
    let row = c.put_row.ensures ∙ ap (λ l. joined o (ended (row_tokens decimal l))) c.as_slice.ensures ∙ ap (joined o) (map_row (entries b.map)) in
    nest_put o (held c.put_clauses.new.out) c.args.nest c.in-Some.body c.in-Some.is
    (two_put o (held c.put_row.new.self) (held c.put_clauses.new.out) (row_text (map pos (entries b.map))) (rows_text (clauses_of b.book)) row c.put_clauses.ensures)

use Rattle.std.proofs.Common.{sym, ap, ◌∙◌}
use Rattle.std.specs.List.{flat_map}
use Rattle.writing.specs.Texts.{joined}
use Rattle.writing.specs.Buffers.{held}
use Rattle.nestwrite.specs.Texts.{row_text}
use Rattle.nestwrite.proofs.Many.{item_put, items_put, text_mapped}
use Rattle.nestwrite.proofs.rows.put_rows.Goals as goal

pub loop-row-preserved : goal.loop-row-preserved
loop-row-preserved g c =
    let a = joined (held c.args.out.now) (flat_map (λ x. row_text (g.R.FileRow.numbers x)) c.args.rows.now) in
    let row = c.put_to.ensures ∙ ap (λ x. joined (held c.loop-row.out) (row_text (g.R.FileRow.numbers x))) c.row-item.is in
    item_put (λ x. row_text (g.R.FileRow.numbers x)) a (held c.loop-row.out) (held c.put_to.new.out) c.args.rows.now c.loop-row.row-index c.row-item.result c.loop-row-test.true c.loop-row.invariant row

pub returns : goal.returns
returns g c =
    let a = joined (held c.args.out.now) (flat_map (λ x. row_text (g.R.FileRow.numbers x)) c.args.rows.now) in
    items_put (λ x. row_text (g.R.FileRow.numbers x)) c.loop-row.out a c.args.rows.now c.loop-row.row-index c.loop-row-test.false c.loop-row.invariant
    ∙ ap (joined (held c.args.out.now)) (sym (text_mapped row_text g.R.FileRow.numbers c.args.rows.now))

use Rattle.std.proofs.Common.{ap, ◌∙◌}
use Rattle.nestformat.specs.Items.{body_line}
use Rattle.writing.specs.Texts.{joined}
use Rattle.writing.specs.Buffers.{held}
use Rattle.nestwrite.specs.Texts.{line_text, kind_rows, rows_text}
use Rattle.nestwrite.proofs.Wholes.{two_put}
use Rattle.nestwrite.proofs.problems.put_body.Goals as goal

pub returns : goal.returns
returns c =
    let o = held c.args.out.now in
    let h = c.args.problem.now in
    let k = c.args.kind in
    let line = c.put_body_line.ensures ∙ ap (λ m. joined o (line_text (body_line k m))) c.map.ensures in
    two_put o (held c.put_body_line.new.self) (held c.put_body_rows.new.out) (line_text (body_line k h.parts.map)) (rows_text (kind_rows h k)) line c.put_body_rows.ensures

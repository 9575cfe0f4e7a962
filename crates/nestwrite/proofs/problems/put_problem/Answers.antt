use Rattle.std.proofs.Common.{length, ap, ◌∙◌}
use Rattle.std.specs.List.{flat_map}
use Rattle.nestformat.specs.Items.{heading_line}
use Rattle.writing.specs.Texts.{joined}
use Rattle.writing.specs.Buffers.{held}
use Rattle.nestwrite.specs.Texts.{line_text, contents_text, entry_text}
use Rattle.nestwrite.proofs.Wholes.{parts_are, three_put}
use Rattle.nestwrite.proofs.problems.put_problem.Goals as goal

pub returns : goal.returns
returns c =
    let o = held c.args.out.now in
    let h = c.args.problem.now in
    let cs = c.contents-entries.result.now in
    let head = c.put_heading.ensures ∙ ap (λ m. joined o (line_text (heading_line (record { map = m; bodies = length cs })))) c.map.ensures in
    three_put o (held c.put_heading.new.self) (held c.put_contents.new.out) (held c.put_bodies.new.out)
    (line_text (heading_line (record { map = h.parts.map; bodies = length cs }))) (flat_map contents_text cs) (flat_map (entry_text h) cs)
    head c.put_contents.ensures c.put_bodies.ensures
    ∙ ap (joined o) (parts_are h cs c.contents-entries.ensures)

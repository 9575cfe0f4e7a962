use Rattle.std.proofs.Common.{sym, ap, ◌∙◌}
use Rattle.nestformat.specs.declared.kinds.BodyKind.TheVariants.{Nest, Below}
use Rattle.nestfile.specs.Problems.{told}
use Rattle.writing.specs.Texts.{joined}
use Rattle.writing.specs.Buffers.{held}
use Rattle.writing.proofs.Joining.{joined_none}
use Rattle.nestwrite.specs.Texts.{kind_rows, rows_text}
use Rattle.nestwrite.proofs.Wholes.{lent_put}
use Rattle.nestwrite.proofs.problems.put_body_rows.Goals as goal

pub returns-in-Nest : goal.returns-in-Nest
returns-in-Nest c =
    let o = held c.args.out.now in
    let h = c.args.problem.now in
    lent_put o (held c.put_nest.new.out) c.nest.result Nest (told h).bodies (joined_none c.args.out.now) c.nest.ensures.there c.nest.ensures.rows c.put_nest.ensures
    ∙ ap (λ k. joined o (rows_text (kind_rows h k))) (sym c.in-Nest.is)

pub returns-in-Below : goal.returns-in-Below
returns-in-Below c =
    let o = held c.args.out.now in
    let h = c.args.problem.now in
    lent_put o (held c.put_nest-in-Below.new.out) c.below.result Below (told h).bodies (joined_none c.args.out.now) c.below.ensures.there c.below.ensures.rows c.put_nest-in-Below.ensures
    ∙ ap (λ k. joined o (rows_text (kind_rows h k))) (sym c.in-Below.is)

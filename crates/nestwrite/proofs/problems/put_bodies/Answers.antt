use Rattle.std.specs.List.{flat_map}
use Rattle.writing.specs.Texts.{joined}
use Rattle.writing.specs.Buffers.{held}
use Rattle.nestwrite.specs.Texts.{entry_text}
use Rattle.nestwrite.proofs.Many.{item_put, items_put}
use Rattle.nestwrite.proofs.problems.put_bodies.Goals as goal

pub loop-entry-preserved : goal.loop-entry-preserved
loop-entry-preserved c =
    let f = entry_text c.args.problem.now in
    item_put f (joined (held c.args.out.now) (flat_map f c.args.entries.now)) (held c.loop-entry.out) (held c.put_body.new.out)
    c.args.entries.now c.loop-entry.entry-index _ c.loop-entry-test.true c.loop-entry.invariant c.put_body.ensures

pub returns : goal.returns
returns c =
    let f = entry_text c.args.problem.now in
    items_put f c.loop-entry.out (joined (held c.args.out.now) (flat_map f c.args.entries.now))
    c.args.entries.now c.loop-entry.entry-index c.loop-entry-test.false c.loop-entry.invariant

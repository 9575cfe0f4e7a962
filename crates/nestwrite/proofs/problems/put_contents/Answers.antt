use Rattle.std.specs.List.{flat_map}
use Rattle.writing.specs.Texts.{joined}
use Rattle.writing.specs.Buffers.{held}
use Rattle.nestwrite.specs.Texts.{contents_text}
use Rattle.nestwrite.proofs.Many.{item_put, items_put}
use Rattle.nestwrite.proofs.problems.put_contents.Goals as goal

pub loop-entry-preserved : goal.loop-entry-preserved
loop-entry-preserved c =
    item_put contents_text (joined (held c.args.out.now) (flat_map contents_text c.args.entries.now)) (held c.loop-entry.out) (held c.put_contents.new.self)
    c.args.entries.now c.loop-entry.entry-index _ c.loop-entry-test.true c.loop-entry.invariant c.put_contents.ensures

pub returns : goal.returns
returns c =
    items_put contents_text c.loop-entry.out (joined (held c.args.out.now) (flat_map contents_text c.args.entries.now))
    c.args.entries.now c.loop-entry.entry-index c.loop-entry-test.false c.loop-entry.invariant

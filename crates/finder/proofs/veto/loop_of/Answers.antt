use Rattle.finder.proofs.Told.{owned_is, loop_is}
use Rattle.finder.proofs.veto.loop_of.Goals as goal

pub returns : goal.returns
returns c = loop_is _ c.arcs.result.now _ (owned_is c.new.result.arcs c.copied.result _ c.new.ensures.arcs c.copied.ensures) c.arcs.ensures.rows

use Rattle.std.proofs.Common.{ap₂}
use Rattle.vetoes.specs.Meaning.{either}
use Rattle.finder.proofs.veto.all_of.Goals as goal

pub returns : goal.returns
returns c = rw (c.new.ensures.left, c.new.ensures.right) (ap₂ either c.nests_of.ensures c.others_of.ensures)

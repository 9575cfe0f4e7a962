use Rattle.std.proofs.Common.{arith}
use Rattle.std.proofs.lemmas.Int.{to_z-of_z}
use Rattle.listing.proofs.Signs.{literals_pushed}
use Rattle.listing.proofs.literals.literals_of.Goals as goal

pub loop-place-preserved : goal.loop-place-preserved
loop-place-preserved c = literals_pushed c.args.assignment.now c.loop-place.place 0 _ _ _ _ _ c.loop-place-test.true c.requires (grind (arith, to_z-of_z)) c.loop-place.invariant c.push.ensures.value c.push.ensures.items

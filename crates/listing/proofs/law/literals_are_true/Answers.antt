use Rattle.listing.proofs.Signs.{true_literals}
use Rattle.listing.proofs.law.literals_are_true.Goals as goal

pub returns : goal.returns
returns c = true_literals

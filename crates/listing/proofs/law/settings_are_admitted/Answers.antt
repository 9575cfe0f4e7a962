use Rattle.listing.proofs.Assigning.{admitted_ascending}
use Rattle.listing.proofs.law.settings_are_admitted.Goals as goal

pub returns : goal.returns
returns c = admitted_ascending

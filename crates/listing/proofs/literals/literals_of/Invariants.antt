use Rattle.std.proofs.Common.{◌≡◌, take}
use Rattle.tables.specs.Items.{entries}
use Rattle.listing.specs.Settings.{literals}
use Rattle.listing.proofs.literals.literals_of.Given as goal

abbrev pub invariant-loop-place : goal.invariant-loop-place
invariant-loop-place l = entries l.literals ≡ literals (take l.place l.assignment)

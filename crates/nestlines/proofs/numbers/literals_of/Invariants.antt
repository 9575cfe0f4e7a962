use Rattle.std.proofs.Common.{◌≡◌, take}
use Rattle.tables.specs.Items.{entries}
use Rattle.nestlines.proofs.numbers.literals_of.Given as goal

abbrev pub invariant-loop-number : goal.invariant-loop-number
invariant-loop-number l = entries l.literals ≡ take l.number-index l.numbers

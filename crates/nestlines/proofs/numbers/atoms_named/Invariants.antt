use Rattle.std.proofs.Common.{◌≡◌, take, map, pos}
use Rattle.tables.specs.Items.{entries}
use Rattle.nestlines.proofs.numbers.atoms_named.Given as goal

abbrev pub invariant-loop-number : goal.invariant-loop-number
invariant-loop-number l = map pos (entries l.named) ≡ take l.number-index l.numbers

use Rattle.std.proofs.Common.{◌≡◌, ℕ, ◌%◌, arith}
use Rattle.std.specs.Int.Bits.{bit_or, or_step}
use Rattle.random.proofs.Random.new.Goals as goal

-- an `|` with 1 sets the lowest bit
or_one : (a : ℕ) → bit_or a 1 % 2 ≡ 1
or_one a = grind (arith, or_step a 1)

pub returns-clause-odd : goal.returns-clause-odd
returns-clause-odd c = or_one _

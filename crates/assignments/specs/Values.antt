-- The byte of each value. Assumes nothing.
use Rattle.std.specs.Prelude.{ℕ, Bool, true, false, Option, Some, None}

abbrev pub byte_of : Option Bool → ℕ
byte_of (Some false) = 0
byte_of (Some true) = 1
byte_of None = 2

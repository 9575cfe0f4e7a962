-- A literal by the place of its atom and the value that makes it true. Assumes nothing.
use Rattle.std.specs.Prelude.{ℕ, pred, ℤ, pos, negsuc}

-- literal 0, which is never true, is given place 0
abbrev pub place : ℤ → ℕ
place (pos n) = pred n
place (negsuc i) = i

abbrev pub wanted : ℤ → ℕ
wanted (pos n) = 1
wanted (negsuc i) = 0

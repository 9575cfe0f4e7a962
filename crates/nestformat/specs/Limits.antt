-- Limits of the format that the definitions cite, and ranges of numbers. Assumes nothing.
use Rattle.std.specs.Prelude.{ℕ, Bool, ◌&&◌, ℤ, pos, negsuc, false, nat_le}

abbrev pub text_limit : ℕ
text_limit = 60000

abbrev pub map_limit : ℕ
map_limit = 9999

abbrev pub body_limit : ℕ
body_limit = 6

abbrev pub clause_row_limit : ℕ
clause_row_limit = 500

abbrev pub row_limit : ℕ
row_limit = 400

-- the largest limits of a contents line
abbrev pub milliampere_limit : ℕ
milliampere_limit = 1000000

abbrev pub line_limit : ℕ
line_limit = 16

-- the largest loads of a row
abbrev pub milliampere_load_limit : ℕ
milliampere_load_limit = 60000

abbrev pub line_load_limit : ℕ
line_load_limit = 65535

-- the numbers from low to high
pub record Range : Type 0 where
  pub low : ℕ
  pub high : ℕ

abbrev pub from_to : ℕ → ℕ → Range
from_to low high = record { low = low; high = high }

abbrev pub within : Range → ℕ → Bool
within r n = nat_le r.low n && nat_le n r.high

-- not negative, and within the range
abbrev pub positive_within : Range → ℤ → Bool
positive_within r (pos n) = within r n
positive_within r (negsuc n) = false

-- The two load kinds: milliamperes and controller lines. Assumes nothing.
use Rattle.std.specs.Prelude.{ℕ, ◌+◌, min, Bool, bit_or, count_ones, nat_lt}

-- the largest number of 32 bits
abbrev pub most : ℕ
most = 4294967295

-- milliamperes add up and stop at the largest number
abbrev pub sum : ℕ → ℕ → ℕ
sum x y = min (x + y) most

-- a total is over when it is greater than the limit; a number is read as 32 bits hold it
abbrev pub more : ℕ → ℕ → Bool
more limit x = nat_lt limit (min x most)

-- lines join by union of the sets
abbrev pub union : ℕ → ℕ → ℕ
union x y = bit_or x y

-- a set is over when it has more lines than the limit has
abbrev pub wider : ℕ → ℕ → Bool
wider limit x = nat_lt (count_ones limit) (count_ones x)

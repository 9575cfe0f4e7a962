-- Tokens that are numbers. Assumes nothing.
use Rattle.std.specs.Prelude.{ℕ, Bool, cond, ◌&&◌, List, drop, ℤ, pos, neg_ℤ, Some, None, decimal, Option, ◌==◌, nat_le, nat_lt, ◌-◌, length, slice_index, unsigned_abs}
use Rattle.std.specs.List.{list_all}
use Rattle.std.specs.Str.Parse.{digits_value}
use Rattle.std.specs.Fmt.{signed_decimal}
use Rattle.std.specs.Str.{bytes_eq}

-- numbers go up to it, either way
abbrev pub number_limit : ℕ
number_limit = 1000000

-- the number that a token writes, if it writes one
abbrev pub reads : List ℕ → ℤ
reads t = cond (slice_index t 0 == 45) (neg_ℤ (pos (digits_value 10 (drop 1 t)))) (pos (digits_value 10 t))

-- a token is a number where it is what is written of one within the limit: so no needless zero and no -0
abbrev pub is_number : List ℕ → Bool
is_number t = bytes_eq t (signed_decimal (reads t)) && nat_le (unsigned_abs (reads t)) number_limit

abbrev pub number : List ℕ → Option ℤ
number t = cond (is_number t) (Some (reads t)) None

-- the same without a sign
abbrev pub is_magnitude : List ℕ → Bool
is_magnitude t = bytes_eq t (decimal (digits_value 10 t)) && nat_le (digits_value 10 t) number_limit

abbrev pub magnitude : List ℕ → Option ℕ
magnitude t = cond (is_magnitude t) (Some (digits_value 10 t)) None

-- the value of a digit
abbrev pub digit : ℕ → Option ℕ
digit b = cond (nat_le 48 b && nat_le b 57) (Some (b - 48)) None

-- a zero stands before other digits
abbrev pub padded : List ℕ → Bool
padded ds = nat_lt 1 (length ds) && slice_index ds 0 == 48

abbrev pub all_numbers : List (List ℕ) → Bool
all_numbers ts = list_all is_number ts

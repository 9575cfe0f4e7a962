-- The xorshift generator of 64 bits with the shifts 13, 7 and 17, and the numbers drawn from it. Assumes nothing.
use Rattle.std.specs.Prelude.{ℕ, ◌*◌, ◌/◌, ◌%◌, ◌^◌, cond, nat_eq, bit_xor}

-- the word with itself, shifted up or down by k bits, added without carry
abbrev pub folded_up : ℕ → ℕ → ℕ
folded_up k x = bit_xor x (x * 2 ^ k % 2 ^ 64)

abbrev pub folded_down : ℕ → ℕ → ℕ
folded_down k x = bit_xor x (x / 2 ^ k)

-- the state after a step
abbrev pub after : ℕ → ℕ
after x = folded_up 17 (folded_down 7 (folded_up 13 x))

-- the number below the bound that a step from the state gives: the remainder of the new state's high bits, or 0 at the bound 0
abbrev pub drawn : ℕ → ℕ → ℕ
drawn bound x = cond (nat_eq bound 0) 0 (after x / 2 ^ 33 % bound)

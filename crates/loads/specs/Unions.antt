-- Union of sets of lines: associative, and it loses no line. Assumes nothing.
use Rattle.std.specs.Prelude.{◌≡◌, ℕ, ◌+◌, ◌*◌, ◌/◌, ◌%◌, ◌≤◌, max, bit_or, count_ones, refl}
use Rattle.std.proofs.Common.{ap, arith, lit<}
use Rattle.std.proofs.Math.Arith.{bin_ind}
use Rattle.std.specs.Int.Bits.{or_step}
use Rattle.std.proofs.lemmas.Nat.{or_shr, ones-le}
use Rattle.std.specs.Int.Count.{ones_step}

low : (a b : ℕ) → bit_or a b % 2 ≡ max (a % 2) (b % 2)
low a b = omega (arith, or_step a b)

left : (a b c : ℕ) → bit_or (bit_or a b) c ≡ bit_or (bit_or (a / 2) (b / 2)) (c / 2) * 2 + max (max (a % 2) (b % 2)) (c % 2)
left a b c = rw (← low a b, ← or_shr a b 1) (or_step (bit_or a b) c)

right : (a b c : ℕ) → bit_or a (bit_or b c) ≡ bit_or (a / 2) (bit_or (b / 2) (c / 2)) * 2 + max (a % 2) (max (b % 2) (c % 2))
right a b c = rw (← low b c, ← or_shr b c 1) (or_step a (bit_or b c))

pub or_assoc : (a b c : ℕ) → bit_or (bit_or a b) c ≡ bit_or a (bit_or b c)
or_assoc =
    bin_ind (λ n. (b c : ℕ) → bit_or (bit_or n b) c ≡ bit_or n (bit_or b c)) (λ b c. refl)
    (λ n ih b c. omega (arith, left n b c, right n b c, ih (b / 2) (c / 2)))

pub ones_or : (a b : ℕ) → count_ones a ≤ count_ones (bit_or a b)
ones_or =
    bin_ind (λ n. (b : ℕ) → count_ones n ≤ count_ones (bit_or n b)) (λ b. omega (arith, ones-le 0 0 (lit< tt)))
    (λ n ih b. omega (arith, ones_step n, ones_step (bit_or n b), ap count_ones (or_shr n b 1), low n b, ih (b / 2)))

-- A literal by its place and the value that it wants. Assumes nothing.
use Rattle.std.proofs.Common.{◌≡◌, ℕ, zero, suc, ◌<◌, ◌≤◌, Bool, true, false, cond, eqb, nat_lt, Some, None, List, ℤ, pos, negsuc, nat_abs, refl, ap, arith}
use Rattle.std.proofs.lemmas.Bool.Decides.{nat_tests}
use Rattle.assignments.specs.Assignments.{at}
use Rattle.assignments.specs.Literals.{true_at, place_in}
use Rattle.propagation.specs.Literals.{place, wanted}

abbrev pub Real : ℤ → Type 0
Real z = z ≡ pos 0 → ⊥

pub true_is : (q : List ℕ) (z : ℤ) → Real z → true_at q z ≡ eqb (at q (place z)) (wanted z)
true_is q (pos zero) r = absurd (r refl)
true_is q (pos (suc i)) r = refl
true_is q (negsuc i) r = refl

pub wanted_bit : (z : ℤ) → wanted z < 2
wanted_bit (pos n) = omega arith
wanted_bit (negsuc i) = omega arith

-- the literal names one of the first n atoms, which stands at the place i
pub record Placed (n : ℕ) (z : ℤ) (i : ℕ) : Type 0 where
  pub real : Real z
  pub here : i ≡ place z
  pub within : i < n

chosen : (b : Bool) (i k : ℕ) → Some i ≡ cond b (Some k) None → (b ≡ true) × (i ≡ k)
chosen true i k e = (refl, cc)
chosen false i k e = absurd cc

pub placed : (n : ℕ) (z : ℤ) (i : ℕ) → Some i ≡ place_in n z → Placed n z i
placed n (pos zero) i e = absurd cc
placed n (pos (suc k)) i e = let h = chosen (nat_lt k n) i k e in record { real = λ x. omega (arith, ap nat_abs x); here = h.1; within = grind (arith, nat_tests) }
placed n (negsuc k) i e = let h = chosen (nat_lt k n) i k e in record { real = λ x. omega (arith, ap nat_abs x); here = h.1; within = grind (arith, nat_tests) }

passed : (n k : ℕ) → None ≡ cond (nat_lt k n) (Some k) None → n ≤ k
passed n k e = grind (arith, nat_tests)

-- a literal that is 0, or names none of the first n atoms
pub none_in : (n : ℕ) (z : ℤ) → None ≡ place_in n z → Real z → place z < n → ⊥
none_in n (pos zero) e r h = r refl
none_in n (pos (suc i)) e r h = let y = passed n i e in omega arith
none_in n (negsuc i) e r h = let y = passed n i e in omega arith

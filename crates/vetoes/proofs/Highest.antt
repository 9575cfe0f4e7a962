-- The highest atom that counts. Assumes nothing.
use Rattle.std.proofs.Common.{◌≡◌, ℕ, zero, suc, ◌<◌, ◌≤◌, max, List, [], ◌∷◌, length, get_or, fold, refl, le_of_suc-le-suc, not-suc-le-zero, arith}
use Rattle.assignments.specs.Assignments.{at, atom}
use Rattle.vetoes.specs.Counted.{highest_of}

module _ {X : Type 0} (f : X → ℕ) where
  -- the fold of the program, from any start
  pub highest_fold : (xs : List X) (t : ℕ) → fold (λ n x. max n (f x)) t xs ≡ max t (highest_of f xs)
  highest_fold [] t = omega arith
  highest_fold (x ∷ xs) t = let r = highest_fold xs (max t (f x)) in omega arith

  pub highest_over : (xs : List X) (i : ℕ) (d : X) → i < length xs → f (get_or xs i d) ≤ highest_of f xs
  highest_over [] i d h = absurd (not-suc-le-zero h)
  highest_over (x ∷ xs) zero d h = omega arith
  highest_over (x ∷ xs) (suc i) d h = let r = highest_over xs i d (le_of_suc-le-suc h) in omega arith

  pub highest_few : (m : ℕ) → ((x : X) → f x ≤ m) → (xs : List X) → highest_of f xs ≤ m
  highest_few m few [] = omega arith
  highest_few m few (x ∷ xs) = let a = few x in let b = highest_few m few xs in omega arith

-- two assignments that agree up to n agree at atom a
pub atom_near : (p q : List ℕ) (n a : ℕ) → ((i : ℕ) → i < n → at p i ≡ at q i) → a ≤ n → atom p a ≡ atom q a
atom_near p q n zero same h = refl
atom_near p q n (suc i) same h = same i (omega arith)

-- The assignments that a veto leaves, as a set. Assumes nothing.
use Rattle.std.specs.Prelude.{◌≡◌, ℕ, false, List}
use Rattle.assignments.specs.Assignments.{Complete}
use Rattle.vetoes.specs.Meaning.{Meaning}

-- p is complete with n bytes, and the veto is silent there
pub record Solution (m : Meaning) (n : ℕ) (p : List ℕ) : Type 0 where
  pub complete : Complete n p
  pub silent : m.speaks p ≡ false

-- a set of assignments, by their number of atoms
abbrev pub Assignments : Type 1
Assignments = ℕ → List ℕ → Type 0

-- the first set is the intersection of the others
pub record Intersection (s a b : Assignments) : Type 0 where
  pub both : (n : ℕ) (p : List ℕ) → s n p → a n p × b n p
  pub whole : (n : ℕ) (p : List ℕ) → a n p → b n p → s n p

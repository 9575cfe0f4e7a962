-- What extends a partial assignment whose places before `from` are frozen. Assumes nothing.
use Rattle.std.specs.Prelude.{◌≡◌, ℕ, ◌<◌, List, length}
use Rattle.assignments.specs.Assignments.{at}

-- q is as long as p, has p's known values, and before `from` nothing else
pub record Extends (from : ℕ) (p q : List ℕ) : Type 0 where
  pub long : length q ≡ length p
  pub fixed : (i : ℕ) → i < from → at q i ≡ at p i
  pub keeps : (i : ℕ) → at p i < 2 → at q i ≡ at p i

-- Ticks that are added. Assumes nothing.
use Rattle.std.specs.Prelude.{◌≡◌, ℕ, ◌<◌, ◌⊎◌, List, get_or, ℤ, pos, slice_index, slice_index_or}
use Rattle.assignments.specs.Assignments.{at}
use Rattle.propagation.specs.Literals.{place}

-- u ticks what t does and the places of N, and nothing else
pub record Adds (N : ℕ → Type 0) (t u : List ℕ) : Type 0 where
  pub grows : (i : ℕ) → slice_index t i ≡ 1 → slice_index u i ≡ 1
  pub all : (i : ℕ) → N i → slice_index u i ≡ 1
  pub only : (i : ℕ) → (slice_index u i ≡ slice_index t i) ⊎ ((slice_index u i ≡ 1) × N i)

-- the atom at the place i is known, and one of the first j literals of c, which is not 0, names it
pub record Named (p : List ℕ) (c : List ℤ) (j i : ℕ) : Type 0 where
  pub known : at p i < 2
  pub spot : ℕ
  pub within : spot < j
  pub real : get_or c spot (pos 0) ≡ pos 0 → ⊥
  pub here : place (slice_index_or c spot (pos 0)) ≡ i

-- the place i has N, and lies before the end n
pub record Inside (n : ℕ) (N : ℕ → Type 0) (i : ℕ) : Type 0 where
  pub below : i < n
  pub has : N i

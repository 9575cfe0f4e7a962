-- What names an atom or does not count: f gives the atom, or 0. Assumes nothing.
use Rattle.std.specs.Prelude.{ℕ, max, Bool, List, [], ◌∷◌, ◌==◌}
use Rattle.assignments.specs.Assignments.{atom}

module _ {X : Type 0} (f : X → ℕ) where
  -- the highest atom that counts
  abbrev pub highest_of : List X → ℕ
  highest_of [] = 0
  highest_of (x ∷ xs) = max (f x) (highest_of xs)

  -- x counts, and its atom is true at p
  abbrev pub live : List ℕ → X → Bool
  live p x = atom p (f x) == 1

-- What a veto means, and the laws that bind it. Assumes nothing.
use Rattle.std.specs.Prelude.{◌≡◌, ℕ, ◌<◌, ◌≤◌, max, Bool, true, false, ◌||◌, List}
use Rattle.assignments.specs.Assignments.{at, Part}
use Rattle.assignments.specs.Limits.{atom_limit}

-- a reach, and the assignments at which the veto speaks
pub record Meaning : Type 0 where
  pub reach : ℕ
  pub speaks : List ℕ → Bool

pub record Lawful (m : Meaning) : Type 0 where
  -- the reach is an atom's number, or 0
  pub few : m.reach ≤ atom_limit
  -- only atoms up to the reach matter; atom i + 1 stands at place i
  pub near : (p q : List ℕ) → ((i : ℕ) → i < m.reach → at p i ≡ at q i) → m.speaks p ≡ m.speaks q
  -- it goes on speaking when more becomes known
  pub grows : (p q : List ℕ) → Part p q → m.speaks p ≡ true → m.speaks q ≡ true

abbrev pub silent : Meaning
silent = record { reach = 0; speaks = λ _. false }

abbrev pub either : Meaning → Meaning → Meaning
either m n = record { reach = max m.reach n.reach; speaks = λ p. m.speaks p || n.speaks p }

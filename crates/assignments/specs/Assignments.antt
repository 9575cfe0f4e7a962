-- Assignments as lists of bytes. Assumes nothing.
use Rattle.std.specs.Prelude.{◌≡◌, ℕ, zero, suc, ◌<◌, min, List, length, slice_index_or}

-- the value at place i, where atom i + 1 stands: 0 false, 1 true, 2 unknown. Any other byte, and what is past the end, is unknown
abbrev pub at : List ℕ → ℕ → ℕ
at p i = min (slice_index_or p i 2) 2

-- the value of atom a. Atoms are numbered from 1: atom 0 is none, and unknown
abbrev pub atom : List ℕ → ℕ → ℕ
atom p zero = 2
atom p (suc i) = at p i

-- p is part of q: q has every known value of p
pub record Part (p q : List ℕ) : Type 0 where
  pub keeps : (i : ℕ) → at p i < 2 → at q i ≡ at p i

-- q has n bytes, and each is a value
pub record Complete (n : ℕ) (q : List ℕ) : Type 0 where
  pub long : length q ≡ n
  pub known : (i : ℕ) → i < n → at q i < 2

-- p comes before q: it has 0 and q has 1 at the first place where they differ
pub record Less (p q : List ℕ) : Type 0 where
  pub place : ℕ
  pub same : (i : ℕ) → i < place → at p i ≡ at q i
  pub low : at p place ≡ 0
  pub high : at q place ≡ 1

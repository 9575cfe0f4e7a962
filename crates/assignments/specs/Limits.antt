-- Limits that the contracts cite. Assumes nothing.
use Rattle.std.specs.Prelude.{ℕ}

-- atoms are numbered from 1 to this limit
abbrev pub atom_limit : ℕ
atom_limit = 200

-- Limits that the contracts cite. Assumes nothing.
use Rattle.std.specs.Prelude.{ℕ}

-- signals are numbered from 1 to this limit
abbrev pub signal_limit : ℕ
signal_limit = 64

-- a table over the signals has a place for each, and place 0 for none
abbrev pub places : ℕ
places = 65

-- Limits of a book that the contracts cite. Assumes nothing.
use Rattle.std.specs.Prelude.{ℕ}

abbrev pub clause_limit : ℕ
clause_limit = 400

abbrev pub literal_limit : ℕ
literal_limit = 2000

-- The plan that a nest holds. Assumes nothing.
use Rattle.std.specs.Prelude.{◌-◌, length, Option, Some, None}
use Rattle.tables.specs.Items.{entries}
use Rattle.clauses.specs.Books.{atoms_of, clauses_of}
use Rattle.nested.specs.declared.shape.Shape.{Shape}
use Rattle.nested.specs.Nests.{Plan}

-- the atoms of the book that follow the seen ones are the nest's own
abbrev pub plan_in : Shape → Plan
plan_in s = record { map = entries s.map; own = atoms_of s.book - length (entries s.map); clauses = clauses_of s.book }

abbrev pub plan_of : Option Shape → Option Plan
plan_of None = None
plan_of (Some s) = Some (plan_in s)

-- What a book means: its number of atoms, and the list of its clauses. Assumes nothing.
use Rattle.std.specs.Prelude.{ℕ, List, ℤ}
use Rattle.tables.specs.Items.{entries}
use Rattle.clauses.specs.declared.book.ClauseBook.{ClauseBook}
use Rattle.clauses.specs.Stretches.{parts}

abbrev pub atoms_of : ClauseBook → ℕ
atoms_of b = b.atoms

abbrev pub clauses_of : ClauseBook → List (List ℤ)
clauses_of b = parts (entries b.literals) (entries b.stretches)

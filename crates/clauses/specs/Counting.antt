-- How many clauses and literals there are, as text. Assumes nothing.
use Rattle.std.specs.Prelude.{ℕ, List, ◌++◌, codes}
use Rattle.std.specs.Fmt.{decimal}
use Rattle.clauses.specs.declared.stretch.Counts.{Counts}

abbrev pub counts_text : Counts → List ℕ
counts_text c = decimal c.clauses ++ codes " clauses, " ++ decimal c.literals ++ codes " literals"

-- The session of a problem. Assumes nothing.
use Rattle.std.specs.Prelude.{ℕ, List, [], ℤ, Some}
use Rattle.ledgers.specs.Ledger.{Ledger, before_first}
use Rattle.nestformat.specs.Items.{Problem}
use Rattle.finder.specs.Bodies.{atoms_of, clauses_of}

-- so many atoms, the clauses held, no scope open, nothing handed out
abbrev pub started : ℕ → List (List ℤ) → Ledger
started n cs = record { size = Some n; held = cs; scopes = []; position = before_first; handed = [] }

abbrev pub file_ledger : Problem → Ledger
file_ledger p = started (atoms_of p) (clauses_of p)

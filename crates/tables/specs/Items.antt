-- What a table holds. Assumes nothing.
use Rattle.std.specs.Prelude.{ℕ, List, take}
use Rattle.tables.specs.declared.Table.{Table}

module _ {T : Type 0} {N : ℕ} where
  abbrev pub entries : Table T N → List T
  entries t = take t.len t.items

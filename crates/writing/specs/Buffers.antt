-- What a text in the making holds. Assumes nothing.
use Rattle.std.specs.Prelude.{ℕ, List}
use Rattle.tables.specs.Items.{entries}
use Rattle.writing.specs.declared.TextOut.{TextOut}

abbrev pub held : TextOut → List ℕ
held o = entries o.bytes

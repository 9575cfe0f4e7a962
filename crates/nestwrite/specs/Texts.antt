-- Lines of a problem as bytes, in the words of the functions that put them. Assumes nothing.
use Rattle.std.specs.Prelude.{ℕ, List, ◌++◌, ℤ, flat_map}
use Rattle.nestformat.specs.declared.kinds.BodyKind.{BodyKind}
use Rattle.nestformat.specs.declared.kinds.Contents.{Contents}
use Rattle.nestformat.specs.Items.{Item, contents_line, body_line, row_line, item_line}
use Rattle.nestformat.specs.Bodies.{rows_at}
use Rattle.nestfile.specs.declared.Problem.{Problem as Held}
use Rattle.nestfile.specs.Problems.{told}
use Rattle.writing.specs.Texts.{ended}

abbrev pub line_text : Item → List ℕ
line_text it = ended (item_line it)

abbrev pub contents_text : Contents → List ℕ
contents_text e = line_text (contents_line e)

abbrev pub row_text : List ℤ → List ℕ
row_text zs = line_text (row_line zs)

abbrev pub rows_text : List (List ℤ) → List ℕ
rows_text rs = flat_map row_text rs

abbrev pub kind_rows : Held → BodyKind → List (List ℤ)
kind_rows h k = rows_at k (told h).bodies

-- the body line of the kind, and the rows
abbrev pub body_text : Held → BodyKind → List ℕ
body_text h k = line_text (body_line k (told h).map) ++ rows_text (kind_rows h k)

abbrev pub entry_text : Held → Contents → List ℕ
entry_text h e = body_text h e.kind

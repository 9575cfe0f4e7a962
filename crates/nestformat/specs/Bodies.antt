-- The bodies of a problem by their kinds. Assumes nothing.
use Rattle.std.specs.Prelude.{cond, List, [], ◌∷◌, ℤ, Option, Some, None}
use Rattle.nestformat.specs.declared.kinds.BodyKind.{BodyKind}
use Rattle.nestformat.specs.Kinds.{same_kind}
use Rattle.nestformat.specs.Items.{Body}

-- the body of a kind, if there is one
abbrev pub body_at : BodyKind → List Body → Option Body
body_at k [] = None
body_at k (b ∷ bs) = cond (same_kind k b.contents.kind) (Some b) (body_at k bs)

abbrev pub rows_in : Option Body → List (List ℤ)
rows_in None = []
rows_in (Some b) = b.rows

-- the rows of the body of a kind, or none where there is no such body
abbrev pub rows_at : BodyKind → List Body → List (List ℤ)
rows_at k bs = rows_in (body_at k bs)

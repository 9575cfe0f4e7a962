-- The contents lines of a problem by their kinds, and what is held. Assumes nothing.
use Rattle.std.specs.Prelude.{ℕ, cond, List, [], ◌∷◌, ℤ, Option, Some, None}
use Rattle.nestformat.specs.declared.kinds.BodyKind.{BodyKind}
use Rattle.nestformat.specs.declared.kinds.BodyKind.TheVariants.{Outer}
use Rattle.nestformat.specs.declared.kinds.Contents.{Contents}
use Rattle.nestformat.specs.Kinds.{same_kind}
use Rattle.nestformat.specs.Items.{Problem, contents_of}
use Rattle.nestformat.specs.Bodies.{rows_at}
use Rattle.nestformat.specs.Due.{atoms_at}

-- the contents line of a body, if there is one
abbrev pub entry_at : BodyKind → List Contents → Option Contents
entry_at k [] = None
entry_at k (e ∷ es) = cond (same_kind k e.kind) (Some e) (entry_at k es)

-- the atoms of the problem are those of its outer body, and so are the clauses that are held
abbrev pub atoms_of : Problem → ℕ
atoms_of p = atoms_at Outer (contents_of p.bodies)

abbrev pub clauses_of : Problem → List (List ℤ)
clauses_of p = rows_at Outer p.bodies

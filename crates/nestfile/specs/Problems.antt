-- What a problem of the code is, in the words of the format. Assumes nothing.
use Rattle.std.specs.Prelude.{[], ◌∷◌}
use Rattle.nestformat.specs.declared.kinds.BodyKind.TheVariants.{Outer}
use Rattle.nestformat.specs.Items.{Problem}
use Rattle.nestfile.specs.declared.Problem.{Problem as Held}
use Rattle.nestfile.specs.Bodies.{problem_of}

abbrev pub told : Held → Problem
told h = problem_of h.parts

-- map 1, and an outer body without atoms or rows
abbrev pub empty_problem : Problem
empty_problem = record { map = 1; bodies = record { contents = record { kind = Outer; size = 0; own = 0; rows = 0 }; rows = [] } ∷ [] }

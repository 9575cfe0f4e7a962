-- What the bodies of a problem mean. Assumes nothing.
use Rattle.std.specs.Prelude.{ℕ, ◌-◌, ◌^◌, List, [], ◌∷◌, map, ℤ, Option, Some, None}
use Rattle.vetoes.specs.Meaning.{Meaning, silent, either}
use Rattle.cycles.specs.declared.arc.Arc.{Arc}
use Rattle.cycles.specs.Cyclic.{cycle_means}
use Rattle.cycles.specs.Graphs.{no_arc}
use Rattle.loads.specs.declared.row.Row.{Row}
use Rattle.loads.specs.Kinds.{sum, more, union, wider}
use Rattle.loads.specs.Rows.{load_means}
use Rattle.nested.specs.Nests.{Plan, nest_means}
use Rattle.nestformat.specs.declared.kinds.BodyKind.TheVariants.{Nest, Below, Loop, Milliamperes, Lines}
use Rattle.nestformat.specs.Items.{Body, Problem}
use Rattle.nestformat.specs.Due.{natural}
use Rattle.nestformat.specs.Bodies.{body_at, rows_at}

-- a nest's first row is its map, the others are its clauses; the second number of its contents line counts its own atoms
abbrev pub plan_with : ℕ → List (List ℤ) → Plan
plan_with own [] = record { map = []; own = own; clauses = [] }
plan_with own (zs ∷ cs) = record { map = map natural zs; own = own; clauses = cs }

abbrev pub plan_in : Option Body → Option Plan
plan_in None = None
plan_in (Some b) = Some (plan_with b.contents.own b.rows)

-- the nest m is over what never speaks, and the nest n over m; a nest that is not there never speaks
abbrev pub below_means : Problem → Meaning
below_means p = nest_means (plan_in (body_at Below p.bodies)) silent

abbrev pub nests_mean : Problem → Meaning
nests_mean p = nest_means (plan_in (body_at Nest p.bodies)) (below_means p)

-- atom, from, to
abbrev pub arc_in : List ℤ → Arc
arc_in (atom ∷ from ∷ to ∷ []) = record { atom = natural atom; from = natural from; to = natural to }
arc_in _ = no_arc

abbrev pub loop_means : Problem → Meaning
loop_means p = cycle_means (map arc_in (rows_at Loop p.bodies))

abbrev pub no_load : Row ℕ
no_load = record { atom = 0; load = 0 }

-- atom, load
abbrev pub load_in : List ℤ → Row ℕ
load_in (atom ∷ load ∷ []) = record { atom = natural atom; load = natural load }
load_in _ = no_load

-- the limit, which the first number of the contents line tells, and then the loads
abbrev pub loads_in : (ℕ → ℕ) → Option Body → List (Row ℕ)
loads_in limit None = []
loads_in limit (Some b) = record { atom = 0; load = limit b.contents.size } ∷ map load_in b.rows

-- so many milliamperes
abbrev pub milliamperes : ℕ → ℕ
milliamperes n = n

-- the set of the lowest n lines: bits 0 to n - 1
abbrev pub lowest_lines : ℕ → ℕ
lowest_lines n = 2 ^ n - 1

abbrev pub milliamperes_mean : Problem → Meaning
milliamperes_mean p = load_means 0 sum more (loads_in milliamperes (body_at Milliamperes p.bodies))

abbrev pub lines_mean : Problem → Meaning
lines_mean p = load_means 0 union wider (loads_in lowest_lines (body_at Lines p.bodies))

-- what the file vetoes: where the nests, the loop or one of the loads speaks
abbrev pub file_means : Problem → Meaning
file_means p = either (nests_mean p) (either (loop_means p) (either (milliamperes_mean p) (lines_mean p)))

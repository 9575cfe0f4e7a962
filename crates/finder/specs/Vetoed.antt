-- Where a file vetoes an assignment, body by body, and which ones it admits. Assumes nothing.
use Rattle.std.specs.Prelude.{◌≡◌, ℕ, Bool, true, ◌⊎◌, List, map, Option, Some, None}
use Rattle.assignments.specs.Assignments.{Complete}
use Rattle.assignments.specs.Literals.{all_met}
use Rattle.vetoes.specs.Meaning.{Meaning}
use Rattle.cycles.specs.Graphs.{Closed}
use Rattle.loads.specs.Kinds.{sum, more, union, wider}
use Rattle.loads.specs.Rows.{total}
use Rattle.nested.specs.Nests.{Stalls}
use Rattle.nestformat.specs.declared.kinds.BodyKind.TheVariants.{Nest, Loop, Milliamperes, Lines}
use Rattle.nestformat.specs.Items.{Body, Problem}
use Rattle.nestformat.specs.Bodies.{body_at, rows_at}
use Rattle.finder.specs.Bodies.{atoms_of, clauses_of}
use Rattle.finder.specs.Meanings.{plan_with, below_means, arc_in, load_in, milliamperes, lowest_lines}

-- the nest over the veto b: every seen atom that b looks at is known, and the own atoms can be given values so that every
-- clause is met and b is silent
abbrev pub NestVetoes : Option Body → Meaning → List ℕ → Type 0
NestVetoes None b q = ⊥
NestVetoes (Some x) b q = Stalls (plan_with x.contents.own x.rows) b q

-- the arcs with true atoms contain a closed chain
abbrev pub LoopVetoes : Problem → List ℕ → Type 0
LoopVetoes p q = Closed (map arc_in (rows_at Loop p.bodies)) q

-- the joined loads of the rows with true atoms are over the limit
abbrev pub LoadVetoes : (ℕ → ℕ → ℕ) → (ℕ → ℕ → Bool) → (ℕ → ℕ) → Option Body → List ℕ → Type 0
LoadVetoes join over limit None q = ⊥
LoadVetoes join over limit (Some x) q = over (limit x.contents.size) (total 0 join q (map load_in x.rows)) ≡ true

-- one of the bodies speaks
abbrev pub Vetoed : Problem → List ℕ → Type 0
Vetoed p q =
    NestVetoes (body_at Nest p.bodies) (below_means p) q
    ⊎ (LoopVetoes p q
    ⊎ (LoadVetoes sum more milliamperes (body_at Milliamperes p.bodies) q
    ⊎ LoadVetoes union wider lowest_lines (body_at Lines p.bodies) q))

-- the settings of the file: complete, they meet every clause that is held, and no body speaks
pub record AdmittedBy (p : Problem) (q : List ℕ) : Type 0 where
  pub complete : Complete (atoms_of p) q
  pub meets : all_met q (clauses_of p) ≡ true
  pub unvetoed : Vetoed p q → ⊥

-- The rows of a body, each as its numbers. Assumes nothing.
use Rattle.std.specs.Prelude.{◌≡◌, ℕ, ◌+◌, Bool, true, false, cond, ◌&&◌, ◌||◌, List, [], ◌∷◌, length, map, ℤ, pos, Result, Ok, Err, Option, Some, None, is_some, ◌==◌}
use Rattle.std.specs.List.{list_all}
use Rattle.refusals.specs.declared.Refusal.{Refusal}
use Rattle.refusals.specs.declared.Refusal.TheVariants.{LiteralOutOfRange}
use Rattle.tables.specs.Items.{entries}
use Rattle.clauses.specs.Books.{atoms_of, clauses_of}
use Rattle.nestformat.specs.declared.kinds.BodyKind.{BodyKind}
use Rattle.nestformat.specs.declared.kinds.BodyKind.TheVariants.{Outer, Nest, Below, Loop, Milliamperes, Lines}
use Rattle.nestformat.specs.declared.kinds.Contents.{Contents}
use Rattle.nestformat.specs.Kinds.{same_kind}
use Rattle.nestformat.specs.Items.{Body, Problem}
use Rattle.nestformat.specs.Due.{Slot, start, is_atom, form, listed, atoms_at, refusal_below}
use Rattle.nestfile.specs.declared.NestBody.{NestBody}
use Rattle.nestfile.specs.declared.Parts.{Parts}
use Rattle.nestlines.specs.Rows.{arc_numbers, load_numbers, caused}

-- the map comes first
abbrev pub nest_rows : Option NestBody → List (List ℤ)
nest_rows None = []
nest_rows (Some b) = map pos (entries b.map) ∷ clauses_of b.book

abbrev pub rows_of : Parts → BodyKind → List (List ℤ)
rows_of p Outer = clauses_of p.outer
rows_of p Nest = nest_rows p.nest
rows_of p Below = nest_rows p.below
rows_of p Loop = map arc_numbers (entries p.arcs)
rows_of p Milliamperes = map load_numbers (entries p.milliamperes)
rows_of p Lines = map load_numbers (entries p.lines)

-- the clauses among the rows, and the rows that no map is among
abbrev pub nest_clauses : Option NestBody → List (List ℤ)
nest_clauses None = []
nest_clauses (Some b) = clauses_of b.book

abbrev pub clauses_in : Parts → BodyKind → List (List ℤ)
clauses_in p Nest = nest_clauses p.nest
clauses_in p Below = nest_clauses p.below
clauses_in p k = rows_of p k

-- the problem that the parts are of
abbrev pub body_of : Parts → Contents → Body
body_of p e = record { contents = e; rows = rows_of p e.kind }

abbrev pub problem_of : Parts → Problem
problem_of p = record { map = p.map; bodies = map (body_of p) (entries p.contents) }

-- the atoms of a nest with its map
abbrev pub nest_atoms : Option NestBody → ℕ
nest_atoms None = 0
nest_atoms (Some b) = atoms_of b.book

-- a nest with its map, over n atoms
abbrev pub MappedOver : ℕ → Option NestBody → Type 0
MappedOver n o = (is_some o ≡ true) × (nest_atoms o ≡ n)

-- the body that e names is ready for its rows after the map: its clauses are over its own atoms
abbrev pub IsReady : BodyKind → ℕ → Parts → Type 0
IsReady Outer n p = atoms_of p.outer ≡ n
IsReady Nest n p = MappedOver n p.nest
IsReady Below n p = MappedOver n p.below
IsReady _ n p = Unit {0}

-- the body that e names was begun: it has no rows, nor a map
abbrev pub IsBegun : BodyKind → ℕ → Parts → Type 0
IsBegun Nest n p = p.nest ≡ None
IsBegun Below n p = p.below ≡ None
IsBegun k n p = (rows_of p k ≡ []) × IsReady k n p

-- the atoms that the book of a kind is over: none where no book is there
abbrev pub book_atoms : Parts → BodyKind → ℕ
book_atoms p Outer = atoms_of p.outer
book_atoms p Nest = nest_atoms p.nest
book_atoms p Below = nest_atoms p.below
book_atoms p k = 0

-- all but the body of kind k stayed
pub record Others (k : BodyKind) (old new : Parts) : Type 0 where
  pub map : new.map ≡ old.map
  pub contents : entries new.contents ≡ entries old.contents
  pub outer : same_kind Outer k ≡ false → new.outer ≡ old.outer
  pub nest : same_kind Nest k ≡ false → new.nest ≡ old.nest
  pub below : same_kind Below k ≡ false → new.below ≡ old.below
  pub arcs : same_kind Loop k ≡ false → new.arcs ≡ old.arcs
  pub milliamperes : same_kind Milliamperes k ≡ false → new.milliamperes ≡ old.milliamperes
  pub lines : same_kind Lines k ≡ false → new.lines ≡ old.lines

-- why a row is refused where x is due, in the body with these clauses so far
abbrev pub refusal_at : Slot → List Contents → List (List ℤ) → List ℤ → Option (Option Refusal)
refusal_at x es cs zs = cond (form x zs) (caused (refusal_below x (record start { contents = es; clauses = cs }) zs)) (Some None)

abbrev pub NoRows : Parts → Type 0
NoRows p = (k : BodyKind) → rows_of p k ≡ []

abbrev pub NoAtoms : Parts → Type 0
NoAtoms p = (k : BodyKind) → book_atoms p k ≡ 0

-- the numbers zs were read as the map of a nest with so many seen and own atoms, each number at most n; or there are more or
-- fewer, or an atom is out of range
abbrev pub NestRead : ℕ → ℕ → ℕ → List ℤ → Result NestBody (Option Refusal) → Type 0
NestRead seen own n zs (Ok b) = (nest_rows (Some b) ≡ zs ∷ []) × (atoms_of b.book ≡ seen + own) × (length zs ≡ seen) × (list_all (is_atom n) zs ≡ true)
NestRead seen own n zs (Err None) = (length zs ≡ seen) → ⊥
NestRead seen own n zs (Err (Some e)) = (e ≡ LiteralOutOfRange) × (length zs ≡ seen) × (list_all (is_atom n) zs ≡ false)

abbrev pub has_none : List (List ℤ) → Bool
has_none [] = true
has_none (r ∷ rs) = false

abbrev pub bare_at : BodyKind → Parts → Bool
bare_at k p = listed k (entries p.contents) || has_none (rows_of p k)

-- a body that the contents do not name has no rows. It is a test, since a ghost field wants a fact with at most one proof
abbrev pub bare : Parts → Bool
bare p = bare_at Outer p && (bare_at Nest p && (bare_at Below p && (bare_at Loop p && (bare_at Milliamperes p && bare_at Lines p))))

abbrev pub sized_at : BodyKind → Parts → Bool
sized_at k p = book_atoms p k == atoms_at k (entries p.contents)

-- each book is over the atoms that the contents give to its body
abbrev pub sized : Parts → Bool
sized p = sized_at Outer p && (sized_at Nest p && sized_at Below p)

-- Cases worked out by hand. A byte 0 is false, 1 true, 2 unknown; negsuc i is the literal -(i + 1). Assumes nothing.
use Rattle.std.specs.Prelude.{◌≡◌, ℕ, false, List, [], ◌∷◌, ℤ, pos, negsuc}
use Rattle.vetoes.specs.Meaning.{Meaning, silent}
use Rattle.cycles.specs.declared.arc.Arc.{Arc}
use Rattle.cycles.specs.Cyclic.{cycle_means}
use Rattle.loads.specs.declared.row.Row.{Row}
use Rattle.loads.specs.Kinds.{sum, more}
use Rattle.loads.specs.Rows.{load_means}
use Rattle.nested.specs.Nests.{nest}
use Rattle.worked_cases.specs.Playing.{Plays, sized, takes, gives, ends, clashes, Lists, NeededReason}

-- the clause (1 2)
abbrev pub one_or_two : List ℤ
one_or_two = pos 1 ∷ pos 2 ∷ []

-- no atoms and nothing that speaks: the empty assignment, once
abbrev pub NoAtoms : Type 0
NoAtoms = Lists silent 0 [] ([] ∷ [])

-- 2 atoms and the clause (1 2): 01, 10, 11
abbrev pub OneOfTwo : Type 0
OneOfTwo = Lists silent 2 (one_or_two ∷ []) ((0 ∷ 1 ∷ []) ∷ (1 ∷ 0 ∷ []) ∷ (1 ∷ 1 ∷ []) ∷ [])

-- the same, and after 01 the clause (-2): then 10
abbrev pub ClauseBetween : Type 0
ClauseBetween = Plays silent (sized 2 ∷ takes one_or_two ∷ gives (0 ∷ 1 ∷ []) ∷ takes (negsuc 1 ∷ []) ∷ gives (1 ∷ 0 ∷ []) ∷ ends 2 ∷ [])

-- a nest that sees the atoms 1 and 3 of its host as 1 and 2, has one own atom, 3, and the clauses (1), (-2), (3)
abbrev pub first_without_third : Meaning
first_without_third = nest (record { map = 1 ∷ 3 ∷ []; own = 1; clauses = (pos 1 ∷ []) ∷ (negsuc 1 ∷ []) ∷ (pos 3 ∷ []) ∷ [] }) silent

-- alone it is silent at 122, and speaks at 120, because of 1 and 3
pub record NestAlone : Type 0 where
  pub quiet : first_without_third.speaks (1 ∷ 2 ∷ 2 ∷ []) ≡ false
  pub because : NeededReason first_without_third (1 ∷ 2 ∷ 0 ∷ []) (1 ∷ 0 ∷ 1 ∷ [])

-- an order of 3 atoms over it with the clause (1 2): 1, 2 and -3 clash in 1 and -3, 2 and -2 in both; and it lists 010, 011, 101, 111
abbrev pub OrderOverNest : Type 0
OrderOverNest =
    Plays first_without_third (sized 3 ∷ takes one_or_two
    ∷ clashes 3 (pos 1 ∷ pos 2 ∷ negsuc 2 ∷ []) (1 ∷ 0 ∷ 1 ∷ [])
    ∷ clashes 3 (pos 2 ∷ negsuc 1 ∷ []) (1 ∷ 1 ∷ [])
    ∷ gives (0 ∷ 1 ∷ 0 ∷ []) ∷ gives (0 ∷ 1 ∷ 1 ∷ []) ∷ gives (1 ∷ 0 ∷ 1 ∷ []) ∷ gives (1 ∷ 1 ∷ 1 ∷ [])
    ∷ ends 3 ∷ [])

-- arc 1 leads from signal 1 to 2, arc 2 from 2 to 1: 00, 01, 10
abbrev pub there_and_back : List Arc
there_and_back = record { atom = 1; from = 1; to = 2 } ∷ record { atom = 2; from = 2; to = 1 } ∷ []

abbrev pub TwoArcs : Type 0
TwoArcs = Lists (cycle_means there_and_back) 2 [] ((0 ∷ 0 ∷ []) ∷ (0 ∷ 1 ∷ []) ∷ (1 ∷ 0 ∷ []) ∷ [])

-- the limit 500 mA, and 300, 200 and 1 mA for the atoms 1, 2 and 3
abbrev pub three_loads : List (Row ℕ)
three_loads = record { atom = 0; load = 500 } ∷ record { atom = 1; load = 300 } ∷ record { atom = 2; load = 200 } ∷ record { atom = 3; load = 1 } ∷ []

abbrev pub at_most_500 : Meaning
at_most_500 = load_means 0 sum more three_loads

-- it is silent at 110, and speaks at 111, because of all three
pub record HalfAnAmpere : Type 0 where
  pub quiet : at_most_500.speaks (1 ∷ 1 ∷ 0 ∷ []) ≡ false
  pub because : NeededReason at_most_500 (1 ∷ 1 ∷ 1 ∷ []) (1 ∷ 1 ∷ 1 ∷ [])

-- the nest below sees 1 and 2, and has the clause (1 2)
abbrev pub either_of_two : Meaning
either_of_two = nest (record { map = 1 ∷ 2 ∷ []; own = 0; clauses = one_or_two ∷ [] }) silent

-- a nest over it that sees 1, with one own atom and no clause, leaves 1 of the assignments of 1 atom: where 1 is false, a
-- false own atom keeps the one below silent
abbrev pub NestOverNest : Type 0
NestOverNest = Lists (nest (record { map = 1 ∷ []; own = 1; clauses = [] }) either_of_two) 1 [] ((1 ∷ []) ∷ [])

-- Clauses as parts of the literal table. Assumes nothing.
use Rattle.std.specs.Prelude.{ℕ, ◌+◌, Bool, ◌&&◌, List, [], ◌∷◌, map, take, drop, ℤ, ◌==◌}
use Rattle.clauses.specs.declared.stretch.Stretch.{Stretch}

-- the literals of one stretch
abbrev pub part : List ℤ → Stretch → List ℤ
part ls s = take s.len (drop s.start ls)

abbrev pub parts : List ℤ → List Stretch → List (List ℤ)
parts ls ss = map (part ls) ss

-- the stretches fill the places from `from` to `to`, each beginning where the one before it ends. It is a test, since a
-- ghost field wants a fact with at most one proof
abbrev pub laid : ℕ → List Stretch → ℕ → Bool
laid from [] to = from == to
laid from (s ∷ ss) to = s.start == from && laid (from + s.len) ss to

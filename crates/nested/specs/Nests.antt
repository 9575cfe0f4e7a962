-- What a nest means, as a test that computes and as a relation. Assumes nothing.
use Rattle.std.specs.Prelude.{◌≡◌, ℕ, zero, suc, ◌<◌, Bool, true, false, not, ◌&&◌, ◌||◌, List, [], ◌∷◌, ◌++◌, length, take, map, ℤ, Option, Some, None, nat_lt, nat_le}
use Rattle.std.specs.List.{list_all}
use Rattle.assignments.specs.Assignments.{at, atom, Complete}
use Rattle.assignments.specs.Limits.{atom_limit}
use Rattle.assignments.specs.Literals.{all_met}
use Rattle.vetoes.specs.Counted.{highest_of}
use Rattle.vetoes.specs.Meaning.{Meaning, silent}

-- how a nest is shaped: the host atom of each seen atom, the number of own atoms, and the clauses over both
pub record Plan : Type 0 where
  pub map : List ℕ
  pub own : ℕ
  pub clauses : List (List ℤ)

-- a is the number of an atom
abbrev pub is_atom : ℕ → Bool
is_atom a = nat_lt 0 a && nat_le a atom_limit

-- the highest mapped atom, or 0
abbrev pub highest_mapped : List ℕ → ℕ
highest_mapped m = highest_of (λ a. a) m

-- the values of the seen atoms at the host assignment p
abbrev pub seen : List ℕ → List ℕ → List ℕ
seen m p = map (atom p) m

abbrev pub is_known : ℕ → Bool
is_known x = nat_lt x 2

-- the test passes at some completion of xs by k values
abbrev pub some_completion : ℕ → List ℕ → (List ℕ → Bool) → Bool
some_completion zero xs t = t xs
some_completion (suc k) xs t = some_completion k (xs ++ 0 ∷ []) t || some_completion k (xs ++ 1 ∷ []) t

-- q meets every clause, and the veto below is silent there
abbrev pub passes : List (List ℤ) → Meaning → List ℕ → Bool
passes cs b q = all_met q cs && not (b.speaks q)

-- every seen atom up to the reach below is known, and some completion passes
abbrev pub stalls : Plan → Meaning → List ℕ → Bool
stalls f b p = list_all is_known (take b.reach (seen f.map p)) && some_completion f.own (seen f.map p) (passes f.clauses b)

-- what a nest of this plan over the veto b means
abbrev pub nest : Plan → Meaning → Meaning
nest f b = record { reach = highest_mapped f.map; speaks = stalls f b }

-- a nest that has no plan yet never speaks
abbrev pub nest_means : Option Plan → Meaning → Meaning
nest_means None b = silent
nest_means (Some f) b = nest f b

-- the same as a relation: every seen atom that the veto below looks at is known, and there is a value for each own atom so
-- that, joined to the seen values, every clause is met and the veto below is silent
pub record Stalls (f : Plan) (b : Meaning) (p : List ℕ) : Type 0 where
  pub known : (i : ℕ) → i < b.reach → i < length f.map → at (seen f.map p) i < 2
  pub own : List ℕ
  pub complete : Complete f.own own
  pub meets : all_met (seen f.map p ++ own) f.clauses ≡ true
  pub silent : b.speaks (seen f.map p ++ own) ≡ false

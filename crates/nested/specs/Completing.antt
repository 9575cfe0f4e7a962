-- Assignments over a nest's own numbering, seen values first, and what is marked of the host for them. Assumes nothing.
use Rattle.std.specs.Prelude.{◌≡◌, ℕ, ◌+◌, ◌-◌, ◌<◌, ◌≤◌, true, false, List, [], length, ℤ, pos, Option, Some, None, slice_index, slice_index_or}
use Rattle.assignments.specs.Assignments.{at, atom}
use Rattle.assignments.specs.Limits.{atom_limit}
use Rattle.assignments.specs.Literals.{true_at, met, all_met}
use Rattle.propagation.specs.Literals.{place}
use Rattle.vetoes.specs.Meaning.{Meaning}
use Rattle.nested.specs.Nests.{Plan}

-- c begins with the values xs, and knows nothing else
pub record Begins (xs c : List ℕ) : Type 0 where
  pub front : (i : ℕ) → i < length xs → at c i ≡ at xs i
  pub free : (i : ℕ) → length xs ≤ i → at c i ≡ 2

-- q has the seen values xs, a value for each own atom, and nothing else; it meets the clauses, and the veto below is silent there
pub record Completed (f : Plan) (b : Meaning) (xs q : List ℕ) : Type 0 where
  pub long : length xs + f.own ≤ length q
  pub front : (i : ℕ) → i < length xs → at q i ≡ at xs i
  pub own : (i : ℕ) → length xs ≤ i → i < length xs + f.own → at q i < 2
  pub past : (i : ℕ) → length xs + f.own ≤ i → at q i ≡ 2
  pub meets : all_met q f.clauses ≡ true
  pub silent : b.speaks q ≡ false

-- a literal of c, whose atom stands at the place i, is true at q
pub record Held (q : List ℕ) (c : List ℤ) (i : ℕ) : Type 0 where
  pub spot : ℕ
  pub within : spot < length c
  pub holds : true_at q (slice_index_or c spot (pos 0)) ≡ true
  pub here : place (slice_index_or c spot (pos 0)) ≡ i

-- the same, for the place i of a seen atom that is mapped to a
pub record HeldBy (m q : List ℕ) (c : List ℤ) (a : ℕ) : Type 0 where
  pub place : ℕ
  pub inside : place < length m
  pub mapped : slice_index m place ≡ a
  pub held : Held q c place

-- the same, for the place of an own atom
pub record HeldByOwn (m q : List ℕ) (c : List ℤ) : Type 0 where
  pub place : ℕ
  pub outside : length m ≤ place
  pub held : Held q c place

-- the host atom of a seen atom whose literal is true; or there is an own atom's literal, if any
abbrev pub Supported : (m q : List ℕ) → List ℤ → Option ℕ → Type 0
Supported m q c (Some a) = HeldBy m q c a
Supported m q c None = met q c ≡ true → HeldByOwn m q c

-- t marks the atom a, where p knows it and there is a mark for it
abbrev pub IsMarked : List ℕ → ℕ → List ℕ → Type 0
IsMarked p a t = atom p a < 2 → a ≤ atom_limit → slice_index t (a - 1) ≡ 1

-- a literal of c is true at q, and t marks what its atom is mapped to, if it is a seen one
pub record Backed (p m q : List ℕ) (c : List ℤ) (t : List ℕ) : Type 0 where
  pub place : ℕ
  pub held : Held q c place
  pub behind : place < length m → IsMarked p (slice_index m place) t

-- u marks what t does, and each of the atoms m
pub record MarksAll (p m t u : List ℕ) : Type 0 where
  pub grows : (i : ℕ) → slice_index t i ≡ 1 → slice_index u i ≡ 1
  pub each : (i : ℕ) → i < length m → IsMarked p (slice_index m i) u

-- u marks what t does, and what backs each of the clauses that is met
pub record MarksSupports (p m q : List ℕ) (cs : List (List ℤ)) (t u : List ℕ) : Type 0 where
  pub grows : (i : ℕ) → slice_index t i ≡ 1 → slice_index u i ≡ 1
  pub each : (k : ℕ) → k < length cs → met q (slice_index_or cs k []) ≡ true → Backed p m q (slice_index_or cs k []) u

-- t marks what a nest's reason needs: the first r seen atoms, and what backs each clause
pub record Explains (p m q : List ℕ) (cs : List (List ℤ)) (r : ℕ) (t : List ℕ) : Type 0 where
  pub front : (i : ℕ) → i < r → i < length m → IsMarked p (slice_index m i) t
  pub each : (k : ℕ) → k < length cs → met q (slice_index_or cs k []) ≡ true → Backed p m q (slice_index_or cs k []) t

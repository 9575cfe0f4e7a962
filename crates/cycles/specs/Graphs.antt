-- The graph of the arcs with true atoms at an assignment p. Assumes nothing.
use Rattle.std.specs.Prelude.{◌≡◌, ℕ, ◌<◌, List, length, get_or, slice_index_or}
use Rattle.assignments.specs.Assignments.{atom}
use Rattle.cycles.specs.declared.arc.Arc.{Arc}
use Rattle.cycles.specs.Arcs.{counted_arc}

abbrev pub no_arc : Arc
no_arc = record { atom = 0; from = 0; to = 0 }

-- an arc that counts and whose atom is true leads from a to b
pub record Edge (xs : List Arc) (p : List ℕ) (a b : ℕ) : Type 0 where
  pub index : ℕ
  pub within : index < length xs
  pub on : atom p (counted_arc (slice_index_or xs index no_arc)) ≡ 1
  pub starts : (get_or xs index no_arc).from ≡ a
  pub leads : (get_or xs index no_arc).to ≡ b

-- one or more such arcs, each beginning where the one before it ends, lead from a to b
pub data Chain (xs : List Arc) (p : List ℕ) : ℕ → ℕ → Type 0 where
  last : {a b : ℕ} → Edge xs p a b → Chain xs p a b
  link : {a b c : ℕ} → Edge xs p a b → Chain xs p b c → Chain xs p a c

-- a chain leads from some signal back to itself
pub record Closed (xs : List Arc) (p : List ℕ) : Type 0 where
  pub signal : ℕ
  pub chain : Chain xs p signal signal

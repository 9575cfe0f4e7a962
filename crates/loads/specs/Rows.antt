-- What the rows with true atoms come to, and when that is over the limit. Assumes nothing.
use Rattle.std.specs.Prelude.{ℕ, Bool, false, cond, List, [], ◌∷◌, nat_le}
use Rattle.assignments.specs.Limits.{atom_limit}
use Rattle.vetoes.specs.Counted.{highest_of, live}
use Rattle.vetoes.specs.Meaning.{Meaning}
use Rattle.loads.specs.declared.row.Row.{Row}

-- the atom of a row that counts; 0, which is never true, where it is out of range
abbrev pub counted_row : {L : Type 0} → Row L → ℕ
counted_row r = cond (nat_le r.atom atom_limit) r.atom 0

-- the rows after the first, which is the limit
abbrev pub later : {L : Type 0} → List (Row L) → List (Row L)
later [] = []
later (r ∷ rs) = rs

module _ {L : Type 0} (empty : L) (join : L → L → L) where
  -- the joined loads of the rows with true atoms at p
  abbrev pub total : List ℕ → List (Row L) → L
  total p [] = empty
  total p (r ∷ rs) = cond (live counted_row p r) (join r.load (total p rs)) (total p rs)

  -- the first row is the limit; an empty list never speaks
  abbrev pub exceeds : (L → L → Bool) → List (Row L) → List ℕ → Bool
  exceeds over [] p = false
  exceeds over (r ∷ rs) p = over r.load (total p rs)

  -- what the load veto over the rows means
  abbrev pub load_means : (L → L → Bool) → List (Row L) → Meaning
  load_means over rs = record { reach = highest_of counted_row (later rs); speaks = exceeds over rs }

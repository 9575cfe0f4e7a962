-- The numbers of a row before its closing 0. Assumes nothing.
use Rattle.std.specs.Prelude.{◌≡◌, ℕ, true, false, ◌⊎◌, cond, List, [], ◌∷◌, ◌++◌, ℤ, Ok, Err, Some, None, Option, Result, ◌==◌, nat_le, length, unsigned_abs}
use Rattle.refusals.specs.declared.Fault.{Fault}
use Rattle.refusals.specs.declared.Refusal.{Refusal}
use Rattle.refusals.specs.declared.Refusal.TheVariants.{BadNumber, RowRefused}
use Rattle.lexer.specs.Numbers.{reads, all_numbers}
use Rattle.nestformat.specs.declared.faults.LineFault.{LineFault}
use Rattle.nestformat.specs.Faults.{plain, told_at}
use Rattle.nestformat.specs.Items.{Item, row_line}

-- the most numbers that a row can have in a text that is short enough, and the room for them
abbrev pub row_number_limit : ℕ
row_number_limit = 30000

-- numbers in front of those found
abbrev pub with_front : List ℤ → Option (List ℤ) → Option (List ℤ)
with_front zs None = None
with_front zs (Some ws) = Some (zs ++ ws)

abbrev pub only_end : List (List ℕ) → Option (List ℤ)
only_end [] = Some []
only_end (t ∷ ts) = None

-- the numbers before the first 0, which ends the line
abbrev pub closed : List (List ℕ) → Option (List ℤ)
closed [] = None
closed (t ∷ ts) = cond (unsigned_abs (reads t) == 0) (only_end ts) (with_front (reads t ∷ []) (closed ts))

-- the same, if the table has room for them
abbrev pub fitting : Option (List ℤ) → Option (List ℤ)
fitting None = None
fitting (Some zs) = cond (nat_le (length zs) row_number_limit) (Some zs) None

-- on the n-th line, in the body with letter b: the numbers were found, or they are not closed
abbrev pub Found : {T : Type 0} → Option (List ℤ) → List ℤ → ℕ → ℕ → Result T Fault → Type 0
Found o zs n b (Ok x) = o ≡ Some zs
Found o zs n b (Err g) = (o ≡ None) × (g ≡ told_at (plain RowRefused) n b)

-- a row of these numbers: it is right, or refused with a cause or none
abbrev pub item_of_row : List ℤ → Option (Option Refusal) → Result Item LineFault
item_of_row zs None = Ok (row_line zs)
item_of_row zs (Some c) = Err (record { refusal = RowRefused; cause = c })

-- the same of a whole row: it was read, or some token is no number, or its numbers are not closed; then none are left
abbrev pub RowRead : {T : Type 0} → List (List ℕ) → List ℤ → ℕ → ℕ → Result T Fault → Type 0
RowRead ts zs n b (Ok x) = (all_numbers ts ≡ true) × (fitting (closed ts) ≡ Some zs)
RowRead ts zs n b (Err g) = (zs ≡ []) × (((all_numbers ts ≡ false) × (g ≡ told_at (plain BadNumber) n b)) ⊎ ((all_numbers ts ≡ true) × (fitting (closed ts) ≡ None) × (g ≡ told_at (plain RowRefused) n b)))

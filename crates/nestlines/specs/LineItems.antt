-- The item that a line of the sort due says by its tokens, or its fault; and what reads the line answers just that. Assumes nothing.
use Rattle.std.specs.Prelude.{◌≡◌, ℕ, cond, not, ◌&&◌, List, Ok, Err, Result}
use Rattle.refusals.specs.declared.Fault.{Fault}
use Rattle.refusals.specs.declared.Refusal.TheVariants.{BadNumber}
use Rattle.lexer.specs.Numbers.{all_numbers}
use Rattle.nestformat.specs.declared.faults.LineFault.{LineFault}
use Rattle.nestformat.specs.Faults.{plain, told_at}
use Rattle.nestformat.specs.Items.{Item}
use Rattle.nestformat.specs.Due.{Slot, State, fits_at, says, as_written}
use Rattle.nestformat.specs.Reading.{number_places, wrong}

abbrev pub item_or_fault : Slot → State → List (List ℕ) → Result Item LineFault
item_or_fault x s ts =
    cond (not (all_numbers (number_places x ts))) (Err (plain BadNumber))
    (cond (as_written x ts && fits_at x s (says x ts)) (Ok (says x ts))
    (Err (wrong x s ts)))

-- the n-th line, in the body with letter b, was judged, and answered: with what stands for its item, or with its fault and the place
abbrev pub LineRead : {T : Type 0} → (T → Item) → Result Item LineFault → ℕ → ℕ → Result T Fault → Type 0
LineRead item j n b (Ok x) = j ≡ Ok (item x)
LineRead item j n b (Err g) = (f : LineFault) × (j ≡ Err f) × (g ≡ told_at f n b)

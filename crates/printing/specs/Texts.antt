-- What is printed, as bytes. Assumes nothing.
use Rattle.std.specs.Prelude.{◌≡◌, ℕ, List, [], ◌∷◌, ◌++◌, Ok, Err, Result, flat_map}
use Rattle.refusals.specs.declared.Fault.{Fault}
use Rattle.nestformat.specs.Items.{Item, Problem, items_of}
use Rattle.listing.specs.Lines.{Said, text}
use Rattle.answers.specs.Lines.{fault_text}
use Rattle.finder.specs.Listed.{file_lines}
use Rattle.printing.specs.declared.Printed.{Printed}
use Rattle.printing.specs.declared.Printed.TheVariants.{Listing, Fault as FaultLine}

-- a text as a line
abbrev pub line : List ℕ → List ℕ
line bs = bs ++ 10 ∷ []

abbrev pub lines_text : List Said → List ℕ
lines_text ls = flat_map (λ l. line (text l)) ls

-- of a text that is read, the lines of the listing of just its problem; of one that is refused, the line of the fault
abbrev pub Prints : Result (List Item) Fault → Printed → List ℕ → Type 0
Prints (Ok its) what bs = (what ≡ Listing) × ((p : Problem) × (items_of p ≡ its) × (bs ≡ lines_text (file_lines p)))
Prints (Err f) what bs = (what ≡ FaultLine) × (bs ≡ line (fault_text f))

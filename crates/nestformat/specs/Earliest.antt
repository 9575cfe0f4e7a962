-- Which refusals apply to a line that counts, apart from the order in which a line is judged. Assumes nothing.
use Rattle.std.specs.Prelude.{◌≡◌, ℕ, ◌<◌, ◌≤◌, true, false, cond, List, [], ◌∷◌, map, ℤ, pos, codes, Some, Option}
use Rattle.refusals.specs.declared.Refusal.{Refusal}
use Rattle.refusals.specs.declared.Refusal.TheVariants.{CountOutOfRange, BadByte, BadNumber, BadHeading, BadContents, BadBody, RowRefused, BadEnd}
use Rattle.refusals.specs.Refusals.{number_of}
use Rattle.assignments.specs.Limits.{atom_limit}
use Rattle.lexer.specs.Lines.{tokens, lead, clean}
use Rattle.lexer.specs.Numbers.{number, all_numbers}
use Rattle.nestformat.specs.declared.kinds.BodyKind.{BodyKind}
use Rattle.nestformat.specs.Kinds.{letter_of, atoms_told}
use Rattle.nestformat.specs.Items.{Item, row_line, item_line}
use Rattle.nestformat.specs.Due.{Slot, heading_due, contents_due, body_due, map_due, row_due, end_due, State, due, fits, well_formed, refusal_below}
use Rattle.nestformat.specs.Reading.{begins_row, of_sort, number_places}

-- the line says the item, which is right after the lines read so far
pub record SaysRight (s : State) (l : List ℕ) (it : Item) : Type 0 where
  pub tokened : tokens l ≡ item_line it
  pub fitting : fits s it ≡ true

-- the refusal of a wrong line by its place. In a row's place it is the row's where the line begins as a row
abbrev pub place_refusal : Slot → Option ℕ → Refusal
place_refusal heading_due o = BadHeading
place_refusal contents_due o = BadContents
place_refusal (body_due e) o = BadBody
place_refusal (map_due e) o = cond (begins_row o) RowRefused BadBody
place_refusal (row_due e) o = cond (begins_row o) RowRefused BadBody
place_refusal end_due o = BadEnd

abbrev pub Applies : State → List ℕ → Refusal → Type 0
Applies s l BadByte = clean l ≡ false
Applies s l BadNumber = (of_sort (due s.todo) (lead (tokens l)) ≡ true) × (all_numbers (number_places (due s.todo) (tokens l)) ≡ false)
Applies s l r = (r ≡ place_refusal (due s.todo) (lead (tokens l))) × ((it : Item) → SaysRight s l it → ⊥)

-- the refusal applies, and none that applies comes before it in the list
pub record IsEarliest (s : State) (l : List ℕ) (r : Refusal) : Type 0 where
  pub applies : Applies s l r
  pub first : (q : Refusal) → Applies s l q → number_of r ≤ number_of q

-- the cause of a refused row with these tokens: a row of the right form is refused below with it. Of a row of wrong form there is none
pub record RowCause (x : Slot) (s : State) (ts : List (List ℕ)) (cause : Option Refusal) : Type 0 where
  pub told : (zs : List ℤ) → ts ≡ item_line (row_line zs) → well_formed x zs ≡ true → cause ≡ refusal_below x s zs
  pub only : (c : Refusal) → cause ≡ Some c → (zs : List ℤ) × (ts ≡ item_line (row_line zs)) × (well_formed x zs ≡ true) × (refusal_below x s zs ≡ Some c)

-- the tokens are t, a kind and three numbers, and the first two of these tell more atoms than there may be
pub record TooManyAtoms (ts : List (List ℕ)) : Type 0 where
  pub kind : BodyKind
  pub numerals : List (List ℕ)
  pub size : ℤ
  pub own : ℤ
  pub rows : ℤ
  pub atoms : ℕ
  pub tokened : ts ≡ codes "t" ∷ (letter_of kind ∷ []) ∷ numerals
  pub numbers : map number numerals ≡ Some size ∷ Some own ∷ Some rows ∷ []
  pub told : atoms_told kind size own ≡ pos atoms
  pub many : atom_limit < atoms

-- the cause of a refused contents line with these tokens: count out of range where there are too many atoms, else none
pub record ContentsCause (ts : List (List ℕ)) (cause : Option Refusal) : Type 0 where
  pub told : TooManyAtoms ts → cause ≡ Some CountOutOfRange
  pub only : (c : Refusal) → cause ≡ Some c → (c ≡ CountOutOfRange) × TooManyAtoms ts

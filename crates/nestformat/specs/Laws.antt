-- The laws of reading and writing. Assumes nothing.
use Rattle.std.specs.Prelude.{◌≡◌, ℕ, ◌<◌, ◌≤◌, true, ◌⊎◌, ◌↔◌, List, map, length, Ok, Err, None}
use Rattle.std.specs.List.{AllByRecursion}
use Rattle.refusals.specs.declared.Fault.{Fault}
use Rattle.refusals.specs.declared.Refusal.TheVariants.{TextTooLong, BadContents, RowRefused}
use Rattle.refusals.specs.Refusals.{outside}
use Rattle.lexer.specs.Lines.{lines, tokens, clean}
use Rattle.nestformat.specs.declared.faults.LineFault.{LineFault}
use Rattle.nestformat.specs.Limits.{text_limit}
use Rattle.nestformat.specs.Items.{Item, item_line, Problem, items_of}
use Rattle.nestformat.specs.Due.{State, start, due}
use Rattle.nestformat.specs.Reading.{accept, reading, counted, whole, written}
use Rattle.nestformat.specs.Refused.{Refused}
use Rattle.nestformat.specs.Earliest.{SaysRight, IsEarliest, RowCause, ContentsCause}
use Rattle.nestformat.specs.Problems.{RightProblem}

-- t is short enough, has only allowed bytes outside comments, and its lines of tokens, comments and blank lines left out, are those of the items
pub record Spelt (t : List ℕ) (its : List Item) : Type 0 where
  pub short : length t ≤ text_limit
  pub allowed : AllByRecursion (λ l. clean l ≡ true) (counted (lines t))
  pub tokened : map tokens (counted (lines t)) ≡ map item_line its

-- t spells a problem of the format
pub record Accepted (t : List ℕ) (p : Problem) : Type 0 where
  pub right : RightProblem p
  pub spelt : Spelt t (items_of p)

-- what is read is a problem that the text spells, and what spells a problem is read as it
abbrev pub Accepts : Type 0
Accepts = (t : List ℕ) (p : Problem) → reading t ≡ Ok (items_of p) ↔ Accepted t p

-- nothing else is read
abbrev pub ReadsProblems : Type 0
ReadsProblems = (t : List ℕ) (its : List Item) → reading t ≡ Ok its → (p : Problem) × RightProblem p × (its ≡ items_of p)

-- the fault of a text: it is too long, or the first faulty line decides
abbrev pub Faulty : List ℕ → Fault → Type 0
Faulty t f = ((text_limit < length t) × (f ≡ outside TextTooLong)) ⊎ ((length t ≤ text_limit) × Refused start 1 (lines t) f)

abbrev pub Refuses : Type 0
Refuses = (t : List ℕ) (f : Fault) → reading t ≡ Err f ↔ Faulty t f

-- each problem is within the limit of a text as it is written, and is read back
abbrev pub ReadsBack : Type 0
ReadsBack = (p : Problem) → RightProblem p → (length (written (items_of p)) ≤ text_limit) × (reading (written (items_of p)) ≡ Ok (items_of p))

-- the items of a problem tell it from every other
abbrev pub ToldApart : Type 0
ToldApart = (p q : Problem) → items_of p ≡ items_of q → p ≡ q

-- the two texts have the same lines of tokens, comments and blank lines left out
abbrev pub Alike : List ℕ → List ℕ → Type 0
Alike t u = map tokens (counted (lines t)) ≡ map tokens (counted (lines u))

-- texts of one problem have the same lines of tokens
abbrev pub WrittenAlike : Type 0
WrittenAlike = (t u : List ℕ) (its : List Item) → reading t ≡ Ok its → reading u ≡ Ok its → Alike t u

-- the items of a problem of the format are whole, and whole items are those of such a problem
abbrev pub WholeProblems : Type 0
WholeProblems = (its : List Item) → whole start its ≡ true ↔ ((p : Problem) × RightProblem p × (its ≡ items_of p))

-- a line that counts is accepted as an item just where it has only allowed bytes and says the item, which is right there
abbrev pub AcceptsLines : Type 0
AcceptsLines = (s : State) (l : List ℕ) (it : Item) → accept s l ≡ Ok it ↔ ((clean l ≡ true) × SaysRight s l it)

-- and else it is refused with the earliest refusal that applies
abbrev pub EarliestFirst : Type 0
EarliestFirst = (s : State) (l : List ℕ) (e : LineFault) → accept s l ≡ Err e → IsEarliest s l e.refusal

-- a refused line of the contents has the cause that its numbers have
abbrev pub ContentsCauses : Type 0
ContentsCauses = (s : State) (l : List ℕ) (e : LineFault) → accept s l ≡ Err e → e.refusal ≡ BadContents → ContentsCause (tokens l) e.cause

-- a refused row has the cause that what it says has
abbrev pub RowCauses : Type 0
RowCauses = (s : State) (l : List ℕ) (e : LineFault) → accept s l ≡ Err e → e.refusal ≡ RowRefused → RowCause (due s.todo) s (tokens l) e.cause

-- no other refusal of a text has a cause
abbrev pub NoOtherCause : Type 0
NoOtherCause = (t : List ℕ) (f : Fault) → reading t ≡ Err f → (f.refusal ≡ BadContents → ⊥) → (f.refusal ≡ RowRefused → ⊥) → f.cause ≡ None

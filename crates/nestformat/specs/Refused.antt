-- What a reading says of its text, in the words of the format. Assumes nothing.
use Rattle.std.specs.Prelude.{◌≡◌, ℕ, ◌+◌, Bool, true, false, ◌&&◌, List, [], ◌∷◌, ◌++◌, map, length, Err}
use Rattle.std.specs.List.{AllByRecursion}
use Rattle.refusals.specs.declared.Fault.{Fault}
use Rattle.refusals.specs.declared.Refusal.TheVariants.{BadEnd}
use Rattle.lexer.specs.Lines.{tokens, lead, clean}
use Rattle.nestformat.specs.declared.faults.LineFault.{LineFault}
use Rattle.nestformat.specs.Faults.{plain}
use Rattle.nestformat.specs.Items.{Item, item_line}
use Rattle.nestformat.specs.Due.{State, fits, advance}
use Rattle.nestformat.specs.Reading.{accept, skipped, counted, finished, fault_at}

-- what is due after the items
abbrev pub reached : State → List Item → State
reached s [] = s
reached s (it ∷ its) = reached (advance s it) its

-- each item is right after those before it
abbrev pub right : State → List Item → Bool
right s [] = true
right s (it ∷ its) = fits s it && right (advance s it) its

-- the lines, comments and blank lines left out, are those of the items
pub record Spells (s : State) (ls : List (List ℕ)) (its : List Item) : Type 0 where
  pub allowed : AllByRecursion (λ l. clean l ≡ true) (counted ls)
  pub tokened : map tokens (counted ls) ≡ map item_line its
  pub each : right s its ≡ true

-- the lines from the n-th on are refused: a line after lines that are right is faulty, or all are right and one is lacking
pub data Refused (s : State) (n : ℕ) (ls : List (List ℕ)) (f : Fault) : Type 0 where
  at_line : (front back : List (List ℕ)) (l : List ℕ) (its : List Item) (e : LineFault) → ls ≡ front ++ l ∷ back → Spells s front its → skipped (lead (tokens l)) ≡ false → accept (reached s its) l ≡ Err e → f ≡ fault_at (reached s its) (n + length front) e → Refused s n ls f
  at_end : (its : List Item) → Spells s ls its → finished (reached s its).todo ≡ false → f ≡ fault_at (reached s its) (n + length ls) (plain BadEnd) → Refused s n ls f

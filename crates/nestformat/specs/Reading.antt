-- The items that a text is read as, or why it is refused. Assumes nothing.
use Rattle.std.specs.Prelude.{ℕ, suc, Bool, true, false, cond, not, ◌&&◌, ◌||◌, List, [], ◌∷◌, map, length, take, drop, ℤ, pos, negsuc, Some, None, Ok, Err, codes, Option, Result, is_some, ◌==◌, nat_le, nat_lt}
use Rattle.std.specs.Str.{bytes_eq}
use Rattle.refusals.specs.declared.Fault.{Fault}
use Rattle.refusals.specs.declared.Refusal.{Refusal}
use Rattle.refusals.specs.declared.Refusal.TheVariants.{CountOutOfRange, TextTooLong, BadByte, BadNumber, BadHeading, BadContents, BadBody, RowRefused, BadEnd}
use Rattle.refusals.specs.Refusals.{outside}
use Rattle.assignments.specs.Limits.{atom_limit}
use Rattle.lexer.specs.Lines.{lines, tokens, lead, clean, text_of}
use Rattle.lexer.specs.Numbers.{all_numbers}
use Rattle.nestformat.specs.declared.faults.LineFault.{LineFault}
use Rattle.nestformat.specs.Limits.{text_limit}
use Rattle.nestformat.specs.Kinds.{kind_named, atoms_told}
use Rattle.nestformat.specs.Faults.{plain, caused, told_at}
use Rattle.nestformat.specs.Items.{Item, item_line}
use Rattle.nestformat.specs.Due.{Slot, heading_due, contents_due, body_due, map_due, row_due, end_due, State, start, due, advance, fits, fits_at, says, as_written, well_formed, refusal_below, token_at, number_at, kind_at, numbers_said}

abbrev pub begins_with : ℕ → Option ℕ → Bool
begins_with c None = false
begins_with c (Some b) = b == c

abbrev pub begins_row : Option ℕ → Bool
begins_row None = false
begins_row (Some b) = (nat_le 48 b && nat_le b 57) || b == 45

-- the line is of the sort due: it begins with p (112), t (116), b (98), or a digit or a minus
abbrev pub of_sort : Slot → Option ℕ → Bool
of_sort heading_due o = begins_with 112 o
of_sort contents_due o = begins_with 116 o
of_sort (body_due e) o = begins_with 98 o
of_sort (map_due e) o = begins_row o
of_sort (row_due e) o = begins_row o
of_sort end_due o = false

-- the refusal of a line of another sort than the one due
abbrev pub sort_refusal : Slot → Refusal
sort_refusal heading_due = BadHeading
sort_refusal contents_due = BadContents
sort_refusal (body_due e) = BadBody
sort_refusal (map_due e) = BadBody
sort_refusal (row_due e) = BadBody
sort_refusal end_due = BadEnd

-- the tokens in a number's place
abbrev pub number_places : Slot → List (List ℕ) → List (List ℕ)
number_places heading_due ts = take 2 (drop 2 ts)
number_places contents_due ts = take 3 (drop 2 ts)
number_places (body_due e) ts = take 1 (drop 2 ts)
number_places (map_due e) ts = ts
number_places (row_due e) ts = ts
number_places end_due ts = []

-- five tokens, the first just t, and a kind
abbrev pub contents_form : List (List ℕ) → Bool
contents_form ts = length ts == 5 && (bytes_eq (token_at 0 ts) (codes "t") && is_some (kind_named (token_at 1 ts)))

abbrev pub over_atoms : ℤ → Bool
over_atoms (pos n) = nat_lt atom_limit n
over_atoms (negsuc n) = false

-- the fault of a contents line, which is wrong: atoms over the limit are told whatever else is wrong, if only the form is right
abbrev pub contents_fault : List (List ℕ) → LineFault
contents_fault ts = cond (contents_form ts && over_atoms (atoms_told (kind_at 1 ts) (number_at 2 ts) (number_at 3 ts))) (caused BadContents CountOutOfRange) (plain BadContents)

-- the fault of a row, which is wrong: its form comes first
abbrev pub row_fault : Slot → State → List (List ℕ) → LineFault
row_fault x s ts = record { refusal = RowRefused; cause = cond (as_written x ts && well_formed x (numbers_said ts)) (refusal_below x s (numbers_said ts)) None }

abbrev pub wrong : Slot → State → List (List ℕ) → LineFault
wrong heading_due s ts = plain BadHeading
wrong contents_due s ts = contents_fault ts
wrong (body_due e) s ts = plain BadBody
wrong (map_due e) s ts = row_fault (map_due e) s ts
wrong (row_due e) s ts = row_fault (row_due e) s ts
wrong end_due s ts = plain BadEnd

-- what the line with these tokens says, or its fault, by what is due: the refusals stand in their order
abbrev pub judge : Slot → State → Bool → List (List ℕ) → Result Item LineFault
judge x s allowed ts =
    cond (not allowed) (Err (plain BadByte))
    (cond (not (of_sort x (lead ts))) (Err (plain (sort_refusal x)))
    (cond (not (all_numbers (number_places x ts))) (Err (plain BadNumber))
    (cond (as_written x ts && fits_at x s (says x ts)) (Ok (says x ts))
    (Err (wrong x s ts)))))

abbrev pub accept : State → List ℕ → Result Item LineFault
accept s l = judge (due s.todo) s (clean l) (tokens l)

-- no token, or a comment: the line begins with c (99)
abbrev pub skipped : Option ℕ → Bool
skipped None = true
skipped (Some b) = b == 99

-- the fault is at line n, in the body that was begun last
abbrev pub fault_at : State → ℕ → LineFault → Fault
fault_at s n f = told_at f n s.letter

abbrev pub before : Item → Result (List Item) Fault → Result (List Item) Fault
before it (Ok its) = Ok (it ∷ its)
before it (Err f) = Err f

abbrev pub follow : State → ℕ → Result Item LineFault → (Item → Result (List Item) Fault) → Result (List Item) Fault
follow s n (Ok it) more = before it (more it)
follow s n (Err f) more = Err (fault_at s n f)

abbrev pub finish : State → ℕ → List Slot → Result (List Item) Fault
finish s n [] = Ok []
finish s n (x ∷ xs) = Err (fault_at s n (plain BadEnd))

-- the lines from the n-th on
abbrev pub reading_from : State → ℕ → List (List ℕ) → Result (List Item) Fault
reading_from s n [] = finish s n s.todo
reading_from s n (l ∷ ls) = cond (skipped (lead (tokens l))) (reading_from s (suc n) ls) (follow s n (accept s l) (λ it. reading_from (advance s it) (suc n) ls))

abbrev pub reading : List ℕ → Result (List Item) Fault
reading t = cond (nat_lt text_limit (length t)) (Err (outside TextTooLong)) (reading_from start 1 (lines t))

-- the lines that are neither comments nor blank
abbrev pub counted : List (List ℕ) → List (List ℕ)
counted [] = []
counted (l ∷ ls) = cond (skipped (lead (tokens l))) (counted ls) (l ∷ counted ls)

abbrev pub finished : List Slot → Bool
finished [] = true
finished (x ∷ xs) = false

-- each item is right after those before it, and nothing is due at the end
abbrev pub whole : State → List Item → Bool
whole s [] = finished s.todo
whole s (it ∷ its) = fits s it && whole (advance s it) its

abbrev pub written : List Item → List ℕ
written its = text_of (map item_line its)

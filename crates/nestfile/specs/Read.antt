-- What a reading leaves. Assumes nothing.
use Rattle.std.specs.Prelude.{◌≡◌, ℕ, true, List, Ok, Err, Result, is_ok}
use Rattle.refusals.specs.declared.Fault.{Fault}
use Rattle.nestformat.specs.Items.{Item, Problem, items_of}
use Rattle.nestformat.specs.Laws.{Accepted}
use Rattle.nestfile.specs.declared.Problem.{Problem as Held}
use Rattle.nestfile.specs.Problems.{told, empty_problem}

-- the problem is that of the items; or the fault is told
abbrev pub ReadAs : Result (List Item) Fault → Result Held Fault → Type 0
ReadAs (Ok its) (Ok p) = items_of (told p) ≡ its
ReadAs (Ok its) (Err f) = ⊥
ReadAs (Err f) (Ok p) = ⊥
ReadAs (Err f) (Err g) = g ≡ f

-- what is held afterwards: the problem of the items; or the fault is told, and the empty problem is held
abbrev pub IsRead : Result (List Item) Fault → {T : Type 0} → Result T Fault → Problem → Type 0
IsRead (Ok its) (Ok x) p = items_of p ≡ its
IsRead (Ok its) (Err f) p = ⊥
IsRead (Err f) (Ok x) p = ⊥
IsRead (Err f) (Err g) p = (g ≡ f) × (p ≡ empty_problem)

-- whatever problem the text spells is read, and is the one that is held: so it spells one at most
abbrev pub SpeltIsRead : List ℕ → {T : Type 0} → Result T Fault → Problem → Type 0
SpeltIsRead t r p = (q : Problem) → Accepted t q → (is_ok r ≡ true) × (q ≡ p)

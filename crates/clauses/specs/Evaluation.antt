-- What it is for every clause to be met, clause by clause and literal by literal. Assumes nothing.
use Rattle.std.specs.Prelude.{◌≡◌, ℕ, ◌<◌, true, List, length, ℤ}
use Rattle.std.specs.List.{HoldsAt, AllByRecursion}
use Rattle.assignments.specs.Literals.{true_at}

-- some literal of the clause is true at p
abbrev pub HasTrue : List ℕ → List ℤ → Type 0
HasTrue p c = (k : ℕ) × (k < length c) × HoldsAt (λ l. true_at p l ≡ true) c k

abbrev pub EachHasTrue : List ℕ → List (List ℤ) → Type 0
EachHasTrue p cs = AllByRecursion (HasTrue p) cs

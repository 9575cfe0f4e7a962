-- Clauses that can be added one after the other. Assumes nothing.
use Rattle.std.specs.Prelude.{ℕ, Bool, true, ◌&&◌, List, [], ◌∷◌, ◌++◌, ℤ, is_none}
use Rattle.clauses.specs.Adding.{refusal_of_adding}
use Rattle.nested.specs.Nests.{Plan}

-- after the clauses cs, over n atoms, none of the others is refused
abbrev pub fit : ℕ → List (List ℤ) → List (List ℤ) → Bool
fit n cs [] = true
fit n cs (d ∷ ds) = is_none (refusal_of_adding n cs d) && fit n (cs ++ d ∷ []) ds

abbrev pub with_all : List ℕ → ℕ → List (List ℤ) → Plan
with_all m k cs = record { map = m; own = k; clauses = cs }

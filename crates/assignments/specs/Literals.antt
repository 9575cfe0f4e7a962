-- When a literal is true, and a clause or a list of clauses is met. Assumes nothing.
use Rattle.std.specs.Prelude.{ℕ, zero, suc, Bool, true, false, cond, ◌&&◌, ◌||◌, List, [], ◌∷◌, ℤ, pos, negsuc, Option, Some, None, ◌==◌, nat_lt}
use Rattle.assignments.specs.Assignments.{at}

-- literal k is true where atom k is 1, and literal -k where it is 0; negsuc i is -(i + 1)
abbrev pub true_at : List ℕ → ℤ → Bool
true_at p (pos zero) = false
true_at p (pos (suc i)) = at p i == 1
true_at p (negsuc i) = at p i == 0

-- one of the clause's literals is true
abbrev pub met : List ℕ → List ℤ → Bool
met p [] = false
met p (l ∷ c) = true_at p l || met p c

-- every clause is met
abbrev pub all_met : List ℕ → List (List ℤ) → Bool
all_met p [] = true
all_met p (c ∷ cs) = met p c && all_met p cs

-- the literal is not 0, and names one of the first n atoms
abbrev pub in_range : ℕ → ℤ → Bool
in_range n (pos zero) = false
in_range n (pos (suc i)) = nat_lt i n
in_range n (negsuc i) = nat_lt i n

-- the place of the literal's atom, where it is in range. Atom i + 1 stands at place i
abbrev pub place_in : ℕ → ℤ → Option ℕ
place_in n (pos zero) = None
place_in n (pos (suc i)) = cond (nat_lt i n) (Some i) None
place_in n (negsuc i) = cond (nat_lt i n) (Some i) None

abbrev pub all_in_range : ℕ → List ℤ → Bool
all_in_range n [] = true
all_in_range n (l ∷ ls) = in_range n l && all_in_range n ls

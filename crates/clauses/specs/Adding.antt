-- When a book refuses, and to what it can be cut back. Assumes nothing.
use Rattle.std.specs.Prelude.{ℕ, ◌+◌, Bool, cond, ◌&&◌, List, [], ◌∷◌, length, take, ℤ, Some, None, Option, ◌==◌, nat_le, nat_lt}
use Rattle.refusals.specs.declared.Refusal.{Refusal}
use Rattle.refusals.specs.declared.Refusal.TheVariants.{CountOutOfRange, LiteralOutOfRange, ClauseTableFull, LiteralTableFull}
use Rattle.assignments.specs.Limits.{atom_limit}
use Rattle.assignments.specs.Literals.{all_in_range}
use Rattle.clauses.specs.Limits.{clause_limit, literal_limit}

-- how many literals the clauses have together
abbrev pub literal_count : List (List ℤ) → ℕ
literal_count [] = 0
literal_count (c ∷ cs) = length c + literal_count cs

-- the refusal of a book over n atoms
abbrev pub refusal_of_fresh : ℕ → Option Refusal
refusal_of_fresh n = cond (nat_le n atom_limit) None (Some CountOutOfRange)

-- the refusal of the clause c by a book over n atoms with the clauses cs: the earliest that applies
abbrev pub refusal_of_adding : ℕ → List (List ℤ) → List ℤ → Option Refusal
refusal_of_adding n cs c =
    cond (all_in_range n c)
    (cond (nat_lt (length cs) clause_limit)
    (cond (nat_le (literal_count cs + length c) literal_limit) None (Some LiteralTableFull))
    (Some ClauseTableFull))
    (Some LiteralOutOfRange)

-- the first k of the clauses cs are there, and have m literals together
abbrev pub is_front : List (List ℤ) → (k m : ℕ) → Bool
is_front cs k m = nat_le k (length cs) && m == literal_count (take k cs)

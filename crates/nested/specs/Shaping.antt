-- When a nest refuses, and what a shape or one clause more leaves. Assumes nothing.
use Rattle.std.specs.Prelude.{ℕ, ◌+◌, cond, List, [], ◌∷◌, ◌++◌, length, ℤ, Option, Some, None, nat_le}
use Rattle.std.specs.List.{list_all}
use Rattle.refusals.specs.declared.Refusal.{Refusal}
use Rattle.refusals.specs.declared.Refusal.TheVariants.{NotSized, CountOutOfRange, ReachOutOfRange, LiteralOutOfRange}
use Rattle.assignments.specs.Limits.{atom_limit}
use Rattle.clauses.specs.Adding.{refusal_of_adding}
use Rattle.nested.specs.Nests.{Plan, is_atom}

-- the refusal of the map m and k own atoms by a nest over a veto of the reach r: the earliest that applies
abbrev pub refusal_of_shaping : ℕ → List ℕ → ℕ → Option Refusal
refusal_of_shaping r m k =
    cond (nat_le (length m + k) atom_limit)
    (cond (nat_le r (length m + k))
    (cond (list_all is_atom m) None (Some LiteralOutOfRange))
    (Some ReachOutOfRange))
    (Some CountOutOfRange)

-- the refusal of the clause c by a nest of this plan
abbrev pub refusal_of_clause : Option Plan → List ℤ → Option Refusal
refusal_of_clause None c = Some NotSized
refusal_of_clause (Some f) c = refusal_of_adding (length f.map + f.own) f.clauses c

-- a new plan has no clauses
abbrev pub shaped : List ℕ → ℕ → Plan
shaped m k = record { map = m; own = k; clauses = [] }

abbrev pub with_clause : Option Plan → List ℤ → Option Plan
with_clause None c = None
with_clause (Some f) c = Some (record { map = f.map; own = f.own; clauses = f.clauses ++ c ∷ [] })

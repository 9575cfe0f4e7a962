-- Sets of assignments of n atoms: complements, unions and projections; and what a nest leaves. Assumes nothing.
use Rattle.std.specs.Prelude.{ℕ, zero, suc, ◌+◌, ◌≤◌, ◌⊎◌, List, [], ◌∷◌, ◌++◌, length, cond, Option, Some, None, nat_le, Decides}
use Rattle.refusals.specs.declared.Refusal.{Refusal}
use Rattle.refusals.specs.declared.Refusal.TheVariants.{CountOutOfRange, ReachOutOfRange}
use Rattle.assignments.specs.Assignments.{Complete}
use Rattle.assignments.specs.Limits.{atom_limit}
use Rattle.vetoes.specs.Meaning.{Meaning}
use Rattle.vetoes.specs.Solutions.{Solution}
use Rattle.search.specs.Completions.{Allowed}
use Rattle.nested.specs.Nests.{Plan, seen, highest_mapped, nest, Stalls}
use Rattle.nested.specs.Shaping.{shaped}

-- s has, of the complete assignments of n atoms, exactly those that a lacks
pub record Complement (n : ℕ) (s a : List ℕ → Type 0) : Type 0 where
  pub complete : (p : List ℕ) → s p → Complete n p
  pub apart : (p : List ℕ) → s p → a p → ⊥
  pub either : (p : List ℕ) → Complete n p → s p ⊎ a p

-- s has what a has and what b has, and nothing else
pub record Union (s a b : List ℕ → Type 0) : Type 0 where
  pub either : (p : List ℕ) → s p → a p ⊎ b p
  pub left : (p : List ℕ) → a p → s p
  pub right : (p : List ℕ) → b p → s p

-- s has the complete assignments of n atoms that assignments in a begin with
pub record Projection (n : ℕ) (s a : List ℕ → Type 0) : Type 0 where
  pub complete : (p : List ℕ) → s p → Complete n p
  pub begins : (p : List ℕ) → s p → (t : List ℕ) × a (p ++ t)
  pub whole : (p t : List ℕ) → Complete n p → a (p ++ t) → s p

-- the complete assignments of n atoms whose values at the atoms of m, in their order, begin an assignment in a
pub record ProjectedBy (m : List ℕ) (n : ℕ) (a : List ℕ → Type 0) (p : List ℕ) : Type 0 where
  pub complete : Complete n p
  pub rest : List ℕ
  pub inside : a (seen m p ++ rest)

-- the complete assignments of a nest's own numbering that meet its clauses and that the veto below leaves
pub record Inner (f : Plan) (b : Meaning) (q : List ℕ) : Type 0 where
  pub complete : Complete (length f.map + f.own) q
  pub allowed : Allowed f.clauses b.speaks q

-- what a nest of the plan f over the veto b decides, and what it leaves of the complete assignments of enough atoms: the
-- complement of the projection of what its clauses and the veto below leave
pub record NestLaw (f : Plan) (b : Meaning) : Type 0 where
  pub decides : (p : List ℕ) → Decides ((nest f b).speaks p) (Stalls f b p)
  pub leaves : (n : ℕ) → highest_mapped f.map ≤ n → Complement n (Solution (nest f b) n) (ProjectedBy f.map n (Inner f b))

-- atoms 1 to n
abbrev pub first_atoms : ℕ → List ℕ
first_atoms zero = []
first_atoms (suc n) = first_atoms n ++ suc n ∷ []

-- the refusal of n atoms for a veto of the reach r
abbrev pub refusal_of_atoms : ℕ → ℕ → Option Refusal
refusal_of_atoms r n = cond (nat_le n atom_limit) (cond (nat_le r n) None (Some ReachOutOfRange)) (Some CountOutOfRange)

-- what a nest without clauses means that sees the first n atoms of its host, and has k own
abbrev pub over_first : ℕ → ℕ → Meaning → Meaning
over_first n k b = nest (shaped (first_atoms n) k) b

-- p begins an assignment of n atoms that both vetoes leave
pub record BeginsCommon (a b : Meaning) (n : ℕ) (p : List ℕ) : Type 0 where
  pub rest : List ℕ
  pub left : Solution a n (p ++ rest)
  pub right : Solution b n (p ++ rest)

-- p is complete, and begins no assignment of k more atoms that both vetoes leave
pub record Excluded (a b : Meaning) (k : ℕ) (p : List ℕ) : Type 0 where
  pub complete : Complete (length p) p
  pub none : BeginsCommon a b (length p + k) p → ⊥

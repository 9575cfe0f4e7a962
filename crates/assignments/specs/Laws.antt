-- What binds the definitions: laws that the contracts of the calls deciding them carry. Assumes nothing.
use Rattle.std.specs.Prelude.{◌≡◌, ℕ, true, ◌⊎◌, List, ℤ}
use Rattle.assignments.specs.Assignments.{at, Part, Complete, Less}
use Rattle.assignments.specs.Literals.{true_at, met, all_met}

-- to be part of is a partial order, up to how the bytes are read
pub record PrecisionOrder : Type 0 where
  pub reflexive : (p : List ℕ) → Part p p
  pub transitive : (p q r : List ℕ) → Part p q → Part q r → Part p r
  pub antisymmetric : (p q : List ℕ) → Part p q → Part q p → (i : ℕ) → at p i ≡ at q i

-- the order is strict, and total on the complete assignments of one length
pub record StrictTotalOrder : Type 0 where
  pub irreflexive : (p : List ℕ) → Less p p → ⊥
  pub transitive : (p q r : List ℕ) → Less p q → Less q r → Less p r
  pub total : (n : ℕ) (p q : List ℕ) → Complete n p → Complete n q → (Less p q) ⊎ ((p ≡ q) ⊎ (Less q p))

-- what is met stays met when more becomes known
pub record StaysMet : Type 0 where
  pub literal : (p q : List ℕ) (l : ℤ) → Part p q → true_at p l ≡ true → true_at q l ≡ true
  pub clause : (p q : List ℕ) (c : List ℤ) → Part p q → met p c ≡ true → met q c ≡ true
  pub clauses : (p q : List ℕ) (cs : List (List ℤ)) → Part p q → all_met p cs ≡ true → all_met q cs ≡ true

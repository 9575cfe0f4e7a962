-- What a look at a literal, a clause or a book tells of p and all that extends it. Assumes nothing.
use Rattle.std.specs.Prelude.{◌≡◌, ℕ, ◌<◌, ◌≤◌, Bool, true, false, ◌⊎◌, List, [], length, ℤ, pos, slice_index_or}
use Rattle.assignments.specs.Assignments.{at}
use Rattle.assignments.specs.Literals.{true_at, met, all_met}
use Rattle.propagation.specs.Extensions.{Extends}
use Rattle.propagation.specs.declared.wanted.Wanted.{Wanted}
use Rattle.propagation.specs.declared.literal.Look.{Look}
use Rattle.propagation.specs.declared.literal.Look.TheVariants.{Holds, Fails, Open}
use Rattle.propagation.specs.declared.scanning.State.{State}
use Rattle.propagation.specs.declared.scanning.State.TheVariants.{Met, Broken, Unit as OneLeft, Undecided}
use Rattle.propagation.specs.declared.scanning.Sight.{Sight}
use Rattle.propagation.specs.declared.scanning.Sight.TheVariants.{Conflict, Forces, Quiet}

-- f holds of nothing that extends p
pub record Refuted (from : ℕ) (p : List ℕ) (f : List ℕ → Bool) : Type 0 where
  pub never : (q : List ℕ) → Extends from p q → f q ≡ false

-- the atom at the wanted place is unknown and free, and f leaves it the wanted value
pub record Left (from : ℕ) (p : List ℕ) (f : List ℕ → Bool) (w : Wanted) : Type 0 where
  pub free : from ≤ w.place
  pub within : w.place < length p
  pub unknown : at p w.place ≡ 2
  pub bit : w.value < 2
  pub forced : (q : List ℕ) → Extends from p q → f q ≡ true → at q w.place ≡ w.value

-- every free atom has a value
pub record Filled (from : ℕ) (p : List ℕ) : Type 0 where
  pub known : (i : ℕ) → from ≤ i → i < length p → at p i < 2

abbrev pub Looked : ℕ → List ℕ → ℤ → Look → Type 0
Looked from p l Holds = true_at p l ≡ true
Looked from p l Fails = Refuted from p (λ q. true_at q l)
Looked from p l (Open w) = Left from p (λ q. true_at q l) w

-- the literal of c at the spot k is open: its atom is unknown and free, and one value makes it true
pub record OpenAt (from : ℕ) (p : List ℕ) (c : List ℤ) (k : ℕ) : Type 0 where
  pub within : k < length c
  pub wants : Wanted
  pub left : Left from p (λ q. true_at q (slice_index_or c k (pos 0))) wants

-- two literals of c are open
pub record TwoOpen (from : ℕ) (p : List ℕ) (c : List ℤ) : Type 0 where
  pub first : ℕ
  pub second : ℕ
  pub apart : first < second
  pub one : OpenAt from p c first
  pub other : OpenAt from p c second

abbrev pub Told : ℕ → List ℕ → List ℤ → State → Type 0
Told from p c Met = met p c ≡ true
Told from p c Broken = Refuted from p (λ q. met q c)
Told from p c (OneLeft w) = Left from p (λ q. met q c) w
Told from p c Undecided = TwoOpen from p c

-- the first n clauses say nothing yet: each is met, or two of its literals are open
pub record Waiting (from : ℕ) (p : List ℕ) (cs : List (List ℤ)) (n : ℕ) : Type 0 where
  pub each : (k : ℕ) → k < n → (met p (slice_index_or cs k []) ≡ true) ⊎ TwoOpen from p (slice_index_or cs k [])

-- how many clauses stand before the one that is told
abbrev pub passed : List (List ℤ) → Sight → ℕ
passed cs (Conflict j) = j
passed cs (Forces j w) = j
passed cs Quiet = length cs

-- the clause j that is broken, or that leaves one value; else all are met once every free atom has a value
abbrev pub Seen : ℕ → List ℕ → List (List ℤ) → Sight → Type 0
Seen from p cs (Conflict j) = (j < length cs) × Refuted from p (λ q. met q (slice_index_or cs j []))
Seen from p cs (Forces j w) = (j < length cs) × Left from p (λ q. met q (slice_index_or cs j [])) w
Seen from p cs Quiet = Filled from p → all_met p cs ≡ true

-- Some of the assumptions: all, or those that are ticked. Assumes nothing.
use Rattle.std.specs.Prelude.{◌≡◌, ℕ, ◌<◌, Bool, true, false, ◌⊎◌, List, length, ℤ, pos, Option, Some, None, ◌==◌, slice_index, slice_index_or}
use Rattle.assignments.specs.Assignments.{at, Part, Complete}
use Rattle.assignments.specs.Literals.{true_at}
use Rattle.propagation.specs.Literals.{place}
use Rattle.ledgers.specs.Admitted.{LeastOf}

-- all are chosen where no ticks are given, else those that are ticked
abbrev pub chosen : Option (List ℕ) → ℕ → Bool
chosen None i = true
chosen (Some t) i = slice_index t i == 1

-- q includes the chosen literals
pub record Chosen (q : List ℕ) (assumed : List ℤ) (only : Option (List ℕ)) : Type 0 where
  pub each : (i : ℕ) → i < length assumed → chosen only i ≡ true → true_at q (slice_index_or assumed i (pos 0)) ≡ true

pub record IncludingChosen (P : List ℕ → Type 0) (n : ℕ) (assumed : List ℤ) (only : Option (List ℕ)) (r : List ℕ) : Type 0 where
  pub complete : Complete n r
  pub has : P r
  pub includes : Chosen r assumed only

-- a chosen literal asks for the value that w has at the place i
pub record Source (a : List ℤ) (only : Option (List ℕ)) (w : List ℕ) (i : ℕ) : Type 0 where
  pub spot : ℕ
  pub within : spot < length a
  pub pick : chosen only spot ≡ true
  pub here : place (slice_index_or a spot (pos 0)) ≡ i
  pub tells : (q : List ℕ) → true_at q (slice_index_or a spot (pos 0)) ≡ true → at q i ≡ at w i

-- w has exactly the values that the chosen literals ask, or no assignment of n bytes includes them
pub record Stands (assumed : List ℤ) (only : Option (List ℕ)) (n : ℕ) (w : List ℕ) : Type 0 where
  pub long : length w ≡ n
  pub enough : (q : List ℕ) → Part w q → Chosen q assumed only
  pub asked : (q : List ℕ) → Complete n q → Chosen q assumed only → Part w q
  pub source : (i : ℕ) → at w i < 2 → Source assumed only w i

abbrev pub Assumed : List ℤ → Option (List ℕ) → ℕ → List ℕ → Bool → Type 0
Assumed a only n w true = Stands a only n w
Assumed a only n w false = (q : List ℕ) → Complete n q → Chosen q a only → ⊥

-- the literal's atom is ticked in the reason, or lies past its end
abbrev pub Names : List ℕ → ℤ → Type 0
Names reason l = slice_index_or reason (place l) 1 ≡ 1

-- nothing with P includes even those chosen literals that the reason names
pub record Clashing (P : List ℕ → Type 0) (n : ℕ) (a : List ℤ) (only : Option (List ℕ)) (reason : List ℕ) : Type 0 where
  pub none : (q : List ℕ) → Complete n q → P q → ((i : ℕ) → i < length a → chosen only i ≡ true → Names reason (slice_index_or a i (pos 0)) → true_at q (slice_index_or a i (pos 0)) ≡ true) → ⊥

-- q is the least that includes the chosen literals, or they clash
abbrev pub Included : (List ℕ → Type 0) → ℕ → List ℤ → Option (List ℕ) → (q reason : List ℕ) → Bool → Type 0
Included P n a only q reason true = LeastOf (IncludingChosen P n a only) q
Included P n a only q reason false = Clashing P n a only reason

-- some assumptions lose their tick
pub record Unticked (n : ℕ) (before after : List ℕ) : Type 0 where
  pub only : (i : ℕ) → (slice_index after i ≡ slice_index before i) ⊎ ((i < n) × (slice_index after i ≡ 0))

-- those that the reason names keep it
pub record KeepsNamed (a : List ℤ) (reason before after : List ℕ) : Type 0 where
  pub fewer : Unticked (length a) before after
  pub named : (i : ℕ) → i < length a → Names reason (slice_index_or a i (pos 0)) → slice_index after i ≡ slice_index before i

-- the ticked assumptions clash, and so do those still ticked; or something includes them
abbrev pub Narrowed : (List ℕ → Type 0) → ℕ → List ℤ → (before after : List ℕ) → Bool → Type 0
Narrowed P n a before after true = Unticked (length a) before after × ((r : List ℕ) → IncludingChosen P n a (Some after) r → ⊥)
Narrowed P n a before after false = ((q : List ℕ) × IncludingChosen P n a (Some before) q) × (after ≡ before)

-- each tick is 1 or 0, and nothing includes the ticked assumptions
pub record Clashed (P : List ℕ → Type 0) (n : ℕ) (a : List ℤ) (t : List ℕ) : Type 0 where
  pub bits : (i : ℕ) → i < length a → slice_index t i < 2
  pub none : (r : List ℕ) → IncludingChosen P n a (Some t) r → ⊥

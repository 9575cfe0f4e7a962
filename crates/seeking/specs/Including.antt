-- Assignments that include assumed literals, and the assumptions that clash. Assumes nothing.
use Rattle.std.specs.Prelude.{◌≡◌, ℕ, ◌<◌, ◌≤◌, cond, List, length, ℤ, Some, None, Ok, Err, Option, Result, nat_lt, slice_index}
use Rattle.refusals.specs.declared.Refusal.{Refusal}
use Rattle.refusals.specs.declared.Refusal.TheVariants.{BufferShort}
use Rattle.assignments.specs.Assignments.{Complete}
use Rattle.search.specs.declared.find.Finding.{Finding}
use Rattle.search.specs.declared.find.Finding.TheVariants.{Found, Nothing}
use Rattle.ledgers.specs.Admitted.{LeastOf, Includes, IncludesTicked}
use Rattle.seeking.specs.Seeking.{Unknown, refusal_of_seeking}

-- those of n bytes that have P and include the assumptions
pub record Including (P : List ℕ → Type 0) (n : ℕ) (assumed : List ℤ) (r : List ℕ) : Type 0 where
  pub complete : Complete n r
  pub has : P r
  pub includes : Includes r assumed

-- the ticks are 1 or 0 for each assumption, past them as before; none with P includes the ticked ones, and each of them is needed
pub record Core (P : List ℕ → Type 0) (n : ℕ) (assumed : List ℤ) (before after : List ℕ) : Type 0 where
  pub bits : (i : ℕ) → i < length assumed → slice_index after i < 2
  pub stays : (i : ℕ) → length assumed ≤ i → slice_index after i ≡ slice_index before i
  pub clash : (q : List ℕ) → Complete n q → P q → IncludesTicked q assumed after None → ⊥
  pub needed : (i : ℕ) → i < length assumed → slice_index after i ≡ 1 → (q : List ℕ) × Complete n q × P q × IncludesTicked q assumed after (Some i)

-- p and q are the buffer of the assignment before and after the call, t and u the ticks
abbrev pub Wished : (List ℕ → Type 0) → ℕ → List ℤ → (p q t u : List ℕ) → Result Finding Refusal → Type 0
Wished P n a p q t u (Ok Found) = LeastOf (Including P n a) q × (u ≡ t)
Wished P n a p q t u (Ok Nothing) = Core P n a t u × Unknown q
Wished P n a p q t u (Err e) = (q ≡ p) × (u ≡ t)

-- refused where there are fewer ticks than assumptions, else as every call that seeks
abbrev pub refusal_of_wishing : List ℤ → (p t : List ℕ) → Option Refusal
refusal_of_wishing a p t = cond (nat_lt (length t) (length a)) (Some BufferShort) (refusal_of_seeking p)

-- Marks for a reason, and how they become ticks. Assumes nothing.
use Rattle.std.specs.Prelude.{◌≡◌, ℕ, ◌-◌, ◌<◌, ◌≤◌, Bool, cond, nat_lt, slice_set, List, [], length, Option, Some, None, Ok, Err, Result, slice_index}
use Rattle.std.specs.Borrow.{Bor}
use Rattle.refusals.specs.declared.Refusal.{Refusal}
use Rattle.assignments.specs.Assignments.{at, atom}
use Rattle.assignments.specs.Limits.{atom_limit}
use Rattle.vetoes.specs.declared.veto.Verdict.{Verdict}
use Rattle.vetoes.specs.declared.veto.Verdict.TheVariants.{Speaks, Silent}
use Rattle.vetoes.specs.Verdicts.{Examined}

-- one byte for each atom there can be, 1 at some known atoms of p and 0 elsewhere
pub record Marks (p t : List ℕ) : Type 0 where
  pub long : length t ≡ atom_limit
  pub bits : (i : ℕ) → slice_index t i < 2
  pub known : (i : ℕ) → slice_index t i ≡ 1 → at p i < 2

-- the marks t with atom a too, where p knows it; an atom past the limit has no mark
abbrev pub marked : List ℕ → ℕ → List ℕ → List ℕ
marked p a t = cond (nat_lt (atom p a) 2) (slice_set t (a - 1) 1) t

-- the first n ticks are the marks, the others as before
pub record Copied (marks : List ℕ) (n : ℕ) (before after : List ℕ) : Type 0 where
  pub front : (i : ℕ) → i < n → i < length before → slice_index after i ≡ slice_index marks i
  pub rest : (i : ℕ) → n ≤ i → slice_index after i ≡ slice_index before i

abbrev pub CopiedIf : List ℕ → ℕ → (before after : List ℕ) → Result Verdict Refusal → Type 0
CopiedIf marks n before after (Ok Speaks) = Copied marks n before after
CopiedIf marks n before after (Ok Silent) = Unit {0}
CopiedIf marks n before after (Err e) = Unit {0}

-- the marks of a reason, where there is one
abbrev pub marks_in : Option (Bor (List ℕ)) → List ℕ
marks_in (Some marks) = marks.now
marks_in None = []

-- the answer of a veto that speaks or not, and whose reason is marked
abbrev pub Answered : Bool → (marks p before after : List ℕ) → Result Verdict Refusal → Type 0
Answered speaks marks p before after r = Examined (λ _. speaks) p before after r × CopiedIf marks (length p) before after r

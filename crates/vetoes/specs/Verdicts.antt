-- What examine promises: p is the assignment, `before` and `after` are the ticks. Assumes nothing.
use Rattle.std.specs.Prelude.{◌≡◌, ℕ, ◌<◌, ◌≤◌, Bool, true, false, cond, List, [], ◌∷◌, length, Ok, Err, Result, ◌==◌, slice_index}
use Rattle.refusals.specs.declared.Refusal.{Refusal}
use Rattle.refusals.specs.declared.Refusal.TheVariants.{BufferShort}
use Rattle.assignments.specs.Assignments.{at}
use Rattle.assignments.specs.Limits.{atom_limit}
use Rattle.vetoes.specs.declared.veto.Verdict.{Verdict}
use Rattle.vetoes.specs.declared.veto.Verdict.TheVariants.{Speaks, Silent}

-- the answer, and what is left where the veto does not speak
abbrev pub Examined : (List ℕ → Bool) → (p before after : List ℕ) → Result Verdict Refusal → Type 0
Examined speaks p before after (Ok Speaks) = (length p ≤ length before) × (speaks p ≡ true)
Examined speaks p before after (Ok Silent) = (length p ≤ length before) × (speaks p ≡ false) × (after ≡ before)
Examined speaks p before after (Err e) = (e ≡ BufferShort) × (length before < length p) × (after ≡ before)

-- known atoms are ticked by 1, all else of the assignment's length is 0; bytes past it are as before
pub record Ticks (p before after : List ℕ) : Type 0 where
  pub bits : (i : ℕ) → i < length p → slice_index after i < 2
  pub atoms : (i : ℕ) → i < length p → slice_index after i ≡ 1 → i < atom_limit
  pub known : (i : ℕ) → i < length p → slice_index after i ≡ 1 → at p i < 2
  pub stays : (i : ℕ) → length p ≤ i → slice_index after i ≡ slice_index before i

abbrev pub TicksOf : (p before after : List ℕ) → Result Verdict Refusal → Type 0
TicksOf p before after (Ok Speaks) = Ticks p before after
TicksOf p before after (Ok Silent) = Unit {0}
TicksOf p before after (Err e) = Unit {0}

-- p with only the ticked atoms known
abbrev pub ticked : List ℕ → List ℕ → List ℕ
ticked [] t = []
ticked (x ∷ p) [] = 2 ∷ ticked p []
ticked (x ∷ p) (b ∷ t) = cond (b == 1) x 2 ∷ ticked p t

-- the ticked atoms alone make the veto speak
abbrev pub Reason : (List ℕ → Bool) → (p after : List ℕ) → Result Verdict Refusal → Type 0
Reason speaks p after (Ok Speaks) = speaks (ticked p after) ≡ true
Reason speaks p after (Ok Silent) = Unit {0}
Reason speaks p after (Err e) = Unit {0}

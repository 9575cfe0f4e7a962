-- A line's fault, and where it is. Assumes nothing.
use Rattle.std.specs.Prelude.{ℕ, Some, None}
use Rattle.refusals.specs.declared.Fault.{Fault}
use Rattle.refusals.specs.declared.Refusal.{Refusal}
use Rattle.nestformat.specs.declared.faults.LineFault.{LineFault}

-- nothing below is the cause
abbrev pub plain : Refusal → LineFault
plain r = record { refusal = r; cause = None }

abbrev pub caused : Refusal → Refusal → LineFault
caused r c = record { refusal = r; cause = Some c }

abbrev pub told_at : LineFault → ℕ → ℕ → Fault
told_at f n b = record { refusal = f.refusal; cause = f.cause; line = n; body = b }

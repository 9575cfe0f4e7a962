-- The numbers of a row. Assumes nothing.
use Rattle.std.specs.Prelude.{◌≡◌, ℕ, Bool, true, false, cond, ◌&&◌, nat_le, List, [], ◌∷◌, length, map, ℤ, pos, Result, Ok, Err, Option, Some, None}
use Rattle.std.specs.List.{list_all}
use Rattle.refusals.specs.declared.Refusal.{Refusal}
use Rattle.refusals.specs.declared.Refusal.TheVariants.{LiteralOutOfRange}
use Rattle.tables.specs.declared.Table.{Table}
use Rattle.tables.specs.Items.{entries}
use Rattle.cycles.specs.declared.arc.Arc.{Arc}
use Rattle.loads.specs.declared.row.Row.{Row}
use Rattle.nestformat.specs.Due.{is_atom, unless_out}

abbrev pub arc_numbers : Arc → List ℤ
arc_numbers a = pos a.atom ∷ pos a.from ∷ pos a.to ∷ []

abbrev pub load_numbers : Row ℕ → List ℤ
load_numbers r = pos r.atom ∷ pos r.load ∷ []

-- the numbers zs were read as what view shows; or their form is wrong, or an atom is out of range
abbrev pub ReadAs : {T : Type 0} → (T → List ℤ) → List ℤ → Bool → Bool → Result T (Option Refusal) → Type 0
ReadAs view zs formed within (Ok x) = (view x ≡ zs) × (formed ≡ true) × (within ≡ true)
ReadAs view zs formed within (Err None) = formed ≡ false
ReadAs view zs formed within (Err (Some e)) = (e ≡ LiteralOutOfRange) × (formed ≡ true) × (within ≡ false)

-- the numbers are atoms, if each is one and the table has room for all
abbrev pub Mapped : {N : ℕ} → ℕ → List ℤ → Option (Table ℕ N) → Type 0
Mapped {N = N} n zs None = (list_all (is_atom n) zs && nat_le (length zs) N) ≡ false
Mapped n zs (Some t) = (map pos (entries t) ≡ zs) × (list_all (is_atom n) zs ≡ true)

-- a refusal that is the cause of another
abbrev pub caused : Option Refusal → Option (Option Refusal)
caused None = None
caused (Some e) = Some (Some e)

-- why a row is refused that no book refuses: for its form, with no cause, or for its atom
abbrev pub verdict : Bool → Bool → Option (Option Refusal)
verdict formed within = cond formed (caused (unless_out within)) (Some None)

-- The front of a table's places that its items fill. Assumes nothing.
use Rattle.std.proofs.Common.{◌≡◌, ℕ, ◌≤◌, length, arith, length-take}
use Rattle.tables.specs.declared.Table.{Table}
use Rattle.tables.specs.Items.{entries}

module _ {T : Type 0} {N : ℕ} where
  pub length_entries : (t : Table T N) → length (entries t) ≡ t.len
  length_entries t =
      let a : length t.items ≡ N = t.size in
      let b : t.len ≤ N = t.few in
      simp length-take (omega arith)

  pub entries_fit : (t : Table T N) → length (entries t) ≤ N
  entries_fit t =
      let a = length_entries t in
      let b : t.len ≤ N = t.few in
      omega arith

-- Which arcs count. Assumes nothing.
use Rattle.std.specs.Prelude.{ℕ, Bool, cond, ◌&&◌, nat_le}
use Rattle.assignments.specs.Limits.{atom_limit}
use Rattle.cycles.specs.Limits.{signal_limit}
use Rattle.cycles.specs.declared.arc.Arc.{Arc}

abbrev pub is_signal : ℕ → Bool
is_signal s = nat_le 1 s && nat_le s signal_limit

-- the atom of an arc that counts; 0, which is never true, where its atom or a signal is out of range
abbrev pub counted_arc : Arc → ℕ
counted_arc x = cond (nat_le x.atom atom_limit && (is_signal x.from && is_signal x.to)) x.atom 0

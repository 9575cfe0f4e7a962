-- What is within a range everywhere is so at each place. Assumes nothing.
use Rattle.std.proofs.Common.{◌≡◌, ℕ, zero, suc, ◌<◌, true, List, [], ◌∷◌, length, get_or, ℤ, arith}
use Rattle.std.proofs.lemmas.Bool.{and_parts}
use Rattle.assignments.specs.Literals.{in_range, all_in_range}
use Rattle.std.specs.List.{list_all}
use Rattle.nestformat.specs.Due.{is_atom}

pub atom_there : (n : ℕ) (zs : List ℤ) (i : ℕ) (d : ℤ) → i < length zs → list_all (is_atom n) zs ≡ true → is_atom n (get_or zs i d) ≡ true
atom_there n [] i d h a = absurd (omega arith)
atom_there n (z ∷ zs) zero d h a = (and_parts (is_atom n z) (list_all (is_atom n) zs) a).0
atom_there n (z ∷ zs) (suc i) d h a = atom_there n zs i d (omega arith) (and_parts (is_atom n z) (list_all (is_atom n) zs) a).1

pub literal_there : (n : ℕ) (zs : List ℤ) (i : ℕ) (d : ℤ) → i < length zs → all_in_range n zs ≡ true → in_range n (get_or zs i d) ≡ true
literal_there n [] i d h a = absurd (omega arith)
literal_there n (z ∷ zs) zero d h a = (and_parts (in_range n z) (all_in_range n zs) a).0
literal_there n (z ∷ zs) (suc i) d h a = literal_there n zs i d (omega arith) (and_parts (in_range n z) (all_in_range n zs) a).1

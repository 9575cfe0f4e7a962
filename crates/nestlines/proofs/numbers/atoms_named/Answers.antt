use Rattle.std.proofs.Common.{◌≡◌, true, slice_index_or, pos, w32, FitsSigned, sym, subst, rules, arith}
use Rattle.std.proofs.lemmas.Int.{to_z-of_z}
use Rattle.nestformat.specs.Due.{is_atom}
use Rattle.nestlines.proofs.RangeLaws.{atom_there}
use Rattle.nestlines.proofs.numbers.atoms_named.Goals as goal

pub atom_of-requires : goal.atom_of-requires
atom_of-requires c =
    let z = slice_index_or c.args.numbers.now c.loop-number.number-index (pos 0) in
    let fits : FitsSigned w32 z = search rules in
    let all = c.are_atoms.ensures in
    subst (λ y. is_atom c.args.atoms y ≡ true) (sym (to_z-of_z w32 z fits)) (atom_there c.args.atoms c.args.numbers.now c.loop-number.number-index (pos 0) (omega arith) (search rules))

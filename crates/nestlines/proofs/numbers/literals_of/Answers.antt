use Rattle.std.proofs.Common.{◌≡◌, true, slice_index_or, pos, w32, FitsSigned, sym, subst, rules, arith}
use Rattle.std.proofs.lemmas.Int.{to_z-of_z}
use Rattle.assignments.specs.Literals.{in_range}
use Rattle.nestlines.proofs.RangeLaws.{literal_there}
use Rattle.nestlines.proofs.numbers.literals_of.Goals as goal

pub literal_of-requires-clause-ranged : goal.literal_of-requires-clause-ranged
literal_of-requires-clause-ranged c =
    let z = slice_index_or c.args.numbers.now c.loop-number.number-index (pos 0) in
    let fits : FitsSigned w32 z = search rules in
    subst (λ y. in_range c.args.atoms y ≡ true) (sym (to_z-of_z w32 z fits)) (literal_there c.args.atoms c.args.numbers.now c.loop-number.number-index (pos 0) (omega arith) c.requires.ranged)

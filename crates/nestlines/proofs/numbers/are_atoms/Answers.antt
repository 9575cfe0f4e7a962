use Rattle.std.proofs.Common.{rules, tests}
use Rattle.std.proofs.lemmas.Iterator.{YieldsList-from_slice}
use Rattle.std.proofs.lemmas.Iterator.Search.{all_from_yields_List}
use Rattle.nestformat.specs.Due.{is_atom}
use Rattle.nestlines.proofs.numbers.are_atoms.Goals as goal

pub returns : goal.returns
returns c =
    all_from_yields_List (is_atom c.args.atoms) _ _ _ c.all.ensures.ran (YieldsList-from_slice c.args.numbers.now cc) (λ x b q k. search (rules, tests))

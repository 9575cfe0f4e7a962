use Rattle.std.proofs.Common.{◌∙◌, rules, tests}
use Rattle.std.proofs.lemmas.Iterator.{YieldsList-from_slice}
use Rattle.std.proofs.lemmas.Iterator.Search.{all_from_yields_List}
use Rattle.assignments.specs.Assignments.{atom}
use Rattle.nested.specs.Nests.{is_known}
use Rattle.nested.proofs.Searching.{all_seen}
use Rattle.nested.proofs.mapping.are_known.Goals as goal

pub returns : goal.returns
returns c =
    let p = c.args.assignment.now in
    let m = c.args.map.now in
    all_from_yields_List (λ a. is_known (atom p a)) _ _ _ c.all.ensures.ran (YieldsList-from_slice m cc) (λ x b q k. search (rules, tests)) ∙ all_seen m p

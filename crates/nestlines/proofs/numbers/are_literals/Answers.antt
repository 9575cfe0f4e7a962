use Rattle.std.proofs.Common.{◌&&◌, refl, ◌∙◌, rules, tests}
use Rattle.std.specs.List.{list_all}
use Rattle.std.proofs.lemmas.Iterator.{YieldsList-from_slice}
use Rattle.std.proofs.lemmas.Iterator.Search.{all_from_yields_List}
use Rattle.std.proofs.lemmas.List.Recursion.{same_from_clauses}
use Rattle.assignments.specs.Literals.{in_range, all_in_range}
use Rattle.nestlines.proofs.numbers.are_literals.Goals as goal

pub returns : goal.returns
returns c =
    let n = c.args.atoms in
    let ls = c.args.numbers.now in
    all_from_yields_List (in_range n) _ _ _ c.all.ensures.ran (YieldsList-from_slice ls cc) (λ x b q k. search (rules, tests))
    ∙ same_from_clauses (list_all (in_range n)) (all_in_range n) (λ l b. in_range n l && b) refl (λ _ _. refl) (λ _ _. refl) ls

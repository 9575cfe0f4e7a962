use Rattle.std.proofs.Common.{◌||◌, refl, ◌∙◌, rules, tests}
use Rattle.std.specs.List.{list_any}
use Rattle.std.proofs.lemmas.Iterator.{YieldsList-from_slice}
use Rattle.std.proofs.lemmas.Iterator.Search.{any_from_yields_List}
use Rattle.std.proofs.lemmas.List.Recursion.{same_from_clauses}
use Rattle.assignments.specs.Literals.{true_at, met}
use Rattle.assignments.proofs.literals.is_met.Goals as goal

pub returns-clause-value : goal.returns-clause-value
returns-clause-value c =
    let p = c.args.assignment.now in
    let ls = c.args.clause.now in
    any_from_yields_List (true_at p) _ _ _ c.any.ensures.ran (YieldsList-from_slice ls cc) (λ x b q k. search (rules, tests))
    ∙ same_from_clauses (list_any (true_at p)) (met p) (λ l b. true_at p l || b) refl (λ _ _. refl) (λ _ _. refl) ls

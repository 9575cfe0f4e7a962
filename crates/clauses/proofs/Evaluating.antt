-- Each clause met is each clause with a true literal. Assumes nothing.
use Rattle.std.proofs.Common.{ℕ, ◌≡◌, true, List, ℤ, Decides, refl}
use Rattle.std.proofs.lemmas.Bool.Decides.{Decides-by_or}
use Rattle.std.proofs.ByRecursion.{Decides-by_and}
use Rattle.assignments.specs.Literals.{true_at, met, all_met}
use Rattle.clauses.specs.Evaluation.{HasTrue, EachHasTrue}

pub met_decides : (p : List ℕ) (cs : List (List ℤ)) → Decides (all_met p cs) (EachHasTrue p cs)
met_decides p cs = Decides-by_and (met p) (HasTrue p) (all_met p)
    (λ c. Decides-by_or (true_at p) (λ l. true_at p l ≡ true) (met p) (λ l. (λ e. e, λ e. e)) refl (λ _ _. refl) c)
    refl (λ _ _. refl) cs

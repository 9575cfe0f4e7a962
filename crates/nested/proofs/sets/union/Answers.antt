use Rattle.std.proofs.Common.{sym, subst}
use Rattle.std.proofs.lemmas.Result.{IfOk-weaker}
use Rattle.vetoes.specs.Solutions.{Solution}
use Rattle.nested.specs.Nests.{nest_means}
use Rattle.nested.specs.Plans.{plan_of}
use Rattle.nested.specs.Sets.{Complement}
use Rattle.nested.proofs.SetLaws.{union_of}
use Rattle.nested.proofs.sets.union.Goals as goal

pub returns-clause-leaves : goal.returns-clause-leaves
returns-clause-leaves g c =
    let n = c.args.atoms in
    let a = g.A.Veto.means c.args.left in
    let b = g.B.Veto.means c.args.right in
    let left = subst (λ x. Complement n (Solution (nest_means (plan_of x.shape) (g.A.Veto.means x.below)) n) (Solution a n)) (sym c.new.ensures.left) c.in_ok-left.ensures.leaves in
    let right = subst (λ x. Complement n (Solution (nest_means (plan_of x.shape) (g.B.Veto.means x.below)) n) (Solution b n)) (sym c.new.ensures.right) c.in_ok-right.ensures.leaves in
    IfOk-weaker c.complement-3.result _ _ (λ nest outer. union_of n a b _ _ _ left right outer) c.complement-3.ensures.leaves

use Rattle.std.proofs.Common.{◌≡◌, ◌+◌, ap, ◌∙◌, arith}
use Rattle.nested.specs.Sets.{refusal_of_atoms}
use Rattle.nested.proofs.SetLaws.{first_refusal, complement_of, means_of, reach_of, ok_both}
use Rattle.nested.proofs.sets.complement.Goals as goal

pub returns-clause-refused : goal.returns-clause-refused
returns-clause-refused g c =
    let r = (g.V.Veto.means c.args.veto).reach in
    let n = c.args.atoms in
    let e : n + 0 ≡ n = omega arith in
    c.over_first.ensures.refused ∙ first_refusal r n 0 ∙ ap (refusal_of_atoms r) e

pub returns-clause-means : goal.returns-clause-means
returns-clause-means g c = ok_both c.over_first.result _ _ _
    (λ nest below plan. means_of nest.shape c.args.atoms _ _ (ap g.V.Veto.means below) 0 plan)
    c.over_first.ensures.below c.over_first.ensures.plan

pub returns-clause-reach : goal.returns-clause-reach
returns-clause-reach g c = ok_both c.over_first.result _ _ _
    (λ nest below plan. reach_of nest.shape c.args.atoms _ _ (ap g.V.Veto.means below) 0 plan)
    c.over_first.ensures.below c.over_first.ensures.plan

pub returns-clause-leaves : goal.returns-clause-leaves
returns-clause-leaves g c = ok_both c.over_first.result _ _ _
    (λ nest below plan. complement_of nest.shape c.args.atoms _ _ (ap g.V.Veto.means below) plan)
    c.over_first.ensures.below c.over_first.ensures.plan

use Rattle.std.proofs.Common.{◌≡◌, ap, ◌∙◌, rules}
use Rattle.std.specs.Result.{result_err}
use Rattle.std.proofs.lemmas.Result.{IfOk-weaker}
use Rattle.nested.specs.Sets.{first_atoms, refusal_of_atoms}
use Rattle.nested.specs.Shaping.{refusal_of_shaping}
use Rattle.nested.proofs.SetLaws.{first_refusal, within_refusal, reach_of, leaves_of, projection_of}
use Rattle.nested.proofs.sets.project.Goals as goal

pub returns-in_err-over_first-clause-refused : goal.returns-in_err-over_first-clause-refused
returns-in_err-over_first-clause-refused g c =
    let r = (g.V.Veto.means c.args.veto).reach in
    let e : result_err c.from_residual.result ≡ refusal_of_shaping r (first_atoms c.args.seen) c.args.own = search rules in
    e ∙ first_refusal r c.args.seen c.args.own

pub returns-clause-refused : goal.returns-clause-refused
returns-clause-refused g c =
    let nest = c.in_ok-over_first.field-0 in
    let n = c.args.seen in
    let far = reach_of nest.shape n (g.V.Veto.means c.args.veto) _ (ap g.V.Veto.means c.in_ok-over_first.ensures.below) c.args.own c.in_ok-over_first.ensures.plan in
    c.complement.ensures.refused ∙ ap (λ r. refusal_of_atoms r n) far ∙ within_refusal (g.V.Veto.means c.args.veto).reach n c.args.own c.in_ok-over_first.ensures.refused

pub returns-clause-leaves : goal.returns-clause-leaves
returns-clause-leaves g c =
    let nest = c.in_ok-over_first.field-0 in
    let n = c.args.seen in
    let k = c.args.own in
    let b = g.V.Veto.means c.args.veto in
    let below = leaves_of nest.shape n b _ (ap g.V.Veto.means c.in_ok-over_first.ensures.below) k c.in_ok-over_first.ensures.plan in
    IfOk-weaker c.complement.result _ _ (λ outer above. projection_of n k b _ _ below above) c.complement.ensures.leaves

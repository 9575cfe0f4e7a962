use Rattle.std.proofs.Common.{ℕ, ◌<◌, List, length, sym, ap, ◌∙◌, arith, rules}
use Rattle.std.proofs.lemmas.Grind.{common_steps}
use Rattle.vetoes.specs.Verdicts.{ticked}
use Rattle.vetoes.proofs.Marking.{copied_leaves}
use Rattle.loads.specs.Rows.{exceeds}
use Rattle.loads.specs.Sums.{exceeds_is}
use Rattle.loads.proofs.load.LoadVeto.examine.Goals as goal

pub returns-in-len1-up-clause-reason : goal.returns-in-len1-up-clause-reason
returns-in-len1-up-clause-reason g c =
    let m = g.L.LoadKind in
    let laws = g.met.L.LoadKind in
    let p = c.args.assignment.now in
    let seen = c.as_items.result.now in
    let some : 0 < length seen = search rules in
    let is = λ (q : List ℕ). exceeds_is m.EMPTY m.join laws.assoc laws.comm m.over q seen c.limit-item.result some c.limit-item.is ∙ ap (λ rs. exceeds m.EMPTY m.join m.over rs q) c.as_items.ensures in
    let over = ap (m.over c.limit-item.result.load) (sym c.total_of.ensures) ∙ sym c.if-is_over.ensures in
    let alone = sym (is (ticked p c.explain-reason.result.marks)) ∙ c.explain-reason.ensures.over over in
    grind (arith, common_steps, copied_leaves)

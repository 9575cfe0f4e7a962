use Rattle.std.proofs.Common.{◌≡◌, true, Some, sym, ap, ◌∙◌, subst, rules}
use Rattle.std.proofs.lemmas.Bool.{and_parts}
use Rattle.tables.specs.Items.{entries}
use Rattle.clauses.specs.Books.{clauses_of}
use Rattle.vetoes.specs.Meaning.{Meaning}
use Rattle.nested.specs.Nests.{stalls}
use Rattle.nested.specs.Completing.{Explains}
use Rattle.nested.specs.Plans.{plan_in}
use Rattle.nested.proofs.Reasoning.{reason_stalls}
use Rattle.nested.proofs.nested.reason_of.Goals as goal

pub returns-clause-reason : goal.returns-clause-reason
returns-clause-reason g c =
    let s = c.in_ok-shape.shape.now in
    let v = c.args.below.now in
    let b = g.V.Veto.means v in
    let p = c.args.assignment.now in
    let q = c.in_ok-values.values in
    let e : c.args.shape.now ≡ Some s = search rules in
    let far = c.reach.ensures ∙ ap (λ (m : Meaning). m.reach) c.in_ok-values.ensures.meaning in
    let why = subst (λ r. Explains p (entries s.map) q (clauses_of s.book) r c.explain.result.marks) far c.explain.ensures.explains in
    let spoken : stalls (plan_in s) b p ≡ true = sym c.in_ok-values.ensures.value in
    rw e (reason_stalls (plan_in s) b (g.met.V.Veto.lawful v) s.mapped p q c.explain.result.marks c.in_ok-values.ensures.completed why (and_parts _ _ spoken).0)

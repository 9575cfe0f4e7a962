use Rattle.std.proofs.Common.{◌≡◌, ◌<◌, Some, length, get_or, pos, sym, ◌∙◌, subst, w16, SFits, rules}
use Rattle.std.proofs.lemmas.List.{get_or_default}
use Rattle.std.proofs.lemmas.Int.{to_z-of_z}
use Rattle.assignments.specs.Literals.{place_in}
use Rattle.assignments.specs.Limits.{atom_limit}
use Rattle.propagation.proofs.LiteralLaws.{placed}
use Rattle.seeking.proofs.Shrinking.{keeps_less}
use Rattle.seeking.specs.Choosing.{KeepsNamed}
use Rattle.seeking.proofs.cores.untick.Goals.{then-reason-place-ne1, else-reason-place-ne1}
use Rattle.seeking.proofs.cores.untick.Goals as goal

pub loop-i-preserved : goal.loop-i-preserved
loop-i-preserved c =
    let ls = c.args.assumed.now in
    let reason = c.args.reason.now in
    let i = c.loop-i.i in
    let z = get_or ls i (pos 0) in
    let f : SFits w16 z = search rules in
    let p : Some c.in-Some.place ≡ place_in atom_limit z = simp to_z-of_z at c.in-Some.ensures.place in
    let k = placed atom_limit z c.in-Some.place p in
    let within : c.in-Some.place < length reason = search rules in
    let inside : i < length c.loop-i.ticks = search rules in
    elim c.if-reason-place-ne1.branch [
      | then-reason-place-ne1 w ↦ subst (KeepsNamed ls reason c.args.ticks.now) (sym w.ticks-is)
          (keeps_less ls reason c.args.ticks.now c.loop-i.ticks i c.loop-i.invariant c.loop-i-test.true inside
          (λ named. w.if-reason-place-ne1.true (sym (get_or_default reason c.in-Some.place 1 0 within) ∙ subst (λ x. get_or reason x 1 ≡ 1) (sym k.here) named)))
      | else-reason-place-ne1 w ↦ subst (KeepsNamed ls reason c.args.ticks.now) (sym w.ticks-is) c.loop-i.invariant
    ]

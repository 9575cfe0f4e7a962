use Rattle.std.proofs.Common.{refl, ◌∙◌}
use Rattle.nested.proofs.Marking.{marks_more}
use Rattle.nested.proofs.explaining.mark_all.Goals as goal

pub loop-atom-preserved : goal.loop-atom-preserved
loop-atom-preserved c =
    let before = c.args.reason.now in
    let now = c.loop-atom.reason in
    let so = c.loop-atom.invariant in
    let more = marks_more before.assignment.now before.marks now.marks _ now.known.long c.args.atoms.now _ _ c.loop-atom.atom-index so.of c.mark.ensures.marks refl so.grows so.each in
    record { of = c.mark.ensures.of ∙ so.of; grows = more.0; each = more.1 }

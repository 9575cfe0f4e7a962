use Rattle.std.proofs.Common.{[], ◌∷◌, decimal, ap, ◌∙◌}
use Rattle.writing.specs.Texts.{joined}
use Rattle.writing.specs.Buffers.{held}
use Rattle.writing.proofs.Rows.{heading_parts}
use Rattle.writing.proofs.TextOut.put_heading.Goals as goal

pub returns : goal.returns
returns c =
    let m = decimal c.args.heading.map in
    let k = decimal c.args.heading.bodies in
    c.put-3.ensures
    ∙ ap (λ h. joined h (10 ∷ [])) (c.put_number-2.ensures ∙ ap (λ h. joined h k) (c.put-2.ensures ∙ ap (λ h. joined h (32 ∷ [])) (c.put_number.ensures ∙ ap (λ h. joined h m) c.put.ensures)))
    ∙ heading_parts (held c.args.self.now) m k

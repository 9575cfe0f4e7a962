use Rattle.std.proofs.Common.{[], ◌∷◌, decimal, ap, ◌∙◌}
use Rattle.nestformat.specs.Kinds.{letter_of}
use Rattle.writing.specs.Texts.{joined}
use Rattle.writing.specs.Buffers.{held}
use Rattle.writing.proofs.Rows.{contents_parts}
use Rattle.writing.proofs.TextOut.put_contents.Goals as goal

pub returns : goal.returns
returns c =
    let l = letter_of c.args.entry.kind in
    let a = decimal c.args.entry.size in
    let b = decimal c.args.entry.own in
    let r = decimal c.args.entry.rows in
    let letter = c.put-2.ensures ∙ ap (λ x. joined (held c.put.new.self) (x ∷ 32 ∷ [])) c.letter.ensures in
    let size = c.put_number.ensures ∙ ap (λ h. joined h a) (letter ∙ ap (λ h. joined h (l ∷ 32 ∷ [])) c.put.ensures) in
    let own = c.put_number-2.ensures ∙ ap (λ h. joined h b) (c.put-3.ensures ∙ ap (λ h. joined h (32 ∷ [])) size) in
    let rows = c.put_number-3.ensures ∙ ap (λ h. joined h r) (c.put-4.ensures ∙ ap (λ h. joined h (32 ∷ [])) own) in
    c.put-5.ensures ∙ ap (λ h. joined h (10 ∷ [])) rows ∙ contents_parts (held c.args.self.now) l a b r

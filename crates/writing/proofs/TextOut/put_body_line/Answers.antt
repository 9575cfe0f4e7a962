use Rattle.std.proofs.Common.{[], ◌∷◌, decimal, ap, ◌∙◌}
use Rattle.nestformat.specs.Kinds.{letter_of}
use Rattle.writing.specs.Texts.{joined}
use Rattle.writing.specs.Buffers.{held}
use Rattle.writing.proofs.Rows.{body_parts}
use Rattle.writing.proofs.TextOut.put_body_line.Goals as goal

pub returns : goal.returns
returns c =
    let l = letter_of c.args.kind in
    let m = decimal c.args.map in
    let letter = c.put-2.ensures ∙ ap (λ b. joined (held c.put.new.self) (b ∷ 32 ∷ [])) c.letter.ensures in
    c.put-3.ensures
    ∙ ap (λ h. joined h (10 ∷ [])) (c.put_number.ensures ∙ ap (λ h. joined h m) (letter ∙ ap (λ h. joined h (l ∷ 32 ∷ [])) c.put.ensures))
    ∙ body_parts (held c.args.self.now) l m

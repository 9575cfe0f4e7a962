-- What a reader keeps while it goes along a line. Assumes nothing.
use Rattle.std.proofs.Common.{◌≡◌, take, drop, refl, ◌∙◌, ap₂}
use Rattle.lexer.specs.declared.reader.Reader.{Reader}
use Rattle.lexer.specs.Lines.{lines, tokens}
use Rattle.lexer.specs.Scans.{place, current, after, left, SameLine}

pub same_line_refl : (r : Reader) → SameLine r r
same_line_refl r = record { text = refl; ends = refl; goes_on = refl; counts = refl }

pub same_line_trans : {a b c : Reader} → SameLine a b → SameLine b c → SameLine a c
same_line_trans p q = record { text = q.text ∙ p.text; ends = q.ends ∙ p.ends; goes_on = q.goes_on ∙ p.goes_on; counts = q.counts ∙ p.counts }

pub after_same : {a b : Reader} → SameLine a b → after b ≡ after a
after_same s = ap₂ (λ n t. lines (drop n t)) s.goes_on s.text

-- at the same place the rest of the line is the same
pub current_same : (a b : Reader) → SameLine a b → place b ≡ place a → current b ≡ current a
current_same a b s p = ap₂ (λ n l. drop n l) p (ap₂ (λ n t. take n t) s.ends s.text)

pub left_same : (a b : Reader) → SameLine a b → place b ≡ place a → left b ≡ left a
left_same a b s p = ap₂ (λ n l. tokens (drop n l)) p (ap₂ (λ n t. take n t) s.ends s.text)

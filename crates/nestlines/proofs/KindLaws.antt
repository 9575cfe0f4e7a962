-- The kind that a line names. Assumes nothing.
use Rattle.std.proofs.Common.{◌≡◌, ℕ, cond, List, [], ◌∷◌, Some, None, refl, sym, ap, ◌∙◌}
use Rattle.lexer.specs.Scans.{first}
use Rattle.nestformat.specs.Kinds.{letter_of}
use Rattle.nestformat.specs.Due.{kind_at}
use Rattle.nestformat.proofs.KindLaws.{named_is}
use Rattle.nestlines.specs.Tokens.{is_word, kind_seen}
use Rattle.nestlines.proofs.Places.{word_told, kind_told}

-- the kind that the first token names
pub kind_is : (ts : List (List ℕ)) → kind_seen (first ts) ≡ cond (is_word (letter_of (kind_at 0 ts) ∷ []) (first ts)) (Some (kind_at 0 ts)) None
kind_is [] = refl
kind_is (t ∷ ts) = kind_told t ∙ named_is t ∙ ap (λ x. cond x (Some (kind_at 0 (t ∷ ts))) None) (sym (word_told t (letter_of (kind_at 0 (t ∷ ts)) ∷ [])))

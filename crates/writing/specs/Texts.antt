-- Lines as bytes, and a text of at most so many bytes to which more is put. Assumes nothing.
use Rattle.std.specs.Prelude.{◌≡◌, ℕ, ◌<◌, ◌≤◌, List, [], ◌∷◌, ◌++◌, length, take, drop, map, codes, Ok, Err, Result}
use Rattle.refusals.specs.declared.Refusal.{Refusal}
use Rattle.refusals.specs.declared.Refusal.TheVariants.{BufferShort}
use Rattle.lexer.specs.Lines.{spaced}
use Rattle.nestformat.specs.Limits.{text_limit}

-- a line of tokens, with single spaces and the byte 10 at its end
abbrev pub ended : List (List ℕ) → List ℕ
ended ts = spaced ts ++ 10 ∷ []

-- the tokens of a row: its numbers, then 0
abbrev pub row_tokens : {T : Type 0} → (T → List ℕ) → List T → List (List ℕ)
row_tokens f xs = map f xs ++ codes "0" ∷ []

-- what more bytes make of a text: those past the limit are left out
unfoldable pub joined : List ℕ → List ℕ → List ℕ
joined old more = take text_limit (old ++ more)

-- the text stands at the front of the buffer, and the bytes past it stay; or the buffer is short, and stays
abbrev pub Copied : (text old new : List ℕ) → Result ℕ Refusal → Type 0
Copied text old new (Ok n) = (n ≡ length text) × (n ≤ length old) × (new ≡ text ++ drop n old)
Copied text old new (Err e) = (e ≡ BufferShort) × (length old < length text) × (new ≡ old)

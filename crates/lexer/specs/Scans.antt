-- What a reader has before it, and what it tells of a token. Assumes nothing.
use Rattle.std.specs.Prelude.{◌≡◌, ℕ, cond, not, List, [], ◌∷◌, take, drop, ℤ, ◌==◌}
use Rattle.std.specs.List.{prefix_len}
use Rattle.lexer.specs.declared.reader.Token.{Token}
use Rattle.lexer.specs.declared.reader.Token.TheVariants.{Word, Number, LineEnd}
use Rattle.lexer.specs.declared.reader.Reader.{Reader}
use Rattle.lexer.specs.Lines.{lines, tokens}
use Rattle.lexer.specs.Numbers.{is_number, reads}

-- how many spaces stand in front
abbrev pub spaces : List ℕ → ℕ
spaces bs = prefix_len (λ b. b == 32) bs

-- how many bytes stand before the first byte x
abbrev pub run : ℕ → List ℕ → ℕ
run x bs = prefix_len (λ b. not (b == x)) bs

-- the text
abbrev pub whole : Reader → List ℕ
whole r = r.text.now

-- where in the text the reader stands, where its line ends, and where the next line begins
abbrev pub place : Reader → ℕ
place r = r.cursor.place

abbrev pub stop : Reader → ℕ
stop r = r.end

abbrev pub onward : Reader → ℕ
onward r = r.next

-- the number of the line, counted from 1, or 0 before the first
abbrev pub line_number : Reader → ℕ
line_number r = r.cursor.line

-- the line from the reader's place on, and the lines after it
abbrev pub current : Reader → List ℕ
current r = drop (place r) (take (stop r) (whole r))

abbrev pub after : Reader → List (List ℕ)
after r = lines (drop (onward r) (whole r))

-- the tokens of the line from the reader's place on
abbrev pub left : Reader → List (List ℕ)
left r = tokens (current r)

-- the second reader is the first, maybe at another place of its line
pub record SameLine (old new : Reader) : Type 0 where
  pub text : whole new ≡ whole old
  pub ends : stop new ≡ stop old
  pub goes_on : onward new ≡ onward old
  pub counts : line_number new ≡ line_number old

-- a token by its bytes, with its value if it is a number, or none at the line's end
pub data Seen : Type 0 where
  word : List ℕ → Seen
  numeral : List ℕ → ℤ → Seen
  line_end : Seen

abbrev pub seen : Token → Seen
seen (Word b p) = word b.now
seen (Number b v p) = numeral b.now v
seen (LineEnd p) = line_end

abbrev pub told : List ℕ → Seen
told t = cond (is_number t) (numeral t (reads t)) (word t)

abbrev pub first : List (List ℕ) → Seen
first [] = line_end
first (t ∷ ts) = told t

-- where the token stands, and its bytes
abbrev pub place_of : Token → ℕ
place_of (Word b p) = p
place_of (Number b v p) = p
place_of (LineEnd p) = p

abbrev pub bytes_of : Token → List ℕ
bytes_of (Word b p) = b.now
bytes_of (Number b v p) = b.now
bytes_of (LineEnd p) = []

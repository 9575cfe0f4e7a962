-- A text as lines of tokens, and back. Assumes nothing.
use Rattle.std.specs.Prelude.{ℕ, Bool, cond, ◌&&◌, ◌||◌, List, [], ◌∷◌, ◌++◌, Some, None, Option, ◌==◌, nat_le}
use Rattle.std.specs.List.{list_all}

-- one byte more at the front of the first piece
abbrev pub onto : ℕ → List (List ℕ) → List (List ℕ)
onto b [] = (b ∷ []) ∷ []
onto b (l ∷ ls) = (b ∷ l) ∷ ls

-- the pieces that end with the byte s; the last may lack it
abbrev pub pieces : ℕ → List ℕ → List (List ℕ)
pieces s [] = []
pieces s (b ∷ bs) = cond (b == s) ([] ∷ pieces s bs) (onto b (pieces s bs))

abbrev pub lines : List ℕ → List (List ℕ)
lines t = pieces 10 t

abbrev pub filled : List (List ℕ) → List (List ℕ)
filled [] = []
filled ([] ∷ ls) = filled ls
filled ((b ∷ l) ∷ ls) = (b ∷ l) ∷ filled ls

-- the longest stretches without spaces
abbrev pub tokens : List ℕ → List (List ℕ)
tokens l = filled (pieces 32 l)

-- the first byte of a line's first token
abbrev pub lead : List (List ℕ) → Option ℕ
lead [] = None
lead ([] ∷ ts) = None
lead ((b ∷ t) ∷ ts) = Some b

-- a to z, a digit, minus or space
abbrev pub allowed : ℕ → Bool
allowed b = (nat_le 97 b && nat_le b 122) || ((nat_le 48 b && nat_le b 57) || (b == 45 || b == 32))

abbrev pub clean : List ℕ → Bool
clean bs = list_all allowed bs

-- tokens with single spaces between them
abbrev pub spaced : List (List ℕ) → List ℕ
spaced [] = []
spaced (t ∷ []) = t
spaced (t ∷ u ∷ us) = t ++ 32 ∷ spaced (u ∷ us)

-- lines of tokens as a text, each line ended
abbrev pub text_of : List (List (List ℕ)) → List ℕ
text_of [] = []
text_of (l ∷ ls) = spaced l ++ 10 ∷ text_of ls

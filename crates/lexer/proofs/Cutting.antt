-- What is written is cut as it was joined. Assumes nothing.
use Rattle.std.proofs.Common.{◌≡◌, ℕ, ◌<◌, true, false, eqb, List, [], ◌∷◌, ◌++◌, map, length, refl, ap, ◌∙◌, arith}
use Rattle.std.proofs.ByRecursion.{All-append, All-weaker}
use Rattle.std.specs.List.{AllByRecursion as All}
use Rattle.std.proofs.lemmas.Bool.{cond-true, cond-false, eq-eqb, and_from}
use Rattle.lexer.specs.Lines.{onto, pieces, lines, filled, tokens, spaced, text_of, allowed, clean}

-- no byte of w is s
abbrev pub Lacks : ℕ → List ℕ → Type 0
Lacks s w = All (λ b. eqb b s ≡ false) w

pub pieces_end : (s : ℕ) (rest : List ℕ) → pieces s (s ∷ rest) ≡ [] ∷ pieces s rest
pieces_end s rest = cond-true _ _ _ (eq-eqb s s refl)

pub pieces_more : (s b : ℕ) (bs : List ℕ) → eqb b s ≡ false → pieces s (b ∷ bs) ≡ onto b (pieces s bs)
pieces_more s b bs h = cond-false _ _ _ h

pub pieces_piece : (s : ℕ) (w rest : List ℕ) → Lacks s w → pieces s (w ++ s ∷ rest) ≡ w ∷ pieces s rest
pieces_piece s [] rest h = pieces_end s rest
pieces_piece s (b ∷ w) rest h = pieces_more s b (w ++ s ∷ rest) h.0 ∙ ap (onto b) (pieces_piece s w rest h.1)

pub pieces_last : (s b : ℕ) (w : List ℕ) → Lacks s (b ∷ w) → pieces s (b ∷ w) ≡ (b ∷ w) ∷ []
pieces_last s b [] h = pieces_more s b [] h.0
pieces_last s b (c ∷ w) h = pieces_more s b (c ∷ w) h.0 ∙ ap (onto b) (pieces_last s c w h.1)

-- a token: some bytes, none a space
abbrev pub Token : List ℕ → Type 0
Token t = (0 < length t) × Lacks 32 t

pub tokens_spaced : (ts : List (List ℕ)) → All Token ts → tokens (spaced ts) ≡ ts
tokens_spaced [] h = refl
tokens_spaced ([] ∷ ts) h = absurd (omega (arith, h.0.0))
tokens_spaced ((b ∷ t) ∷ []) h = ap filled (pieces_last 32 b t h.0.1)
tokens_spaced ((b ∷ t) ∷ u ∷ us) h = ap filled (pieces_piece 32 (b ∷ t) (spaced (u ∷ us)) h.0.1) ∙ ap (λ l. (b ∷ t) ∷ l) (tokens_spaced (u ∷ us) h.1)

pub lines_text_of : (ls : List (List (List ℕ))) → All (λ l. Lacks 10 (spaced l)) ls → lines (text_of ls) ≡ map spaced ls
lines_text_of [] h = refl
lines_text_of (l ∷ ls) h = pieces_piece 10 (spaced l) (text_of ls) h.0 ∙ ap (λ m. spaced l ∷ m) (lines_text_of ls h.1)

-- a byte of a token: allowed, and neither space nor line end
pub record Solid (b : ℕ) : Type 0 where
  pub allows : allowed b ≡ true
  pub spaceless : eqb b 32 ≡ false
  pub endless : eqb b 10 ≡ false

abbrev pub Good : List ℕ → Type 0
Good t = (0 < length t) × All Solid t

good_token : (t : List ℕ) → Good t → Token t
good_token t h = (h.0, All-weaker Solid _ (λ b s. s.spaceless) t h.1)

pub tokens_good : (ts : List (List ℕ)) → All Good ts → tokens (spaced ts) ≡ ts
tokens_good ts h = tokens_spaced ts (All-weaker Good Token good_token ts h)

-- what holds of the space and of each byte of the tokens holds of the line
spaced_all : (P : ℕ → Type 0) → P 32 → (ts : List (List ℕ)) → All (λ t. All P t) ts → All P (spaced ts)
spaced_all P s [] h = tt
spaced_all P s (t ∷ []) h = h.0
spaced_all P s (t ∷ u ∷ us) h = All-append P t (32 ∷ spaced (u ∷ us)) h.0 (s, spaced_all P s (u ∷ us) h.1)

spaced_good : (P : ℕ → Type 0) → P 32 → ((b : ℕ) → Solid b → P b) → (ts : List (List ℕ)) → All Good ts → All P (spaced ts)
spaced_good P s f ts h = spaced_all P s ts (All-weaker Good _ (λ t g. All-weaker Solid P f t g.1) ts h)

clean_from : (bs : List ℕ) → All (λ b. allowed b ≡ true) bs → clean bs ≡ true
clean_from [] h = refl
clean_from (b ∷ bs) h = and_from _ _ h.0 (clean_from bs h.1)

pub clean_good : (ts : List (List ℕ)) → All Good ts → clean (spaced ts) ≡ true
clean_good ts h = clean_from (spaced ts) (spaced_good (λ b. allowed b ≡ true) refl (λ b s. s.allows) ts h)

pub lines_good : (ls : List (List (List ℕ))) → All (All Good) ls → lines (text_of ls) ≡ map spaced ls
lines_good ls h = lines_text_of ls (All-weaker (All Good) _ (λ ts g. spaced_good (λ b. eqb b 10 ≡ false) refl (λ b s. s.endless) ts g) ls h)

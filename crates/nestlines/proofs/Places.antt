-- A line's tokens as they are taken, one after the other. Assumes nothing.
use Rattle.std.proofs.Common.{◌≡◌, ℕ, suc, Bool, true, false, cond, not, ◌&&◌, ◌||◌, List, [], ◌∷◌, take, drop, ℤ, pos, negsuc, Some, None, decimal, refl, sym, ap, ap₂, subst, ◌∙◌, ⊎_elim, arith}
use Rattle.std.specs.Fmt.{signed_decimal}
use Rattle.std.specs.Str.{bytes_eq}
use Rattle.std.proofs.lemmas.Bool.{both_ways, cases_Bool, cond-true, cond-false, and_left, false_from_ne_true}
use Rattle.std.proofs.lemmas.Slice.Eq.{bytes_eq-Decides}
use Rattle.lexer.specs.Numbers.{reads, is_number, all_numbers}
use Rattle.lexer.specs.Scans.{Seen, word, numeral, told, first}
use Rattle.lexer.proofs.Figures.{reads_signed, written_back}
use Rattle.nestformat.specs.Limits.{Range, within, positive_within}
use Rattle.nestformat.specs.Kinds.{kind_named}
use Rattle.nestformat.specs.Due.{token_at, natural, natural_at, same_line}
use Rattle.nestlines.specs.Tokens.{is_word, is_bad, is_end, kind_seen, ranged}

module _ (t : List ℕ) where
  at_told : (P : Seen → Type 0) → (is_number t ≡ true → P (numeral t (reads t))) → (is_number t ≡ false → P (word t)) → P (told t)
  at_told P n w = ⊎_elim (λ h. subst P (sym (cond-true _ _ _ h)) (n h)) (λ h. subst P (sym (cond-false _ _ _ h)) (w h)) (cases_Bool (is_number t))

  pub bad_told : is_bad (told t) ≡ not (is_number t)
  bad_told = at_told (λ s. is_bad s ≡ not (is_number t)) (λ h. ap not (sym h)) (λ h. ap not (sym h))

  pub word_told : (w : List ℕ) → is_word w (told t) ≡ bytes_eq t w
  word_told w = at_told (λ s. is_word w s ≡ bytes_eq t w) (λ _. refl) (λ _. refl)

  pub end_told : is_end (told t) ≡ false
  end_told = at_told (λ s. is_end s ≡ false) (λ _. refl) (λ _. refl)

  pub kind_told : kind_seen (told t) ≡ kind_named t
  kind_told = at_told (λ s. kind_seen s ≡ kind_named t) (λ _. refl) (λ _. refl)

  pub number_told : is_number t ≡ true → told t ≡ numeral t (reads t)
  number_told h = cond-true _ _ _ h

-- the line is compared word by word
pub line_step : (ts : List (List ℕ)) (w : List ℕ) (ws : List (List ℕ)) → same_line ts (w ∷ ws) ≡ (is_word w (first ts) && same_line (drop 1 ts) ws)
line_step [] w ws = refl
line_step (t ∷ ts) w ws = ap (λ b. b && same_line ts ws) (sym (word_told t w))

pub line_stop : (ts : List (List ℕ)) → same_line ts [] ≡ is_end (first ts)
line_stop [] = refl
line_stop (t ∷ ts) = sym (end_told t)

de_morgan : (a b : Bool) → not (a && b) ≡ (not a || not b)
de_morgan true b = refl
de_morgan false b = refl

alone : (a : Bool) → not (a && true) ≡ not a
alone true = refl
alone false = refl

-- the first one, two or three tokens in numbers' places
pub bad_one : (ts : List (List ℕ)) → not (all_numbers (take 1 ts)) ≡ is_bad (first ts)
bad_one [] = refl
bad_one (t ∷ ts) = alone (is_number t) ∙ sym (bad_told t)

pub bad_two : (ts : List (List ℕ)) → not (all_numbers (take 2 ts)) ≡ (is_bad (first ts) || is_bad (first (drop 1 ts)))
bad_two [] = refl
bad_two (t ∷ ts) = de_morgan (is_number t) (all_numbers (take 1 ts)) ∙ ap₂ (λ a b. a || b) (sym (bad_told t)) (bad_one ts)

pub bad_three : (ts : List (List ℕ)) → not (all_numbers (take 3 ts)) ≡ (is_bad (first ts) || (is_bad (first (drop 1 ts)) || is_bad (first (drop 1 (drop 1 ts)))))
bad_three [] = refl
bad_three (t ∷ ts) = de_morgan (is_number t) (all_numbers (take 2 ts)) ∙ ap₂ (λ a b. a || b) (sym (bad_told t)) (bad_two ts)

pub drop_two : (ts : List (List ℕ)) → drop 2 ts ≡ drop 1 (drop 1 ts)
drop_two [] = refl
drop_two (t ∷ ts) = refl

pub at_next : (i : ℕ) (ts : List (List ℕ)) → token_at (suc i) ts ≡ token_at i (drop 1 ts)
at_next i [] = refl
at_next i (t ∷ ts) = refl

-- a natural is written, and in the range
natural_test : (r : Range) (t : List ℕ) (z : ℤ) → reads t ≡ z → is_number t ≡ true → (bytes_eq t (decimal (natural z)) && within r (natural z)) ≡ positive_within r z
natural_test r t (pos v) e h =
    let back : t ≡ decimal v = (written_back t h).0 ∙ ap signed_decimal e in
    ap (λ b. b && within r v) ((bytes_eq-Decides t (decimal v)).1 back)
natural_test r t (negsuc v) e h =
    and_left _ _ (false_from_ne_true _ (λ same.
    let zero : reads t ≡ pos 0 = ap reads ((bytes_eq-Decides t (decimal 0)).0 same) ∙ reads_signed (pos 0) (omega arith) in
    let clash : negsuc v ≡ pos 0 = sym e ∙ zero in
    cc))

pub number_test : (r : Range) (t : List ℕ) → is_number t ≡ true → (bytes_eq t (decimal (natural (reads t))) && within r (natural (reads t))) ≡ positive_within r (reads t)
number_test r t h = natural_test r t (reads t) refl h

-- a number's place that holds no word
pub place_is : (r : Range) (ts : List (List ℕ)) (n : ℕ) → n ≡ natural_at 0 ts → is_bad (first ts) ≡ false → ranged r (first ts) ≡ cond (is_word (decimal n) (first ts) && within r n) (Some n) None
place_is r [] n e h = refl
place_is r (t ∷ ts) n e h =
    let k : is_number t ≡ true = ⊎_elim (λ y. y) (λ (no : is_number t ≡ false). absurd (both_ways _ h (bad_told t ∙ ap not no))) (cases_Bool (is_number t)) in
    ap (ranged r) (number_told t k)
    ∙ ap (λ b. cond b (Some (natural (reads t))) None) (sym (number_test r t k))
    ∙ ap (λ m. cond (bytes_eq t (decimal m) && within r m) (Some m) None) (sym e)
    ∙ ap (λ b. cond (b && within r n) (Some n) None) (sym (word_told t (decimal n)))

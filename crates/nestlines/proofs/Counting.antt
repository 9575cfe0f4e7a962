-- A line has at most one token for two bytes. Assumes nothing.
use Rattle.std.proofs.Common.{◌≡◌, ℕ, ◌+◌, ◌*◌, ◌≤◌, true, false, eqb, List, [], ◌∷◌, length, take, drop, ⊎_elim, sym, subst, arith, length-take, length-drop}
use Rattle.std.proofs.lemmas.Bool.{cases_Bool, cond-true, cond-false}
use Rattle.lexer.specs.declared.reader.Reader.{Reader}
use Rattle.lexer.specs.Lines.{onto, pieces, filled}
use Rattle.lexer.specs.Scans.{whole, place, stop, left}
use Rattle.nestformat.specs.Limits.{text_limit}
use Rattle.nestlines.specs.Closed.{row_number_limit}

-- the pieces of n bytes: one byte at least for each token, and one between two of them
abbrev Spread : List (List ℕ) → ℕ → Type 0
Spread [] n = Unit {0}
Spread ([] ∷ ps) n = 2 * length (filled ps) ≤ n
Spread ((c ∷ l) ∷ ps) n = 2 * length (filled ps) + 2 ≤ n + 1

after_space : (ps : List (List ℕ)) (n : ℕ) → Spread ps n → Spread ([] ∷ ps) (n + 1)
after_space [] n h = omega arith
after_space ([] ∷ ps) n h = omega arith
after_space ((c ∷ l) ∷ ps) n h = omega arith

after_byte : (b : ℕ) (ps : List (List ℕ)) (n : ℕ) → Spread ps n → Spread (onto b ps) (n + 1)
after_byte b [] n h = omega arith
after_byte b ([] ∷ ps) n h = omega arith
after_byte b ((c ∷ l) ∷ ps) n h = omega arith

spread : (bs : List ℕ) → Spread (pieces 32 bs) (length bs)
spread [] = tt
spread (b ∷ bs) = subst (Spread (pieces 32 (b ∷ bs))) (omega arith) (⊎_elim
    (λ (t : eqb b 32 ≡ true). subst (λ ps. Spread ps (length bs + 1)) (sym (cond-true _ _ _ t)) (after_space (pieces 32 bs) (length bs) (spread bs)))
    (λ (f : eqb b 32 ≡ false). subst (λ ps. Spread ps (length bs + 1)) (sym (cond-false _ _ _ f)) (after_byte b (pieces 32 bs) (length bs) (spread bs)))
    (cases_Bool (eqb b 32)))

few : (ps : List (List ℕ)) (n : ℕ) → Spread ps n → 2 * length (filled ps) ≤ n + 1
few [] n h = omega arith
few ([] ∷ ps) n h = omega arith
few ((c ∷ l) ∷ ps) n h = omega arith

pub few_left : (r : Reader) → length (whole r) ≤ text_limit → length (left r) ≤ row_number_limit
few_left r h =
    let l = drop (place r) (take (stop r) (whole r)) in
    let a = few (pieces 32 l) (length l) (spread l) in
    let b : length l ≤ length (whole r) = simp (length-drop, length-take) (omega arith) in
    omega arith

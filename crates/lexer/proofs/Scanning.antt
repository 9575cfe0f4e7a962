-- A scan finds the next token. Assumes nothing.
use Rattle.std.proofs.Common.{◌≡◌, ℕ, suc, ◌+◌, ◌-◌, ◌<◌, ◌≤◌, Bool, true, false, cond, not, ◌&&◌, eqb, List, [], ◌∷◌, ◌++◌, length, get_or, take, drop, ℤ, is_some, Some, None, Option, sym, refl, ap, ◌∙◌, subst, ap₂, ⊎_elim, arith}
use Rattle.std.proofs.lemmas.List.{at_drop_more, at_drop_all, append-nil, take-append-drop, drop-drop, length-take, nil_from_length, length-drop, drop_all, drop_more}
use Rattle.std.proofs.lemmas.List.Sums.{prefix_len-le-length}
use Rattle.std.proofs.lemmas.Slice.{between_is}
use Rattle.std.proofs.lemmas.Bool.{cond-true, cond-false, cases_Bool, cases_lt, eqb-true}
use Rattle.lexer.specs.Lines.{pieces, filled, lines, tokens, lead}
use Rattle.lexer.specs.Numbers.{number, is_number, reads, all_numbers}
use Rattle.lexer.specs.Scans.{spaces, run, word, numeral, line_end, told, first}
use Rattle.lexer.proofs.Cutting.{Lacks, pieces_piece, pieces_last}

pub spaces_at : (t : List ℕ) (i : ℕ) → i < length t → spaces (drop i t) ≡ cond (eqb (get_or t i 0) 32) (1 + spaces (drop (i + 1) t)) 0
spaces_at t i h = at_drop_more spaces t i 0 h

pub run_at : (x : ℕ) (t : List ℕ) (i : ℕ) → i < length t → run x (drop i t) ≡ cond (not (eqb (get_or t i 0) x)) (1 + run x (drop (i + 1) t)) 0
run_at x t i h = at_drop_more (run x) t i 0 h

pub spaces_past : (t : List ℕ) (i : ℕ) → length t ≤ i → spaces (drop i t) ≡ 0
spaces_past t i h = at_drop_all spaces t i h

pub run_past : (x : ℕ) (t : List ℕ) (i : ℕ) → length t ≤ i → run x (drop i t) ≡ 0
run_past x t i h = at_drop_all (run x) t i h

spaces_more : (b : ℕ) (bs : List ℕ) → eqb b 32 ≡ true → spaces (b ∷ bs) ≡ suc (spaces bs)
spaces_more b bs h = cond-true _ _ _ h ∙ omega arith

run_none : (x b : ℕ) (bs : List ℕ) → eqb b x ≡ true → run x (b ∷ bs) ≡ 0
run_none x b bs h = ap (λ c. cond (not c) (1 + run x bs) 0) h

run_more : (x b : ℕ) (bs : List ℕ) → eqb b x ≡ false → run x (b ∷ bs) ≡ suc (run x bs)
run_more x b bs h = ap (λ c. cond (not c) (1 + run x bs) 0) h ∙ omega arith

-- spaces in front are no tokens
pub tokens_spaces : (bs : List ℕ) → tokens (drop (spaces bs) bs) ≡ tokens bs
tokens_spaces [] = refl
tokens_spaces (b ∷ bs) =
    ⊎_elim
    (λ (t : eqb b 32 ≡ true). ap (λ n. tokens (drop n (b ∷ bs))) (spaces_more b bs t) ∙ tokens_spaces bs ∙ ap filled (sym (cond-true _ _ _ t)))
    (λ (f : eqb b 32 ≡ false). ap (λ n. tokens (drop n (b ∷ bs))) (cond-false _ _ _ f))
    (cases_Bool (eqb b 32))

-- what follows a run is nothing, or the byte x
abbrev Stops : ℕ → List ℕ → Type 0
Stops x [] = Unit {0}
Stops x (c ∷ cs) = eqb c x ≡ true

module _ (x : ℕ) where
  lacks_run : (bs : List ℕ) → Lacks x (take (run x bs) bs)
  lacks_run [] = tt
  lacks_run (b ∷ bs) =
      ⊎_elim
      (λ (t : eqb b x ≡ true). subst (λ n. Lacks x (take n (b ∷ bs))) (sym (run_none x b bs t)) tt)
      (λ (f : eqb b x ≡ false). subst (λ n. Lacks x (take n (b ∷ bs))) (sym (run_more x b bs f)) (f, lacks_run bs))
      (cases_Bool (eqb b x))

  stops_run : (bs : List ℕ) → Stops x (drop (run x bs) bs)
  stops_run [] = tt
  stops_run (b ∷ bs) =
      ⊎_elim
      (λ (t : eqb b x ≡ true). subst (λ n. Stops x (drop n (b ∷ bs))) (sym (run_none x b bs t)) t)
      (λ (f : eqb b x ≡ false). subst (λ n. Stops x (drop n (b ∷ bs))) (sym (run_more x b bs f)) (stops_run bs))
      (cases_Bool (eqb b x))

  run_le : (bs : List ℕ) → run x bs ≤ length bs
  run_le bs = prefix_len-le-length (λ b. not (eqb b x)) bs

  -- the first piece, which is not the whole, and the others
  piece_first : (w rest : List ℕ) → Lacks x w → Stops x rest → 0 < length rest → pieces x (w ++ rest) ≡ w ∷ pieces x (drop 1 rest)
  piece_first w [] l h s = absurd (omega arith)
  piece_first w (c ∷ cs) l h s = subst (λ b. pieces x (w ++ b ∷ cs) ≡ w ∷ pieces x cs) (sym (eqb-true c x h)) (pieces_piece x w cs l)

  piece_only : (w : List ℕ) → Lacks x w → 0 < length w → pieces x w ≡ w ∷ []
  piece_only [] l h = absurd (omega arith)
  piece_only (b ∷ w) l h = pieces_last x b w l

  -- the pieces of what is not empty: the run in front, and those past the byte that ends it
  pub pieces_run : (bs : List ℕ) → 0 < length bs → pieces x bs ≡ take (run x bs) bs ∷ pieces x (drop 1 (drop (run x bs) bs))
  pieces_run bs some =
      let n = run x bs in
      let whole = take-append-drop n bs in
      ⊎_elim
      (λ (more : 0 < length (drop n bs)). ap (pieces x) (sym whole) ∙ piece_first (take n bs) (drop n bs) (lacks_run bs) (stops_run bs) more)
      (λ (none : length (drop n bs) ≤ 0).
      let e : drop n bs ≡ [] = nil_from_length (drop n bs) (omega arith) in
      let t : take n bs ≡ bs = sym (append-nil (take n bs)) ∙ ap (λ r. take n bs ++ r) (sym e) ∙ whole in
      piece_only bs (subst (Lacks x) t (lacks_run bs)) some ∙ ap₂ (λ w r. w ∷ pieces x (drop 1 r)) (sym t) (sym e))
      (cases_lt 0 (length (drop n bs)))

tokens_past : (rest : List ℕ) → Stops 32 rest → tokens (drop 1 rest) ≡ tokens rest
tokens_past [] h = refl
tokens_past (c ∷ cs) h = ap filled (sym (cond-true _ _ _ h))

filled_some : (w : List ℕ) (ps : List (List ℕ)) → 0 < length w → filled (w ∷ ps) ≡ w ∷ filled ps
filled_some [] ps h = absurd (omega arith)
filled_some (b ∷ w) ps h = refl

-- the first token is the run in front
pub tokens_run : (bs : List ℕ) → 0 < run 32 bs → tokens bs ≡ take (run 32 bs) bs ∷ tokens (drop (run 32 bs) bs)
tokens_run bs h =
    let n = run 32 bs in
    let long = run_le 32 bs in
    let some : 0 < length (take n bs) = omega (arith, length-take n bs) in
    ap filled (pieces_run 32 bs (omega arith)) ∙ filled_some (take n bs) _ some ∙ ap (λ l. take n bs ∷ l) (tokens_past (drop n bs) (stops_run 32 bs))

abbrev Past : List ℕ → Type 0
Past [] = Unit {0}
Past (c ∷ cs) = eqb c 32 ≡ false

past_spaces : (bs : List ℕ) → Past (drop (spaces bs) bs)
past_spaces [] = tt
past_spaces (b ∷ bs) =
    ⊎_elim
    (λ (t : eqb b 32 ≡ true). subst (λ n. Past (drop n (b ∷ bs))) (sym (spaces_more b bs t)) (past_spaces bs))
    (λ (f : eqb b 32 ≡ false). subst (λ n. Past (drop n (b ∷ bs))) (sym (cond-false _ _ _ f)) f)
    (cases_Bool (eqb b 32))

no_run : (bs : List ℕ) → Past bs → run 32 bs ≡ 0 → tokens bs ≡ []
no_run [] p h = refl
no_run (b ∷ bs) p h = absurd (omega (arith, run_more 32 b bs p))

-- the scan from p goes over spaces to s and over a token to e
module _ (l : List ℕ) (p s e : ℕ) (hs : s ≡ p + spaces (drop p l)) (he : e ≡ s + run 32 (drop s l)) where
  rest_is : drop s l ≡ drop (spaces (drop p l)) (drop p l)
  rest_is = ap (λ n. drop n l) hs ∙ sym (drop-drop (spaces (drop p l)) p l)

  pub at_end : s ≡ e → tokens (drop p l) ≡ []
  at_end none = sym (tokens_spaces (drop p l)) ∙ no_run _ (past_spaces (drop p l)) (ap (run 32) (sym rest_is) ∙ omega arith)

  pub at_token : (s ≡ e → ⊥) → tokens (drop p l) ≡ take (e - s) (drop s l) ∷ tokens (drop e l)
  at_token some =
      let n : e - s ≡ run 32 (drop s l) = omega arith in
      let m : s + run 32 (drop s l) ≡ e = sym he in
      sym (tokens_spaces (drop p l)) ∙ ap tokens (sym rest_is) ∙ tokens_run (drop s l) (omega arith)
      ∙ ap₂ (λ w t. w ∷ t) (ap (λ k. take k (drop s l)) (sym n)) (ap tokens (drop-drop (run 32 (drop s l)) s l ∙ ap (λ k. drop k l) m))

  pub after_end : s ≡ e → tokens (drop e l) ≡ []
  after_end none = ap (λ k. tokens (drop k l)) (sym none) ∙ ap tokens rest_is ∙ tokens_spaces (drop p l) ∙ at_end none

number_true : (t : List ℕ) (v : ℤ) (b : Bool) → is_number t ≡ b → cond b (Some (reads t)) None ≡ Some v → told t ≡ numeral t v
number_true t v true e h = let r : reads t ≡ v = cc in cond-true _ _ _ e ∙ ap (numeral t) r
number_true t v false e h = let z : ◌≡◌ {A = ℕ} 0 1 = cc in absurd (omega arith)

number_false : (t : List ℕ) (b : Bool) → is_number t ≡ b → cond b (Some (reads t)) None ≡ None → told t ≡ word t
number_false t true e h = let z : ◌≡◌ {A = ℕ} 0 1 = cc in absurd (omega arith)
number_false t false e h = cond-false _ _ _ e

pub told_number : (t : List ℕ) (v : ℤ) → number t ≡ Some v → told t ≡ numeral t v
told_number t v h = number_true t v (is_number t) refl h

pub told_word : (t : List ℕ) → number t ≡ None → told t ≡ word t
told_word t h = number_false t (is_number t) refl h

-- the same over the front of a text, as the reader has its line
module _ (t : List ℕ) (n p s e : ℕ) (hs : s ≡ p + spaces (drop p (take (n - 0) t))) (he : e ≡ s + run 32 (drop s (take (n - 0) t))) where
  line_is : take (n - 0) t ≡ take n t
  line_is = let z : n - 0 ≡ n = omega arith in ap (λ k. take k t) z

  pub ends : s ≡ e → line_end ≡ first (tokens (drop p (take n t)))
  ends none = sym (ap (λ l. first (tokens (drop p l))) (sym line_is) ∙ ap first (at_end (take (n - 0) t) p s e hs he none))

  pub ends_rest : s ≡ e → tokens (drop e (take n t)) ≡ drop 1 (tokens (drop p (take n t)))
  ends_rest none =
      ap (λ l. tokens (drop e l)) (sym line_is) ∙ after_end (take (n - 0) t) p s e hs he none
      ∙ sym (ap (drop 1) (ap (λ l. tokens (drop p l)) (sym line_is) ∙ at_end (take (n - 0) t) p s e hs he none))

  cut : (s ≡ e → ⊥) → tokens (drop p (take n t)) ≡ take (e - s) (drop s (take (n - 0) t)) ∷ tokens (drop e (take n t))
  cut some =
      ap (λ l. tokens (drop p l)) (sym line_is) ∙ at_token (take (n - 0) t) p s e hs he some
      ∙ ap (λ l. take (e - s) (drop s (take (n - 0) t)) ∷ tokens (drop e l)) line_is

  pub token_is : (s ≡ e → ⊥) → told (take (e - s) (drop s (take (n - 0) t))) ≡ first (tokens (drop p (take n t)))
  token_is some = ap first (sym (cut some))

  pub token_rest : (s ≡ e → ⊥) → tokens (drop e (take n t)) ≡ drop 1 (tokens (drop p (take n t)))
  token_rest some = ap (drop 1) (sym (cut some))

  -- z is the value as the code has it
  pub number_is : (s ≡ e → ⊥) → (r : Option ℤ) (v z : ℤ) → r ≡ number (take (e - s) (drop s (take (n - 0) t))) → r ≡ Some v → z ≡ v → numeral (take (e - s) (drop s (take (n - 0) t))) z ≡ first (tokens (drop p (take n t)))
  number_is some r v z h g back = ap (numeral (take (e - s) (drop s (take (n - 0) t)))) back ∙ sym (told_number (take (e - s) (drop s (take (n - 0) t))) v (sym h ∙ g)) ∙ token_is some

  pub word_is : (s ≡ e → ⊥) → (r : Option ℤ) → r ≡ number (take (e - s) (drop s (take (n - 0) t))) → r ≡ None → word (take (e - s) (drop s (take (n - 0) t))) ≡ first (tokens (drop p (take n t)))
  word_is some r h g = sym (told_word (take (e - s) (drop s (take (n - 0) t))) (sym h ∙ g)) ∙ token_is some

-- the line that begins at i and ends before e
pub lines_at : (t : List ℕ) (i e : ℕ) → i < length t → e ≡ i + run 10 (drop i t) → lines (drop i t) ≡ take (e - i) (drop i t) ∷ lines (drop (e + 1) t)
lines_at t i e h he =
    let n : e - i ≡ run 10 (drop i t) = omega arith in
    let m : i + run 10 (drop i t) + 1 ≡ e + 1 = omega arith in
    pieces_run 10 (drop i t) (omega (arith, length-drop i t))
    ∙ ap₂ (λ k r. take k (drop i t) ∷ lines r) (sym n) (drop-drop 1 (run 10 (drop i t)) (drop i t) ∙ drop-drop (run 10 (drop i t) + 1) i t ∙ ap (λ k. drop k t) (omega arith))

pub next_line : (t : List ℕ) (i e n : ℕ) → i < length t → e ≡ i + run 10 (drop i t) → drop n t ≡ drop (e + 1) t → lines (drop i t) ≡ drop i (take e t) ∷ lines (drop n t)
next_line t i e n h he hn = lines_at t i e h he ∙ ap₂ (λ l r. l ∷ lines r) (between_is t i e) (sym hn)

pub past_end : (t : List ℕ) (e : ℕ) → length t ≤ e → drop e t ≡ drop (e + 1) t
past_end t e h = drop_all e t h ∙ sym (drop_all (e + 1) t (omega arith))

pub no_line : (t : List ℕ) (i : ℕ) → length t ≤ i → lines (drop i t) ≡ []
no_line t i h = ap lines (drop_all i t h)

abbrev top : List ℕ → Option ℕ
top [] = None
top (b ∷ bs) = Some b

lead_past : (bs : List ℕ) → Past bs → lead (tokens bs) ≡ top bs
lead_past [] h = refl
lead_past (b ∷ bs) h =
    let n = run_more 32 b bs h in
    ap lead (tokens_run (b ∷ bs) (omega arith)) ∙ ap (λ k. lead (take k (b ∷ bs) ∷ tokens (drop (run 32 (b ∷ bs)) (b ∷ bs)))) n

module _ (t : List ℕ) (n p s : ℕ) (hs : s ≡ p + spaces (drop p (take (n - 0) t))) where
  leads : lead (tokens (drop p (take n t))) ≡ top (drop s (take (n - 0) t))
  leads =
      let z : n - 0 ≡ n = omega arith in
      let l = take (n - 0) t in
      let here = drop-drop (spaces (drop p l)) p l ∙ ap (λ k. drop k l) (sym hs) in
      ap (λ k. lead (tokens (drop p (take k t)))) (sym z) ∙ ap lead (sym (tokens_spaces (drop p l))) ∙ lead_past _ (past_spaces (drop p l)) ∙ ap top here

  pub leads_none : length (take (n - 0) t) ≤ s → None ≡ lead (tokens (drop p (take n t)))
  leads_none h = sym (leads ∙ ap top (drop_all s (take (n - 0) t) h))

  pub leads_some : s < length (take (n - 0) t) → Some (get_or (take (n - 0) t) s 0) ≡ lead (tokens (drop p (take n t)))
  leads_some h = sym (leads ∙ ap top (drop_more (take (n - 0) t) s 0 h))

cond_some : {A : Type 0} (b : Bool) (x : A) → is_some (cond b (Some x) None) ≡ b
cond_some true x = refl
cond_some false x = refl

pub is_number_some : (t : List ℕ) → is_some (number t) ≡ is_number t
is_number_some t = cond_some (is_number t) (reads t)

-- the test of a token more
module _ (l : List ℕ) (p s e : ℕ) (hs : s ≡ p + spaces (drop p l)) (he : e ≡ s + run 32 (drop s l)) where
  pub numbers_end : s ≡ e → true ≡ all_numbers (tokens (drop p l))
  numbers_end h = sym (ap all_numbers (at_end l p s e hs he h))

  pub numbers_more : (s ≡ e → ⊥) → (b : Bool) → is_number (take (e - s) (drop s l)) ≡ b → all_numbers (tokens (drop p l)) ≡ (b && all_numbers (tokens (drop e l)))
  numbers_more h b n = ap all_numbers (at_token l p s e hs he h) ∙ ap (λ x. x && all_numbers (tokens (drop e l))) n

-- The line that opens a body, by its tokens. Assumes nothing.
use Rattle.std.proofs.Common.{◌≡◌, ℕ, Bool, true, false, cond, not, eqb, ◌&&◌, List, [], ◌∷◌, take, drop, unwrap_or, Ok, Err, Some, None, Result, codes, decimal, refl, sym, ap, ap₂, ◌∙◌, ⊎_elim}
use Rattle.std.proofs.lemmas.Bool.{cases_Bool, cond-true, cond-false, eqb-true}
use Rattle.refusals.specs.declared.Refusal.TheVariants.{BadBody}
use Rattle.lexer.specs.Numbers.{reads, all_numbers}
use Rattle.lexer.specs.Scans.{first}
use Rattle.nestformat.specs.declared.faults.LineFault.{LineFault}
use Rattle.nestformat.specs.declared.kinds.BodyKind.{BodyKind}
use Rattle.nestformat.specs.declared.kinds.BodyKind.TheVariants.{Outer}
use Rattle.nestformat.specs.declared.kinds.Contents.{Contents}
use Rattle.nestformat.specs.Limits.{from_to, map_limit}
use Rattle.nestformat.specs.Kinds.{letter_of, kind_named, same_kind}
use Rattle.nestformat.specs.Faults.{plain}
use Rattle.nestformat.specs.Items.{Item, body_line}
use Rattle.nestformat.specs.Due.{body_due, State, as_written, is_map, kind_at, natural, natural_at}
use Rattle.nestformat.proofs.KindLaws.{same_kind_is}
use Rattle.nestlines.specs.Tokens.{is_word, is_bad, is_end, opening_if, opening_told}
use Rattle.nestlines.specs.LineItems.{item_or_fault}
use Rattle.nestlines.proofs.Places.{line_step, line_stop, bad_one, drop_two, at_next, place_is}
use Rattle.nestlines.proofs.Placed.{item_of}
use Rattle.nestlines.proofs.KindLaws.{kind_is}

abbrev wrong : Result Item LineFault
wrong = Err (plain BadBody)

found : (a kb x e f : Bool) (k j : BodyKind) (m n : ℕ) → opening_if (a && e) (cond kb (Some k) None) (cond (x && f) (Some m) None) j n ≡ cond ((a && (kb && (x && e))) && f) (cond (same_kind k j && eqb m n) (Ok tt) (Err (plain BadBody))) (Err (plain BadBody))
found true true true true true k j m n = refl
found true true true true false k j m n = refl
found true true false true f k j m n = refl
found true false x true f k j m n = refl
found true true true false f k j m n = refl
found true true false false f k j m n = refl
found true false x false f k j m n = refl
found false kb x e f k j m n = refl

same : (w s q f : Bool) (k j : BodyKind) (m n : ℕ) → (s ≡ true → k ≡ j) → (q ≡ true → m ≡ n) → cond (w && (s && (q && f))) (Ok (body_line k m)) wrong ≡ item_of {T = Unit {0}} (λ _. body_line j n) (cond (w && f) (cond (s && q) (Ok tt) (Err (plain BadBody))) (Err (plain BadBody)))
same true true true true k j m n hs hq = ap₂ (λ a b. Ok (body_line a b)) (hs refl) (hq refl)
same true true true false k j m n hs hq = refl
same true true false true k j m n hs hq = refl
same true true false false k j m n hs hq = refl
same true false q true k j m n hs hq = refl
same true false q false k j m n hs hq = refl
same false s q f k j m n hs hq = refl

module _ (e : Contents) (s : State) (ts : List (List ℕ)) where
  abbrev d1 : List (List ℕ)
  d1 = drop 1 ts

  abbrev d2 : List (List ℕ)
  d2 = drop 1 d1

  abbrev d3 : List (List ℕ)
  d3 = drop 1 d2

  abbrev k : BodyKind
  k = kind_at 1 ts

  abbrev m : ℕ
  m = natural_at 2 ts

  written : as_written (body_due e) ts ≡ (is_word (codes "b") (first ts) && (is_word (letter_of k ∷ []) (first d1) && (is_word (decimal m) (first d2) && is_end (first d3))))
  written =
      line_step ts (codes "b") _
      ∙ ap (λ b. is_word (codes "b") (first ts) && b) (line_step d1 (letter_of k ∷ []) _
      ∙ ap (λ b. is_word (letter_of k ∷ []) (first d1) && b) (line_step d2 (decimal m) _
      ∙ ap (λ b. is_word (decimal m) (first d2) && b) (line_stop d3)))

  m_is : m ≡ natural_at 0 d2
  m_is = ap (λ t. natural (reads t)) (at_next 1 ts ∙ at_next 0 d1)

  k_is : kind_at 0 d1 ≡ k
  k_is = ap (λ t. unwrap_or (kind_named t) Outer) (sym (at_next 0 ts))

  pub opening_judged : item_or_fault (body_due e) s ts ≡ item_of {T = Unit {0}} (λ _. body_line e.kind s.map) (opening_told (first ts) (first d1) (first d2) (first d3) e.kind s.map)
  opening_judged =
      let bad : not (all_numbers (take 1 (drop 2 ts))) ≡ is_bad (first d2) = ap (λ l. not (all_numbers (take 1 l))) (drop_two ts) ∙ bad_one d2 in
      let a = is_word (codes "b") (first ts) in
      let kb = is_word (letter_of k ∷ []) (first d1) in
      let x = is_word (decimal m) (first d2) in
      let l = is_end (first d3) in
      ⊎_elim
      (λ (h : is_bad (first d2) ≡ true). cond-true _ _ _ (bad ∙ h) ∙ ap (item_of {T = Unit {0}} (λ _. body_line e.kind s.map)) (sym (cond-true _ _ _ h)))
      (λ (h : is_bad (first d2) ≡ false).
      let kinds = kind_is d1 ∙ ap (λ j. cond (is_word (letter_of j ∷ []) (first d1)) (Some j) None) k_is in
      cond-false _ _ _ (bad ∙ h)
      ∙ ap (λ w. cond (w && (same_kind k e.kind && (eqb m s.map && is_map m))) (Ok (body_line k m)) wrong) written
      ∙ same (a && (kb && (x && l))) (same_kind k e.kind) (eqb m s.map) (is_map m) k e.kind m s.map (same_kind_is k e.kind) (eqb-true m s.map)
      ∙ ap (item_of {T = Unit {0}} (λ _. body_line e.kind s.map)) (sym (found a kb x l (is_map m) k e.kind m s.map))
      ∙ ap₂ (λ o r. item_of {T = Unit {0}} (λ _. body_line e.kind s.map) (opening_if (a && l) o r e.kind s.map)) (sym kinds) (sym (place_is (from_to 1 map_limit) d2 m m_is h))
      ∙ ap (item_of {T = Unit {0}} (λ _. body_line e.kind s.map)) (sym (cond-false _ _ _ h)))
      (cases_Bool (is_bad (first d2)))

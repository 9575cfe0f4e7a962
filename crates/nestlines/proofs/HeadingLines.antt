-- The heading by its tokens. Assumes nothing.
use Rattle.std.proofs.Common.{◌≡◌, ℕ, Bool, true, false, cond, not, ◌&&◌, ◌||◌, List, take, drop, Ok, Err, Some, None, Result, codes, decimal, refl, sym, ap, ap₂, ◌∙◌, ⊎_elim}
use Rattle.std.proofs.lemmas.Bool.{cases_Bool, cond-true, cond-false, or_parts}
use Rattle.refusals.specs.declared.Refusal.TheVariants.{BadHeading}
use Rattle.lexer.specs.Numbers.{reads, all_numbers}
use Rattle.lexer.specs.Scans.{first}
use Rattle.nestformat.specs.declared.faults.LineFault.{LineFault}
use Rattle.nestformat.specs.Limits.{from_to, within, map_limit, body_limit}
use Rattle.nestformat.specs.Faults.{plain}
use Rattle.nestformat.specs.Items.{Item, heading_line}
use Rattle.nestformat.specs.Due.{heading_due, State, as_written, natural, natural_at}
use Rattle.nestlines.specs.Tokens.{is_word, is_bad, is_end, heading_if, heading_told}
use Rattle.nestlines.specs.LineItems.{item_or_fault}
use Rattle.nestlines.proofs.Places.{line_step, line_stop, bad_two, drop_two, at_next, place_is}
use Rattle.nestlines.proofs.Placed.{item_of}

abbrev wrong : Result Item LineFault
wrong = Err (plain BadHeading)

abbrev heading_item : ℕ → ℕ → Item
heading_item m k = heading_line (record { map = m; bodies = k })

-- the tests of the four tokens and the end, as the code has them
main : (a b x y e f g : Bool) (m k : ℕ) → cond ((a && (b && (x && (y && e)))) && (f && g)) (Ok (heading_item m k)) wrong ≡ item_of heading_line (heading_if (a && (b && e)) (cond (x && f) (Some m) None) (cond (y && g) (Some k) None))
main true true true true true true true m k = refl
main true true true true true true false m k = refl
main true true true true true false g m k = refl
main true true true true false f g m k = refl
main true true true false true true g m k = refl
main true true true false true false g m k = refl
main true true true false false f g m k = refl
main true true false y true f g m k = refl
main true true false y false f g m k = refl
main true false x y e f g m k = refl
main false b x y e f g m k = refl

module _ (s : State) (ts : List (List ℕ)) where
  abbrev d1 : List (List ℕ)
  d1 = drop 1 ts

  abbrev d2 : List (List ℕ)
  d2 = drop 1 d1

  abbrev d3 : List (List ℕ)
  d3 = drop 1 d2

  abbrev d4 : List (List ℕ)
  d4 = drop 1 d3

  abbrev m : ℕ
  m = natural_at 2 ts

  abbrev k : ℕ
  k = natural_at 3 ts

  written : as_written heading_due ts ≡ (is_word (codes "p") (first ts) && (is_word (codes "nest") (first d1) && (is_word (decimal m) (first d2) && (is_word (decimal k) (first d3) && is_end (first d4)))))
  written =
      line_step ts (codes "p") _
      ∙ ap (λ b. is_word (codes "p") (first ts) && b) (line_step d1 (codes "nest") _
      ∙ ap (λ b. is_word (codes "nest") (first d1) && b) (line_step d2 (decimal m) _
      ∙ ap (λ b. is_word (decimal m) (first d2) && b) (line_step d3 (decimal k) _
      ∙ ap (λ b. is_word (decimal k) (first d3) && b) (line_stop d4))))

  m_is : m ≡ natural_at 0 d2
  m_is = ap (λ t. natural (reads t)) (at_next 1 ts ∙ at_next 0 d1)

  k_is : k ≡ natural_at 0 d3
  k_is = ap (λ t. natural (reads t)) (at_next 2 ts ∙ at_next 1 d1 ∙ at_next 0 d2)

  pub heading_judged : item_or_fault heading_due s ts ≡ item_of heading_line (heading_told (first ts) (first d1) (first d2) (first d3) (first d4))
  heading_judged =
      let bad : not (all_numbers (take 2 (drop 2 ts))) ≡ (is_bad (first d2) || is_bad (first d3)) = ap (λ l. not (all_numbers (take 2 l))) (drop_two ts) ∙ bad_two d2 in
      ⊎_elim
      (λ (h : (is_bad (first d2) || is_bad (first d3)) ≡ true).
      cond-true _ _ _ (bad ∙ h) ∙ ap (item_of heading_line) (sym (cond-true _ _ _ h)))
      (λ (h : (is_bad (first d2) || is_bad (first d3)) ≡ false).
      let p = or_parts _ _ h in
      cond-false _ _ _ (bad ∙ h)
      ∙ ap (λ w. cond (w && (within (from_to 1 map_limit) m && within (from_to 1 body_limit) k)) (Ok (heading_item m k)) wrong) written
      ∙ main (is_word (codes "p") (first ts)) (is_word (codes "nest") (first d1)) (is_word (decimal m) (first d2)) (is_word (decimal k) (first d3)) (is_end (first d4)) (within (from_to 1 map_limit) m) (within (from_to 1 body_limit) k) m k
      ∙ ap₂ (λ x y. item_of heading_line (heading_if (is_word (codes "p") (first ts) && (is_word (codes "nest") (first d1) && is_end (first d4))) x y)) (sym (place_is (from_to 1 map_limit) d2 m m_is p.0)) (sym (place_is (from_to 1 body_limit) d3 k k_is p.1))
      ∙ ap (item_of heading_line) (sym (cond-false _ _ _ h)))
      (cases_Bool (is_bad (first d2) || is_bad (first d3)))

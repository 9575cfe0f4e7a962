-- The refusal of a line is the earliest that applies. Assumes nothing.
use Rattle.std.proofs.Common.{◌≡◌, ℕ, ◌≤◌, Bool, true, false, cond, not, ◌&&◌, ◌⊎◌, List, Ok, Err, Option, Result, sym, refl, ap, ◌∙◌, subst, inl, inr, ⊎_elim, arith}
use Rattle.std.proofs.lemmas.Bool.{both_ways, cond-true, cond-false}
use Rattle.refusals.specs.declared.Refusal.{Refusal}
use Rattle.refusals.specs.declared.Refusal.TheVariants.{CountOutOfRange, BadByte, BadNumber, BadContents, BadBody, RowRefused}
use Rattle.refusals.specs.Refusals.{number_of}
use Rattle.lexer.specs.Lines.{tokens, lead, clean}
use Rattle.lexer.specs.Numbers.{all_numbers}
use Rattle.nestformat.specs.declared.faults.LineFault.{LineFault}
use Rattle.nestformat.specs.Faults.{plain, caused}
use Rattle.nestformat.specs.Kinds.{atoms_told}
use Rattle.nestformat.specs.Items.{Item}
use Rattle.nestformat.specs.Due.{Slot, heading_due, contents_due, body_due, map_due, row_due, end_due, State, due, fits_at, says, as_written, number_at, kind_at}
use Rattle.nestformat.specs.Reading.{begins_row, of_sort, sort_refusal, number_places, contents_form, over_atoms, wrong, accept}
use Rattle.nestformat.specs.Earliest.{SaysRight, place_refusal, Applies, IsEarliest}
use Rattle.nestformat.proofs.Accepting.{spelled_line}

-- the tests of a line one after the other
pub data Judged (s : State) (x : Slot) (l : List ℕ) (e : LineFault) : Type 0 where
  bad_byte : clean l ≡ false → plain BadByte ≡ e → Judged s x l e
  other_sort : clean l ≡ true → of_sort x (lead (tokens l)) ≡ false → plain (sort_refusal x) ≡ e → Judged s x l e
  bad_number : clean l ≡ true → of_sort x (lead (tokens l)) ≡ true → all_numbers (number_places x (tokens l)) ≡ false → plain BadNumber ≡ e → Judged s x l e
  wrong_line : clean l ≡ true → of_sort x (lead (tokens l)) ≡ true → all_numbers (number_places x (tokens l)) ≡ true → wrong x s (tokens l) ≡ e → Judged s x l e

err_here : {A E : Type 0} (b : Bool) (d e : E) (r : Result A E) → cond (not b) (Err d) r ≡ Err e → ((b ≡ false) × (d ≡ e)) ⊎ ((b ≡ true) × (r ≡ Err e))
err_here true d e r h = inr (refl, h)
err_here false d e r h = inl (refl, cc)

err_last : {A E : Type 0} (b : Bool) (y : A) (d e : E) → cond b (Ok y) (Err d) ≡ Err e → d ≡ e
err_last true y d e h = cc
err_last false y d e h = cc

pub judged : (s : State) (l : List ℕ) (e : LineFault) → accept s l ≡ Err e → Judged s (due s.todo) l e
judged s l e h =
    let x = due s.todo in
    let ts = tokens l in
    ⊎_elim
    (λ (a : (clean l ≡ false) × (plain BadByte ≡ e)). bad_byte a.0 a.1)
    (λ (a : (clean l ≡ true) × (cond (not (of_sort x (lead ts))) (Err (plain (sort_refusal x))) (cond (not (all_numbers (number_places x ts))) (Err (plain BadNumber)) (cond (as_written x ts && fits_at x s (says x ts)) (Ok (says x ts)) (Err (wrong x s ts)))) ≡ Err e)).
    ⊎_elim
    (λ (b : (of_sort x (lead ts) ≡ false) × (plain (sort_refusal x) ≡ e)). other_sort a.0 b.0 b.1)
    (λ (b : (of_sort x (lead ts) ≡ true) × (cond (not (all_numbers (number_places x ts))) (Err (plain BadNumber)) (cond (as_written x ts && fits_at x s (says x ts)) (Ok (says x ts)) (Err (wrong x s ts))) ≡ Err e)).
    ⊎_elim
    (λ (c : (all_numbers (number_places x ts) ≡ false) × (plain BadNumber ≡ e)). bad_number a.0 b.0 c.0 c.1)
    (λ (c : (all_numbers (number_places x ts) ≡ true) × (cond (as_written x ts && fits_at x s (says x ts)) (Ok (says x ts)) (Err (wrong x s ts)) ≡ Err e)).
    wrong_line a.0 b.0 c.0 (err_last (as_written x ts && fits_at x s (says x ts)) (says x ts) (wrong x s ts) e c.1))
    (err_here (all_numbers (number_places x ts)) (plain BadNumber) e (cond (as_written x ts && fits_at x s (says x ts)) (Ok (says x ts)) (Err (wrong x s ts))) b.1))
    (err_here (of_sort x (lead ts)) (plain (sort_refusal x)) e (cond (not (all_numbers (number_places x ts))) (Err (plain BadNumber)) (cond (as_written x ts && fits_at x s (says x ts)) (Ok (says x ts)) (Err (wrong x s ts)))) a.1))
    (err_here (clean l) (plain BadByte) e (cond (not (of_sort x (lead ts))) (Err (plain (sort_refusal x))) (cond (not (all_numbers (number_places x ts))) (Err (plain BadNumber)) (cond (as_written x ts && fits_at x s (says x ts)) (Ok (says x ts)) (Err (wrong x s ts))))) h)

-- by its place

place_high : (x : Slot) (o : Option ℕ) → 13 ≤ number_of (place_refusal x o)
place_high heading_due o = omega arith
place_high contents_due o = omega arith
place_high (body_due e) o = omega arith
place_high (map_due e) o = by (begins_row o)
  where
    by : (b : Bool) → 13 ≤ number_of (cond b RowRefused BadBody)
    by true = omega arith
    by false = omega arith
place_high (row_due e) o = by (begins_row o)
  where
    by : (b : Bool) → 13 ≤ number_of (cond b RowRefused BadBody)
    by true = omega arith
    by false = omega arith
place_high end_due o = omega arith

sort_place : (x : Slot) (o : Option ℕ) → of_sort x o ≡ false → sort_refusal x ≡ place_refusal x o
sort_place heading_due o h = refl
sort_place contents_due o h = refl
sort_place (body_due e) o h = refl
sort_place (map_due e) o h = sym (cond-false _ _ _ h)
sort_place (row_due e) o h = sym (cond-false _ _ _ h)
sort_place end_due o h = refl

pub contents_wrong : (b : Bool) (c : Refusal) → (cond b (caused BadContents c) (plain BadContents)).refusal ≡ BadContents
contents_wrong true c = refl
contents_wrong false c = refl

wrong_place : (x : Slot) (s : State) (ts : List (List ℕ)) → of_sort x (lead ts) ≡ true → (wrong x s ts).refusal ≡ place_refusal x (lead ts)
wrong_place heading_due s ts h = refl
wrong_place contents_due s ts h = contents_wrong (contents_form ts && over_atoms (atoms_told (kind_at 1 ts) (number_at 2 ts) (number_at 3 ts))) CountOutOfRange
wrong_place (body_due e) s ts h = refl
wrong_place (map_due e) s ts h = sym (cond-true _ _ _ h)
wrong_place (row_due e) s ts h = sym (cond-true _ _ _ h)
wrong_place end_due s ts h = absurd (both_ways _ refl h)

-- what applies

least : (n : ℕ) (s : State) (l : List ℕ) (q : Refusal) → (clean l ≡ false → n ≤ 11) → (of_sort (due s.todo) (lead (tokens l)) ≡ true → all_numbers (number_places (due s.todo) (tokens l)) ≡ false → n ≤ 12) → (q ≡ place_refusal (due s.todo) (lead (tokens l)) → n ≤ number_of q) → Applies s l q → n ≤ number_of q
least n s l BadByte byte number place h = byte h
least n s l BadNumber byte number place h = number h.0 h.1
least n s l _ byte number place h = place h.0

at_place : (s : State) (l : List ℕ) (r : Refusal) → r ≡ place_refusal (due s.todo) (lead (tokens l)) → 13 ≤ number_of r → ((it : Item) → SaysRight s l it → ⊥) → Applies s l r
at_place s l BadByte q high none = absurd (omega arith)
at_place s l BadNumber q high none = absurd (omega arith)
at_place s l _ q high none = (q, none)

-- a line that is refused says no item that is right
none_said : (s : State) (l : List ℕ) (e : LineFault) → accept s l ≡ Err e → clean l ≡ true → (it : Item) → SaysRight s l it → ⊥
none_said s l e h c it w =
    let ok = spelled_line s l it (record { allowed = c; tokened = w.tokened; fitting = w.fitting }) in
    let z = sym h ∙ ok in
    cc

-- the refusal is that of the line's place
by_place : (s : State) (l : List ℕ) (e : LineFault) → accept s l ≡ Err e → clean l ≡ true → (of_sort (due s.todo) (lead (tokens l)) ≡ true → all_numbers (number_places (due s.todo) (tokens l)) ≡ false → ⊥) → e.refusal ≡ place_refusal (due s.todo) (lead (tokens l)) → IsEarliest s l e.refusal
by_place s l e h c numbers q =
    let high : 13 ≤ number_of e.refusal = subst (λ r. 13 ≤ number_of r) (sym q) (place_high (due s.todo) (lead (tokens l))) in
    record {
      applies = at_place s l e.refusal q high (none_said s l e h c);
      first = λ r a. least (number_of e.refusal) s l r
          (λ bad. absurd (both_ways _ bad c))
          (λ sort bad. absurd (numbers sort bad))
          (λ p. let same : e.refusal ≡ r = q ∙ sym p in let n : number_of e.refusal ≡ number_of r = ap number_of same in omega arith)
          a;
    }

earliest_of : (s : State) (l : List ℕ) (e : LineFault) → accept s l ≡ Err e → Judged s (due s.todo) l e → IsEarliest s l e.refusal
earliest_of s l e h (bad_byte c q) = subst (λ d. IsEarliest s l d.refusal) q (record {
  applies = c;
  first = λ r a. least 11 s l r (λ bad. omega arith) (λ sort bad. omega arith) (λ p. let high = subst (λ y. 13 ≤ number_of y) (sym p) (place_high (due s.todo) (lead (tokens l))) in omega arith) a;
})
earliest_of s l e h (other_sort c sort q) =
    by_place s l e h c (λ is bad. both_ways _ sort is) (ap (λ d. d.refusal) (sym q) ∙ sort_place (due s.todo) (lead (tokens l)) sort)
earliest_of s l e h (bad_number c sort bad q) = subst (λ d. IsEarliest s l d.refusal) q (record {
  applies = (sort, bad);
  first = λ r a. least 12 s l r (λ byte. absurd (both_ways _ byte c)) (λ is number. omega arith) (λ p. let high = subst (λ y. 13 ≤ number_of y) (sym p) (place_high (due s.todo) (lead (tokens l))) in omega arith) a;
})
earliest_of s l e h (wrong_line c sort numbers q) =
    by_place s l e h c (λ is bad. both_ways _ bad numbers) (ap (λ d. d.refusal) (sym q) ∙ wrong_place (due s.todo) s (tokens l) sort)

pub earliest : (s : State) (l : List ℕ) (e : LineFault) → accept s l ≡ Err e → IsEarliest s l e.refusal
earliest s l e h = earliest_of s l e h (judged s l e h)

-- A text is accepted just where it spells items that are right. Assumes nothing.
use Rattle.std.proofs.Common.{◌≡◌, ℕ, suc, ◌≤◌, Bool, true, false, cond, not, ◌&&◌, List, [], ◌∷◌, map, length, Ok, Err, Result, bytes_eq, nat_lt, sym, refl, ap, ◌∙◌, subst, ap₂, arith}
use Rattle.std.specs.List.{AllByRecursion}
use Rattle.std.proofs.lemmas.Slice.Eq.{bytes_eq-Decides}
use Rattle.std.proofs.lemmas.Bool.{both_ways, cond-true, cond-false, and_from, and_parts, not-false, not_from_true, ltb-false, le-ltb}
use Rattle.refusals.specs.declared.Fault.{Fault}
use Rattle.lexer.specs.Lines.{lines, tokens, lead, clean}
use Rattle.lexer.specs.Numbers.{all_numbers}
use Rattle.nestformat.specs.declared.faults.LineFault.{LineFault}
use Rattle.nestformat.specs.Limits.{text_limit}
use Rattle.nestformat.specs.Items.{Item, item_line}
use Rattle.nestformat.specs.Due.{Slot, State, start, due, advance, fits, fits_at, says, as_written, same_line}
use Rattle.nestformat.specs.Reading.{judge, accept, skipped, before, follow, finish, reading_from, reading, counted, finished, whole, of_sort, number_places}
use Rattle.nestformat.proofs.Backs.{back}

-- a refusal that did not come
ok_past : {A E : Type 0} (b : Bool) (e : E) (r : Result A E) (x : A) → cond b (Err e) r ≡ Ok x → (b ≡ false) × (r ≡ Ok x)
ok_past true e r x h = cc
ok_past false e r x h = (refl, h)

ok_here : {A E : Type 0} (b : Bool) (e : E) (y x : A) → cond b (Ok y) (Err e) ≡ Ok x → (b ≡ true) × (y ≡ x)
ok_here true e y x h = (refl, cc)
ok_here false e y x h = cc

pub same_line_true : (xs ys : List (List ℕ)) → same_line xs ys ≡ true → xs ≡ ys
same_line_true [] [] h = refl
same_line_true [] (y ∷ ys) h = absurd (both_ways _ refl h)
same_line_true (x ∷ xs) [] h = absurd (both_ways _ refl h)
same_line_true (x ∷ xs) (y ∷ ys) h =
    let p = and_parts (bytes_eq x y) (same_line xs ys) h in
    let a : x ≡ y = (bytes_eq-Decides x y).0 p.0 in
    let b : xs ≡ ys = same_line_true xs ys p.1 in
    cc

pub same_line_itself : (xs : List (List ℕ)) → same_line xs xs ≡ true
same_line_itself [] = refl
same_line_itself (x ∷ xs) = and_from _ _ ((bytes_eq-Decides x x).1 refl) (same_line_itself xs)

-- a line that is accepted is what is written of its item, and the item fits
pub record Spelling (s : State) (l : List ℕ) (it : Item) : Type 0 where
  pub allowed : clean l ≡ true
  pub tokened : tokens l ≡ item_line it
  pub fitting : fits s it ≡ true

pub accepted_line : (s : State) (l : List ℕ) (it : Item) → accept s l ≡ Ok it → Spelling s l it
accepted_line s l it h =
    let x = due s.todo in
    let ts = tokens l in
    let a = ok_past (not (clean l)) _ _ it h in
    let o = ok_past (not (of_sort x (lead ts))) _ _ it a.1 in
    let b = ok_past (not (all_numbers (number_places x ts))) _ _ it o.1 in
    let c = ok_here (as_written x ts && fits_at x s (says x ts)) _ _ it b.1 in
    let d = and_parts (as_written x ts) (fits_at x s (says x ts)) c.0 in
    record { allowed = not-false _ a.0; tokened = same_line_true ts _ d.0 ∙ ap item_line c.1; fitting = subst (λ i. fits_at x s i ≡ true) c.1 d.1 }

-- a line that is written of a fitting item is accepted as that item
pub spelled_line : (s : State) (l : List ℕ) (it : Item) → Spelling s l it → accept s l ≡ Ok it
spelled_line s l it h =
    let x = due s.todo in
    let ts = item_line it in
    let b = back x s it h.fitting in
    let a : as_written x ts ≡ true = subst (λ i. same_line ts (item_line i) ≡ true) (sym b.says_it) (same_line_itself ts) in
    let g : fits_at x s (says x ts) ≡ true = subst (λ i. fits_at x s i ≡ true) (sym b.says_it) h.fitting in
    ap₂ (λ ok us. judge x s ok us) h.allowed h.tokened
    ∙ cond-false _ _ _ (not_from_true _ b.sort)
    ∙ cond-false _ _ _ (not_from_true _ b.numbers)
    ∙ cond-true _ _ _ (and_from _ _ a g)
    ∙ ap Ok b.says_it

-- the lines cs are those of the items, which are right after s
pub record Spelled (s : State) (cs : List (List ℕ)) (its : List Item) : Type 0 where
  pub allowed : AllByRecursion (λ l. clean l ≡ true) cs
  pub tokened : map tokens cs ≡ map item_line its
  pub right : whole s its ≡ true

finish_ok : (s : State) (n : ℕ) (xs : List Slot) (its : List Item) → finish s n xs ≡ Ok its → (finished xs ≡ true) × ([] ≡ its)
finish_ok s n [] its h = (refl, cc)
finish_ok s n (x ∷ xs) its h = cc

-- what an accepted line and the accepted lines after it are read as
pub record Followed (r : Result Item LineFault) (more : Item → Result (List Item) Fault) (its : List Item) : Type 0 where
  pub one : Item
  pub rest : List Item
  pub first : r ≡ Ok one
  pub others : more one ≡ Ok rest
  pub all : one ∷ rest ≡ its

before_ok : (it : Item) (r : Result (List Item) Fault) (its : List Item) → before it r ≡ Ok its → (rest : List Item) × (r ≡ Ok rest) × (it ∷ rest ≡ its)
before_ok it (Ok rest) its h = (rest, refl, cc)
before_ok it (Err f) its h = cc

follow_ok : (s : State) (n : ℕ) (r : Result Item LineFault) (more : Item → Result (List Item) Fault) (its : List Item) → follow s n r more ≡ Ok its → Followed r more its
follow_ok s n (Ok it) more its h = let b = before_ok it (more it) its h in record { one = it; rest = b.0; first = refl; others = b.1; all = b.2 }
follow_ok s n (Err f) more its h = cc

-- one line more, by whether it is skipped; `more` is what is known of the lines after it
read_line : (s : State) (n : ℕ) (l : List ℕ) (ls : List (List ℕ)) (its : List Item) → ((s : State) (n : ℕ) (its : List Item) → reading_from s n ls ≡ Ok its → Spelled s (counted ls) its) → reading_from s n (l ∷ ls) ≡ Ok its → (b : Bool) → skipped (lead (tokens l)) ≡ b → Spelled s (counted (l ∷ ls)) its
read_line s n l ls its more h true e = subst (λ c. Spelled s c its) (sym (cond-true _ _ _ e)) (more s (suc n) its (sym (cond-true _ _ _ e) ∙ h))
read_line s n l ls its more h false e =
    let f = follow_ok s n (accept s l) (λ it. reading_from (advance s it) (suc n) ls) its (sym (cond-false _ _ _ e) ∙ h) in
    let a = accepted_line s l f.one f.first in
    let r = more (advance s f.one) (suc n) f.rest f.others in
    subst (λ c. Spelled s c its) (sym (cond-false _ _ _ e))
    (subst (Spelled s (l ∷ counted ls)) f.all (record {
      allowed = (a.allowed, r.allowed);
      tokened = ap₂ (λ x xs. x ∷ xs) a.tokened r.tokened;
      right = and_from _ _ a.fitting r.right;
    }))

pub read_is_spelled : (s : State) (n : ℕ) (ls : List (List ℕ)) (its : List Item) → reading_from s n ls ≡ Ok its → Spelled s (counted ls) its
read_is_spelled s n [] its h =
    let f = finish_ok s n s.todo its h in
    subst (Spelled s []) f.1 (record { allowed = tt; tokened = refl; right = f.0 })
read_is_spelled s n (l ∷ ls) its h = read_line s n l ls its (λ s n its h. read_is_spelled s n ls its h) h (skipped (lead (tokens l))) refl

counted_line : (s : State) (n : ℕ) (l : List ℕ) (ls : List (List ℕ)) (its : List Item) → ((s : State) (n : ℕ) (its : List Item) → Spelled s (counted ls) its → reading_from s n ls ≡ Ok its) → Spelled s (l ∷ counted ls) its → follow s n (accept s l) (λ it. reading_from (advance s it) (suc n) ls) ≡ Ok its
counted_line s n l ls [] more h = let e = h.tokened in cc
counted_line s n l ls (it ∷ its) more h =
    let t = h.tokened in
    let r = and_parts (fits s it) (whole (advance s it) its) h.right in
    let one : accept s l ≡ Ok it = spelled_line s l it (record { allowed = h.allowed.0; tokened = cc; fitting = r.0 }) in
    let rest = more (advance s it) (suc n) its (record { allowed = h.allowed.1; tokened = cc; right = r.1 }) in
    ap (λ q. follow s n q (λ it. reading_from (advance s it) (suc n) ls)) one ∙ ap (before it) rest

spelled_step : (s : State) (n : ℕ) (l : List ℕ) (ls : List (List ℕ)) (its : List Item) → ((s : State) (n : ℕ) (its : List Item) → Spelled s (counted ls) its → reading_from s n ls ≡ Ok its) → Spelled s (counted (l ∷ ls)) its → (b : Bool) → skipped (lead (tokens l)) ≡ b → reading_from s n (l ∷ ls) ≡ Ok its
spelled_step s n l ls its more h true e = cond-true _ _ _ e ∙ more s (suc n) its (subst (λ c. Spelled s c its) (cond-true _ _ _ e) h)
spelled_step s n l ls its more h false e = cond-false _ _ _ e ∙ counted_line s n l ls its more (subst (λ c. Spelled s c its) (cond-false _ _ _ e) h)

pub at_the_end : (s : State) (n : ℕ) (xs : List Slot) → finished xs ≡ true → finish s n xs ≡ Ok []
at_the_end s n [] h = refl
at_the_end s n (x ∷ xs) h = absurd (both_ways _ refl h)

pub spelled_is_read : (s : State) (n : ℕ) (ls : List (List ℕ)) (its : List Item) → Spelled s (counted ls) its → reading_from s n ls ≡ Ok its
spelled_is_read s n [] [] h = at_the_end s n s.todo h.right
spelled_is_read s n [] (it ∷ its) h = let e = h.tokened in cc
spelled_is_read s n (l ∷ ls) its h = spelled_step s n l ls its (λ s n its h. spelled_is_read s n ls its h) h (skipped (lead (tokens l))) refl

-- a text is accepted just where it is short enough and spells the items
pub accepted_short : (t : List ℕ) (its : List Item) → reading t ≡ Ok its → (length t ≤ text_limit) × Spelled start (counted (lines t)) its
accepted_short t its h =
    let p = ok_past (nat_lt text_limit (length t)) _ _ its h in
    (omega (arith, ltb-false 60000 (length t) p.0), read_is_spelled start 1 (lines t) its p.1)

pub short_accepted : (t : List ℕ) (its : List Item) → length t ≤ text_limit → Spelled start (counted (lines t)) its → reading t ≡ Ok its
short_accepted t its h g = cond-false _ _ _ (le-ltb 60000 (length t) h) ∙ spelled_is_read start 1 (lines t) its g

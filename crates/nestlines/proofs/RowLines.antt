-- The numbers of a row by its tokens. Assumes nothing.
use Rattle.std.proofs.Common.{◌≡◌, ℕ, suc, ◌+◌, ◌<◌, ◌≤◌, Bool, true, false, cond, not, eqb, ◌&&◌, List, [], ◌∷◌, ◌++◌, length, drop, map, ℤ, pos, negsuc, Ok, Err, Some, None, Option, is_none, codes, decimal, unsigned_abs, nat_lt, nat_le, Bor, w32, of_z, refl, sym, ap, ap₂, subst, ◌∙◌, ⊎_elim, arith, append_assoc, length-append}
use Rattle.std.specs.Fmt.{signed_decimal, digits}
use Rattle.std.specs.List.{list_all}
use Rattle.std.specs.Str.{bytes_eq}
use Rattle.std.proofs.lemmas.Bool.{both_ways, cases_Bool, cond-true, cond-false, and_parts, eq-eqb, eqb-true, ne_eqb, ltb-true, ltb-false, lt-leb, le-leb}
use Rattle.std.proofs.lemmas.Bool.Decides.{same_from_decides, nat_tests}
use Rattle.std.proofs.lemmas.Slice.Eq.{bytes_eq-Decides}
use Rattle.refusals.specs.declared.Fault.{Fault}
use Rattle.refusals.specs.declared.Refusal.{Refusal}
use Rattle.refusals.specs.declared.Refusal.TheVariants.{BadNumber, RowRefused}
use Rattle.lexer.specs.declared.reader.Token.{Token}
use Rattle.lexer.specs.declared.reader.Token.TheVariants.{Word, Number, LineEnd}
use Rattle.lexer.specs.declared.reader.Reader.{Reader}
use Rattle.lexer.specs.Numbers.{number_limit, reads, is_number, all_numbers}
use Rattle.lexer.specs.Scans.{word, numeral, line_end, seen, first, left, SameLine}
use Rattle.std.proofs.lemmas.List.{append-nil}
use Rattle.nestlines.specs.Tokens.{is_end}
use Rattle.nestlines.proofs.Places.{end_told}
use Rattle.lexer.proofs.Moves.{same_line_trans}
use Rattle.nestformat.specs.Faults.{plain, told_at}
use Rattle.lexer.proofs.Figures.{Small, written_back, reads_signed}
use Rattle.nestformat.specs.declared.faults.LineFault.{LineFault}
use Rattle.nestformat.specs.declared.kinds.Contents.{Contents}
use Rattle.nestformat.specs.Items.{row_line}
use Rattle.nestformat.specs.Due.{map_due, row_due, State, in_row, same_line, numbers_said, form, refusal_below}
use Rattle.nestlines.specs.Rows.{caused}
use Rattle.nestlines.specs.Closed.{row_number_limit, with_front, only_end, closed, fitting, RowRead, item_of_row}
use Rattle.nestlines.specs.LineItems.{item_or_fault}

-- the numbers zs were found between the two places of a reader, and the rest of the row is still to come
pub record Sofar (begun now : Reader) (zs : List ℤ) : Type 0 where
  pub tells : closed (left begun) ≡ with_front zs (closed (left now))
  pub all : all_numbers (left now) ≡ true
  pub few : length zs ≤ row_number_limit
  pub same : SameLine begun now

front_none : (o : Option (List ℤ)) → o ≡ with_front [] o
front_none None = refl
front_none (Some ws) = refl

front_push : (zs : List ℤ) (v : ℤ) (o : Option (List ℤ)) → with_front zs (with_front (v ∷ []) o) ≡ with_front (zs ++ v ∷ []) o
front_push zs v None = refl
front_push zs v (Some ws) = ap Some (sym (append_assoc zs (v ∷ []) ws))

pub begun : (r : Reader) (zs : List ℤ) → zs ≡ [] → all_numbers (left r) ≡ true → SameLine r r → Sofar r r zs
begun r zs e a s = record { tells = front_none _ ∙ ap (λ x. with_front x (closed (left r))) (sym e); all = a; few = subst (λ x. length x ≤ row_number_limit) (sym e) (omega arith); same = s }

-- the number that was read is the first token's
value_is : (t : List ℕ) (ts : List (List ℕ)) (b : List ℕ) (v : ℤ) → numeral b v ≡ first (t ∷ ts) → is_number t ≡ true → v ≡ reads t
value_is t ts b v h n = let e : numeral b v ≡ numeral t (reads t) = h ∙ cond-true _ _ _ n in cc

-- one number more, of the tokens ts
pub more : (ts rest : List (List ℕ)) (b : List ℕ) (v : ℤ) (zs ws : List ℤ) (o : Option (List ℤ)) → numeral b v ≡ first ts → rest ≡ drop 1 ts → all_numbers ts ≡ true → eqb (unsigned_abs v) 0 ≡ false → o ≡ with_front zs (closed ts) → ws ≡ zs ++ v ∷ [] → (o ≡ with_front ws (closed rest)) × (all_numbers rest ≡ true)
more [] rest b v zs ws o h r n x w e = let y : numeral b v ≡ line_end = h in absurd (cc)
more (t ∷ ts) rest b v zs ws o h r n x w e =
    let p = and_parts (is_number t) (all_numbers ts) n in
    let is = value_is t ts b v h p.0 in
    let c : closed (t ∷ ts) ≡ with_front (v ∷ []) (closed ts) = cond-false _ _ _ (ap (λ y. eqb (unsigned_abs y) 0) (sym is) ∙ x) ∙ ap (λ y. with_front (y ∷ []) (closed ts)) (sym is) in
    (w ∙ ap (with_front zs) c ∙ front_push zs v (closed ts) ∙ ap₂ (λ y q. with_front y (closed q)) (sym e) (sym r), ap all_numbers r ∙ p.1)

-- no number where one is due
pub lacks : (ts : List (List ℕ)) (r : Token) (zs : List ℤ) (o : Option (List ℤ)) → seen r ≡ first ts → all_numbers ts ≡ true → ((b : Bor (List ℕ)) (v : ℤ) (p : ℕ) → r ≡ Number b v p → ⊥) → o ≡ with_front zs (closed ts) → o ≡ None
lacks [] r zs o h n x w = w
lacks (t ∷ ts) (Word b p) zs o h n x w = let y : word b.now ≡ numeral t (reads t) = h ∙ cond-true _ _ _ (and_parts (is_number t) (all_numbers ts) n).0 in absurd (cc)
lacks (t ∷ ts) (Number b v p) zs o h n x w = absurd (x b v p refl)
lacks (t ∷ ts) (LineEnd p) zs o h n x w = let y : line_end ≡ numeral t (reads t) = h ∙ cond-true _ _ _ (and_parts (is_number t) (all_numbers ts) n).0 in absurd (cc)

-- the closing 0, with the rest of the line after it
at_zero : (ts : List (List ℕ)) (b : List ℕ) (v : ℤ) → numeral b v ≡ first ts → all_numbers ts ≡ true → eqb (unsigned_abs v) 0 ≡ true → closed ts ≡ only_end (drop 1 ts)
at_zero [] b v h n z = let y : numeral b v ≡ line_end = h in absurd (cc)
at_zero (t ∷ ts) b v h n z =
    let is = value_is t ts b v h (and_parts (is_number t) (all_numbers ts) n).0 in
    cond-true _ _ _ (ap (λ y. eqb (unsigned_abs y) 0) (sym is) ∙ z)

ended : (rest : List (List ℕ)) → line_end ≡ first rest → only_end rest ≡ Some []
ended [] e = refl
ended (t ∷ ts) e = absurd (both_ways _ (end_told t) (ap is_end (sym e)))

pub closes : (ts rest : List (List ℕ)) (b : List ℕ) (v : ℤ) (zs : List ℤ) (o : Option (List ℤ)) → numeral b v ≡ first ts → rest ≡ drop 1 ts → all_numbers ts ≡ true → eqb (unsigned_abs v) 0 ≡ true → o ≡ with_front zs (closed ts) → line_end ≡ first rest → o ≡ Some zs
closes ts rest b v zs o h r n z w e =
    w ∙ ap (with_front zs) (at_zero ts b v h n z ∙ ap only_end (sym r) ∙ ended rest e) ∙ ap Some (append-nil zs)

pub unclosed : (ts rest : List (List ℕ)) (b : List ℕ) (v : ℤ) (zs : List ℤ) (o : Option (List ℤ)) (r : Token) → numeral b v ≡ first ts → rest ≡ drop 1 ts → all_numbers ts ≡ true → eqb (unsigned_abs v) 0 ≡ true → o ≡ with_front zs (closed ts) → seen r ≡ first rest → ((p : ℕ) → r ≡ LineEnd p → ⊥) → o ≡ None
unclosed ts [] b v zs o (Word c p) h r n z w e x = let y : word c.now ≡ line_end = e in absurd (cc)
unclosed ts [] b v zs o (Number c u p) h r n z w e x = let y : numeral c.now u ≡ line_end = e in absurd (cc)
unclosed ts [] b v zs o (LineEnd p) h r n z w e x = absurd (x p refl)
unclosed ts (t ∷ rest) b v zs o r h d n z w e x = w ∙ ap (with_front zs) (at_zero ts b v h n z ∙ ap only_end (sym d))

not_zero : (v : ℤ) → (of_z w32 v ≡ 0 → ⊥) → eqb (unsigned_abs v) 0 ≡ false
not_zero (pos n) h = ne_eqb n 0 h
not_zero (negsuc n) h = ne_eqb (suc n) 0 (λ e. omega arith)

is_zero : (v : ℤ) → unsigned_abs v ≤ number_limit → of_z w32 v ≡ 0 → eqb (unsigned_abs v) 0 ≡ true
is_zero (pos n) s h = eq-eqb n 0 h
is_zero (negsuc n) s h = absurd (omega arith)

-- the value of a number is small
small_first : (ts : List (List ℕ)) (b : List ℕ) (v : ℤ) → numeral b v ≡ first ts → all_numbers ts ≡ true → unsigned_abs v ≤ number_limit
small_first [] b v h n = let y : numeral b v ≡ line_end = h in absurd (cc)
small_first (t ∷ ts) b v h n =
    let k = (and_parts (is_number t) (all_numbers ts) n).0 in
    subst (λ y. unsigned_abs y ≤ number_limit) (sym (value_is t ts b v h k)) (written_back t k).1

pub sofar_more : (r0 r1 r2 : Reader) (zs ws : List ℤ) (b : List ℕ) (v z : ℤ) (ok : Bool) → Sofar r0 r1 zs → numeral b v ≡ first (left r1) → left r2 ≡ drop 1 (left r1) → SameLine r1 r2 → (of_z w32 v ≡ 0 → ⊥) → ok ≡ nat_lt (length zs) row_number_limit → ok ≡ true → ws ≡ cond ok (zs ++ z ∷ []) zs → z ≡ v → Sofar r0 r2 ws
sofar_more r0 r1 r2 zs ws b v z ok s h d w x k y e back =
    let room : length zs < row_number_limit = ltb-true _ _ (sym k ∙ y) in
    let long : ws ≡ zs ++ v ∷ [] = e ∙ cond-true _ _ _ y ∙ ap (λ u. zs ++ u ∷ []) back in
    let counts : length ws ≡ length zs + 1 = ap length long ∙ length-append zs (v ∷ []) in
    let m = more (left r1) (left r2) b v zs ws (closed (left r0)) h d s.all (not_zero v x) s.tells long in
    record { tells = m.0; all = m.1; few = omega arith; same = same_line_trans s.same w }

-- more numbers than there is room for
over_front : (zs : List ℤ) (o : Option (List ℤ)) → row_number_limit < length zs → fitting (with_front zs o) ≡ None
over_front zs None h = refl
over_front zs (Some ws) h =
    let long : length (zs ++ ws) ≡ length zs + length ws = length-append zs ws in
    cond-false _ _ _ (lt-leb (length (zs ++ ws)) row_number_limit (omega arith))

pub over_full : (r0 r1 r2 : Reader) (zs : List ℤ) (b : List ℕ) (v : ℤ) (ok : Bool) → Sofar r0 r1 zs → numeral b v ≡ first (left r1) → left r2 ≡ drop 1 (left r1) → (of_z w32 v ≡ 0 → ⊥) → ok ≡ nat_lt (length zs) row_number_limit → ok ≡ false → fitting (closed (left r0)) ≡ None
over_full r0 r1 r2 zs b v ok s h d x k n =
    let full : row_number_limit ≤ length zs = ltb-false _ _ (sym k ∙ n) in
    let long : length (zs ++ v ∷ []) ≡ length zs + 1 = length-append zs (v ∷ []) in
    ap fitting (more (left r1) (left r2) b v zs (zs ++ v ∷ []) (closed (left r0)) h d s.all (not_zero v x) s.tells refl).0
    ∙ over_front (zs ++ v ∷ []) (closed (left r2)) (omega arith)

pub not_closed : (r0 r1 r2 : Reader) (zs : List ℤ) (b : List ℕ) (v : ℤ) (t : Token) → Sofar r0 r1 zs → numeral b v ≡ first (left r1) → left r2 ≡ drop 1 (left r1) → of_z w32 v ≡ 0 → seen t ≡ first (left r2) → ((p : ℕ) → t ≡ LineEnd p → ⊥) → fitting (closed (left r0)) ≡ None
not_closed r0 r1 r2 zs b v t s h d z e x = ap fitting (unclosed (left r1) (left r2) b v zs (closed (left r0)) t h d s.all (is_zero v (small_first (left r1) b v h s.all) z) s.tells e x)

pub all_closed : (r0 r1 r2 : Reader) (zs : List ℤ) (b : List ℕ) (v : ℤ) → Sofar r0 r1 zs → numeral b v ≡ first (left r1) → left r2 ≡ drop 1 (left r1) → of_z w32 v ≡ 0 → line_end ≡ first (left r2) → fitting (closed (left r0)) ≡ Some zs
all_closed r0 r1 r2 zs b v s h d z e =
    ap fitting (closes (left r1) (left r2) b v zs (closed (left r0)) h d s.all (is_zero v (small_first (left r1) b v h s.all) z) s.tells e)
    ∙ cond-true _ _ _ (le-leb (length zs) row_number_limit s.few)

-- what fits is what is closed, where there are few tokens
abbrev Short : Option (List ℤ) → ℕ → Type 0
Short None n = Unit {0}
Short (Some zs) n = length zs ≤ n

short_front : (z : ℤ) (o : Option (List ℤ)) (n m : ℕ) → m ≡ n + 1 → Short o n → Short (with_front (z ∷ []) o) m
short_front z None n m e h = tt
short_front z (Some zs) n m e h = let k : length ((z ∷ []) ++ zs) ≡ 1 + length zs = length-append (z ∷ []) zs in omega arith

short_end : (ts : List (List ℕ)) (n : ℕ) → Short (only_end ts) n
short_end [] n = omega arith
short_end (t ∷ ts) n = tt

closed_short : (ts : List (List ℕ)) → Short (closed ts) (length ts)
closed_short [] = tt
closed_short (t ∷ ts) = ⊎_elim
    (λ (h : eqb (unsigned_abs (reads t)) 0 ≡ true). subst (λ o. Short o (length (t ∷ ts))) (sym (cond-true _ _ _ h)) (short_end ts (length (t ∷ ts))))
    (λ (h : eqb (unsigned_abs (reads t)) 0 ≡ false). subst (λ o. Short o (length (t ∷ ts))) (sym (cond-false _ _ _ h)) (short_front (reads t) (closed ts) (length ts) (length (t ∷ ts)) (omega arith) (closed_short ts)))
    (cases_Bool (eqb (unsigned_abs (reads t)) 0))

short_fits : (o : Option (List ℤ)) (n : ℕ) → Short o n → n ≤ row_number_limit → fitting o ≡ o
short_fits None n h k = refl
short_fits (Some zs) n h k = cond-true _ _ _ (le-leb (length zs) row_number_limit (omega arith))

-- and what fits is closed
pub closed_read : (o : Option (List ℤ)) (zs : List ℤ) → fitting o ≡ Some zs → o ≡ Some zs
closed_read None zs h = h
closed_read (Some ws) zs h = ⊎_elim
    (λ (k : nat_le (length ws) row_number_limit ≡ true). sym (cond-true _ _ _ k) ∙ h)
    (λ (k : nat_le (length ws) row_number_limit ≡ false). let y : None ≡ Some zs = sym (cond-false _ _ _ k) ∙ h in absurd (cc))
    (cases_Bool (nat_le (length ws) row_number_limit))

closed_fits : (ts : List (List ℕ)) → length ts ≤ row_number_limit → fitting (closed ts) ≡ closed ts
closed_fits ts h = short_fits (closed ts) (length ts) (closed_short ts) h

-- what a row of numbers says, by its tokens and as it is written

none_is_zero : (z : ℤ) → unsigned_abs z ≡ 0 → z ≡ pos 0
none_is_zero (pos n) h = ap pos h
none_is_zero (negsuc n) h = absurd (omega arith)

zero_text : decimal 0 ≡ codes "0"
unfolding digits
zero_text = refl

zero_signed : (z : ℤ) → Small z → bytes_eq (signed_decimal z) (codes "0") ≡ eqb (unsigned_abs z) 0
zero_signed z s =
    same_from_decides _ _ (bytes_eq-Decides (signed_decimal z) (codes "0")) (
      (λ e. ap signed_decimal (none_is_zero z (eqb-true _ _ e)) ∙ zero_text),
      (λ (e : signed_decimal z ≡ codes "0"). eq-eqb _ _ (ap unsigned_abs (sym (reads_signed z s) ∙ ap reads (e ∙ sym zero_text) ∙ reads_signed (pos 0) (omega arith)))),
    )

zero_written : (t : List ℕ) → is_number t ≡ true → bytes_eq t (codes "0") ≡ eqb (unsigned_abs (reads t)) 0
zero_written t h =
    let w = written_back t h in
    ap (λ x. bytes_eq x (codes "0")) w.0 ∙ zero_signed (reads t) w.1

one_left : (a : Bool) (zs : List ℤ) → cond a (Some zs) None ≡ cond ((a && true) && true) (Some zs) None
one_left true zs = refl
one_left false zs = refl

more_left : (b s e : Bool) (z : ℤ) (zs : List ℤ) → cond b None (with_front (z ∷ []) (cond (s && e) (Some zs) None)) ≡ cond (s && (not b && e)) (Some (z ∷ zs)) None
more_left true true e z zs = refl
more_left true false e z zs = refl
more_left false true true z zs = refl
more_left false true false z zs = refl
more_left false false e z zs = refl

in_row_is : (z : ℤ) → unsigned_abs z ≤ number_limit → in_row z ≡ not (eqb (unsigned_abs z) 0)
in_row_is z h = grind (arith, nat_tests)

pub closed_says : (ts : List (List ℕ)) → all_numbers ts ≡ true → closed ts ≡ cond (same_line ts (map signed_decimal (numbers_said ts) ++ codes "0" ∷ []) && list_all in_row (numbers_said ts)) (Some (numbers_said ts)) None
closed_says [] h = refl
closed_says (t ∷ []) h =
    let z = zero_written t (and_parts (is_number t) true h).0 in
    one_left (eqb (unsigned_abs (reads t)) 0) [] ∙ ap (λ a. cond {A = Option (List ℤ)} ((a && true) && true) (Some []) None) (sym z)
closed_says (t ∷ u ∷ us) h =
    let p = and_parts (is_number t) (all_numbers (u ∷ us)) h in
    let w = written_back t p.0 in
    let q : bytes_eq t (signed_decimal (reads t)) ≡ true = (bytes_eq-Decides t (signed_decimal (reads t))).1 w.0 in
    let zs = numbers_said (u ∷ us) in
    let s = same_line (u ∷ us) (map signed_decimal zs ++ codes "0" ∷ []) in
    ap (λ o. cond (eqb (unsigned_abs (reads t)) 0) None (with_front (reads t ∷ []) o)) (closed_says (u ∷ us) p.1)
    ∙ more_left (eqb (unsigned_abs (reads t)) 0) s (list_all in_row zs) (reads t) zs
    ∙ ap₂ (λ a b. cond ((a && s) && (b && list_all in_row zs)) (Some (reads t ∷ zs)) None) (sym q) (sym (in_row_is (reads t) w.1))

-- the judge of a row, by what is closed

by_form : (f : Bool) (o : Option Refusal) (zs : List ℤ) → cond (f && is_none o) (Ok (row_line zs)) (Err (record { refusal = RowRefused; cause = cond f o None })) ≡ item_of_row zs (cond f (caused o) (Some None))
by_form true None zs = refl
by_form true (Some c) zs = refl
by_form false o zs = refl

by_tests : (w r f : Bool) (o : Option Refusal) (zs : List ℤ) → (w && r) ≡ true → cond (w && ((r && f) && is_none o)) (Ok (row_line zs)) (Err (record { refusal = RowRefused; cause = cond (w && (r && f)) o None })) ≡ item_of_row zs (cond f (caused o) (Some None))
by_tests true true f o zs h = by_form f o zs
by_tests true false f o zs h = absurd (both_ways false refl h)
by_tests false r f o zs h = absurd (both_ways false refl h)

unsaid : (w r f : Bool) (o : Option Refusal) (zs : List ℤ) → (w && r) ≡ false → cond (w && ((r && f) && is_none o)) (Ok (row_line zs)) (Err (record { refusal = RowRefused; cause = cond (w && (r && f)) o None })) ≡ Err (plain RowRefused)
unsaid true true f o zs h = absurd (both_ways true h refl)
unsaid true false f o zs h = refl
unsaid false r f o zs h = refl

-- the row is closed, or not
abbrev Closing : List (List ℕ) → Bool → Type 0
Closing ts b = (same_line ts (map signed_decimal (numbers_said ts) ++ codes "0" ∷ []) && list_all in_row (numbers_said ts)) ≡ b

is_closed : (ts : List (List ℕ)) (zs : List ℤ) → all_numbers ts ≡ true → closed ts ≡ Some zs → (zs ≡ numbers_said ts) × Closing ts true
is_closed ts zs h c = ⊎_elim
    (λ (e : Closing ts true). let y : Some zs ≡ Some (numbers_said ts) = sym c ∙ closed_says ts h ∙ cond-true _ _ _ e in (cc, e))
    (λ (e : Closing ts false). let y : Some zs ≡ None = sym c ∙ closed_says ts h ∙ cond-false _ _ _ e in absurd (cc))
    (cases_Bool (same_line ts (map signed_decimal (numbers_said ts) ++ codes "0" ∷ []) && list_all in_row (numbers_said ts)))

is_open : (ts : List (List ℕ)) → all_numbers ts ≡ true → closed ts ≡ None → Closing ts false
is_open ts h c = ⊎_elim
    (λ (e : Closing ts true). let y : None ≡ Some (numbers_said ts) = sym c ∙ closed_says ts h ∙ cond-true _ _ _ e in absurd (cc))
    (λ (e : Closing ts false). e)
    (cases_Bool (same_line ts (map signed_decimal (numbers_said ts) ++ codes "0" ∷ []) && list_all in_row (numbers_said ts)))

module _ (e : Contents) (s : State) (ts : List (List ℕ)) (h : all_numbers ts ≡ true) where
  pub map_closed : (zs : List ℤ) → closed ts ≡ Some zs → item_or_fault (map_due e) s ts ≡ item_of_row zs (cond (form (map_due e) zs) (caused (refusal_below (map_due e) s zs)) (Some None))
  map_closed zs c =
      let p = is_closed ts zs h c in
      cond-false _ _ _ (ap not h)
      ∙ by_tests _ _ (form (map_due e) (numbers_said ts)) (refusal_below (map_due e) s (numbers_said ts)) (numbers_said ts) p.1
      ∙ ap (λ x. item_of_row x (cond (form (map_due e) x) (caused (refusal_below (map_due e) s x)) (Some None))) (sym p.0)

  pub map_open : closed ts ≡ None → item_or_fault (map_due e) s ts ≡ Err (plain RowRefused)
  map_open c = cond-false _ _ _ (ap not h) ∙ unsaid _ _ (form (map_due e) (numbers_said ts)) (refusal_below (map_due e) s (numbers_said ts)) (numbers_said ts) (is_open ts h c)

  pub row_closed : (zs : List ℤ) → closed ts ≡ Some zs → item_or_fault (row_due e) s ts ≡ item_of_row zs (cond (form (row_due e) zs) (caused (refusal_below (row_due e) s zs)) (Some None))
  row_closed zs c =
      let p = is_closed ts zs h c in
      cond-false _ _ _ (ap not h)
      ∙ by_tests _ _ (form (row_due e) (numbers_said ts)) (refusal_below (row_due e) s (numbers_said ts)) (numbers_said ts) p.1
      ∙ ap (λ x. item_of_row x (cond (form (row_due e) x) (caused (refusal_below (row_due e) s x)) (Some None))) (sym p.0)

  pub row_open : closed ts ≡ None → item_or_fault (row_due e) s ts ≡ Err (plain RowRefused)
  row_open c = cond-false _ _ _ (ap not h) ∙ unsaid _ _ (form (row_due e) (numbers_said ts)) (refusal_below (row_due e) s (numbers_said ts)) (numbers_said ts) (is_open ts h c)

-- a row that could not be read
pub map_unread : (e : Contents) (s : State) (n b : ℕ) (ts : List (List ℕ)) (zs : List ℤ) (g : Fault) → length ts ≤ row_number_limit → RowRead {T = Unit {0}} ts zs n b (Err g) → (f : LineFault) × (item_or_fault (map_due e) s ts ≡ Err f) × (g ≡ told_at f n b)
map_unread e s n b ts zs g f h = ⊎_elim
    (λ (w : (all_numbers ts ≡ false) × (g ≡ told_at (plain BadNumber) n b)). (plain BadNumber, cond-true _ _ _ (ap not w.0), w.1))
    (λ (w : (all_numbers ts ≡ true) × (fitting (closed ts) ≡ None) × (g ≡ told_at (plain RowRefused) n b)). (plain RowRefused, map_open e s ts w.0 (sym (closed_fits ts f) ∙ w.1), w.2))
    h.1

pub row_unread : (e : Contents) (s : State) (n b : ℕ) (ts : List (List ℕ)) (zs : List ℤ) (g : Fault) → length ts ≤ row_number_limit → RowRead {T = Unit {0}} ts zs n b (Err g) → (f : LineFault) × (item_or_fault (row_due e) s ts ≡ Err f) × (g ≡ told_at f n b)
row_unread e s n b ts zs g f h = ⊎_elim
    (λ (w : (all_numbers ts ≡ false) × (g ≡ told_at (plain BadNumber) n b)). (plain BadNumber, cond-true _ _ _ (ap not w.0), w.1))
    (λ (w : (all_numbers ts ≡ true) × (fitting (closed ts) ≡ None) × (g ≡ told_at (plain RowRefused) n b)). (plain RowRefused, row_open e s ts w.0 (sym (closed_fits ts f) ∙ w.1), w.2))
    h.1

-- Digits that are what is written of their number. Assumes nothing.
use Rattle.std.proofs.Common.{◌≡◌, ℕ, zero, suc, ◌+◌, ◌-◌, ◌*◌, ◌^◌, ◌<◌, ◌≤◌, Bool, true, false, cond, ◌&&◌, eqb, leb, ltb, List, [], ◌∷◌, length, get_or, take, drop, ℤ, pos, negsuc, neg_ℤ, nat_abs, Some, None, decimal, Option, sym, refl, ap, ◌∙◌, subst, ⊎_elim, arith}
use Rattle.std.specs.Str.Parse.{digits_value, AllDigits}
use Rattle.std.specs.Fmt.{signed_decimal, digits}
use Rattle.std.specs.Str.{bytes_eq}
use Rattle.std.specs.Cmp.Lexicographic.{pointwise}
use Rattle.std.proofs.lemmas.Fmt.{decimal_is_IsNumeral, decimal_nonempty, decimal-digits_value, decimal_digit, length-decimal-le, first_decimal}
use Rattle.std.proofs.lemmas.Int.Digits.{digits_value_more, digits_more}
use Rattle.std.proofs.lemmas.Slice.Eq.{bytes_eq-Decides}
use Rattle.std.proofs.lemmas.List.{length-take}
use Rattle.std.proofs.lemmas.Str.Parse.{IsNumeralModel, numerals_by_value, tells_digits, digit_at, digits_value_short}
use Rattle.std.proofs.lemmas.Str.{digit_value_digit}
use Rattle.std.proofs.lemmas.Bool.{cond-true, cond-false, cases_Bool, both_ways, and_from, and_parts, le-leb, leb-true, lt-ltb, ltb-true, cases_lt, cases_eq, eq-eqb, eqb-true}
use Rattle.lexer.specs.Numbers.{digit, padded, is_magnitude, magnitude, number}

own : IsNumeralModel (AllDigits 10) (digits_value 10)
own = numerals_by_value (AllDigits 10) tells_digits

-- what a magnitude is
pub record Figure (ds : List ℕ) : Type 0 where
  pub is : ds ≡ decimal (digits_value 10 ds)
  pub small : digits_value 10 ds ≤ 1000000
  pub numeral : AllDigits 10 ds
  pub some : 0 < length ds
  pub short : length ds ≤ 7
  pub led : get_or ds 0 0 ≡ 48 → length ds ≡ 1

figure : (ds : List ℕ) → is_magnitude ds ≡ true → Figure ds
figure ds h =
    let v = digits_value 10 ds in
    let p = and_parts (bytes_eq ds (decimal v)) (leb v 1000000) h in
    let e : ds ≡ decimal v = (bytes_eq-Decides ds (decimal v)).0 p.0 in
    let m : v ≤ 1000000 = leb-true v 1000000 p.1 in
    let w : v < 2 ^ 64 = omega arith in
    record {
      is = e;
      small = m;
      numeral = subst (AllDigits 10) (sym e) (decimal_is_IsNumeral v w).0.1;
      some = subst (λ l. 0 < length l) (sym e) (decimal_nonempty v w);
      short = subst (λ l. length l ≤ 7) (sym e) (length-decimal-le 7 v (omega arith) (omega arith) w);
      led = λ z.
          ⊎_elim
          (λ (nil : v ≡ 0). ap length (e ∙ ap decimal nil ∙ decimal_digit 0 (omega arith)))
          (λ (more : v ≡ 0 → ⊥). let f : 48 < get_or (decimal v) 0 0 = first_decimal v (omega arith) w in absurd (omega (arith, ap (λ l. get_or l 0 0) e)))
          (cases_eq v 0);
    }

-- what is no figure is no magnitude
pub none : (ds : List ℕ) → (Figure ds → ⊥) → None ≡ magnitude ds
none ds h = ⊎_elim (λ t. absurd (h (figure ds t))) (λ f. sym (cond-false _ _ _ f)) (cases_Bool (is_magnitude ds))

pub none_outside : (ds : List ℕ) (i : ℕ) → i < length ds → ((48 ≤ get_or ds i 0) × (get_or ds i 0 ≤ 57) → ⊥) → None ≡ magnitude ds
none_outside ds i l h = none ds (λ f. h (digit_at ds i f.numeral l))

pub none_long : (ds : List ℕ) → 7 < length ds → None ≡ magnitude ds
none_long ds h = none ds (λ f. omega (arith, f.short))

pub none_empty : (ds : List ℕ) → length ds ≡ 0 → None ≡ magnitude ds
none_empty ds h = none ds (λ f. omega (arith, f.some))

pub none_padded : (ds : List ℕ) → padded ds ≡ true → None ≡ magnitude ds
none_padded ds h =
    let p = and_parts (ltb 1 (length ds)) (eqb (get_or ds 0 0) 48) h in
    none ds (λ f. omega (arith, f.led (eqb-true _ _ p.1), ltb-true _ _ p.0))

pub not_padded : (ds : List ℕ) → padded ds ≡ false → 0 < length ds → get_or ds 0 0 ≡ 48 → length ds ≡ 1
not_padded ds h s z = ⊎_elim (λ (more : 1 < length ds). absurd (both_ways (padded ds) h (and_from _ _ (lt-ltb 1 (length ds) more) (eq-eqb _ _ z)))) (λ (m : length ds ≤ 1). omega arith) (cases_lt 1 (length ds))

pub none_large : (ds : List ℕ) → 1000000 < digits_value 10 ds → None ≡ magnitude ds
none_large ds h = none ds (λ f. omega (arith, f.small))

pub some_magnitude : (ds : List ℕ) → AllDigits 10 ds → 0 < length ds → (get_or ds 0 0 ≡ 48 → length ds ≡ 1) → digits_value 10 ds ≤ 1000000 → Some (digits_value 10 ds) ≡ magnitude ds
some_magnitude ds d s led m =
    let e : decimal (digits_value 10 ds) ≡ ds = decimal-digits_value own ds d s led (omega arith) in
    sym (cond-true _ _ _ (and_from _ _ ((bytes_eq-Decides ds _).1 (sym e)) (le-leb _ _ m)))

-- what a digit is
pub record IsDigit (b d : ℕ) : Type 0 where
  pub low : 48 ≤ b
  pub high : b ≤ 57
  pub is : d ≡ b - 48

pub digit_some : (b d : ℕ) → digit b ≡ Some d → IsDigit b d
digit_some b d h =
    ⊎_elim
    (λ (t : leb 48 b && leb b 57 ≡ true). let p = and_parts (leb 48 b) (leb b 57) t in let e : b - 48 ≡ d = (let c = sym (cond-true {A = Option ℕ} (leb 48 b && leb b 57) (Some (b - 48)) None t) ∙ h in cc) in record { low = leb-true 48 b p.0; high = leb-true b 57 p.1; is = sym e })
    (λ (f : leb 48 b && leb b 57 ≡ false). let c = sym (cond-false {A = Option ℕ} (leb 48 b && leb b 57) (Some (b - 48)) None f) ∙ h in let z : ◌≡◌ {A = ℕ} 0 1 = cc in absurd (omega arith))
    (cases_Bool (leb 48 b && leb b 57))

pub digit_none : (b : ℕ) → digit b ≡ None → (48 ≤ b) × (b ≤ 57) → ⊥
digit_none b h r =
    let c = sym (cond-true {A = Option ℕ} (leb 48 b && leb b 57) (Some (b - 48)) None (and_from _ _ (le-leb 48 b r.0) (le-leb b 57 r.1))) ∙ h in
    let z : ◌≡◌ {A = ℕ} 0 1 = cc in omega arith

-- a digit more
pub value_step : (ds : List ℕ) (i d n : ℕ) → i < length ds → digit (get_or ds i 0) ≡ Some d → AllDigits 10 (take i ds) × (n ≡ digits_value 10 (take i ds)) → AllDigits 10 (take (i + 1) ds) × (n * 10 + d ≡ digits_value 10 (take (i + 1) ds))
value_step ds i d n l e s =
    let g = digit_some (get_or ds i 0) d e in
    let w = digit_value_digit (get_or ds i 0) (g.low, g.high) in
    (digits_more 10 ds i l s.0 (omega (arith, g.high)), omega (arith, digits_value_more 10 ds i l, g.is, s.1))

pub value_bound : (ds : List ℕ) (i : ℕ) → length ds ≤ 7 → AllDigits 10 (take i ds) → digits_value 10 (take i ds) < 10 ^ 7
value_bound ds i h d = digits_value_short own (take i ds) 7 d (omega (arith, length-take i ds))

-- a number with a minus
abbrev pub minus_of : Option ℕ → Option ℤ
minus_of None = None
minus_of (Some zero) = None
minus_of (Some (suc n)) = Some (negsuc n)

cond_zero : (b : Bool) → None ≡ minus_of (cond b (Some 0) None)
cond_zero true = refl
cond_zero false = refl

cond_minus : (b : Bool) (n : ℕ) → cond b (Some (negsuc n)) None ≡ minus_of (cond b (Some (suc n)) None)
cond_minus true n = refl
cond_minus false n = refl

minus_at : (ds : List ℕ) (v : ℕ) → cond (bytes_eq (45 ∷ ds) (signed_decimal (neg_ℤ (pos v))) && leb (nat_abs (neg_ℤ (pos v))) 1000000) (Some (neg_ℤ (pos v))) None ≡ minus_of (cond (bytes_eq ds (decimal v) && leb v 1000000) (Some v) None)
unfolding digits
minus_at ds zero = cond_zero _
minus_at ds (suc n) = cond_minus (bytes_eq ds (decimal (suc n)) && leb (suc n) 1000000) n

pub number_minus : (bs : List ℕ) → get_or bs 0 0 ≡ 45 → number bs ≡ minus_of (magnitude (drop 1 bs))
number_minus [] h = absurd (omega arith)
number_minus (b ∷ ds) h = subst (λ x. number (x ∷ ds) ≡ minus_of (magnitude ds)) (sym h) (minus_at ds (digits_value 10 ds))

pub magnitude_small : (ds : List ℕ) (n : ℕ) → magnitude ds ≡ Some n → n ≤ 1000000
magnitude_small ds n h =
    ⊎_elim
    (λ (t : is_magnitude ds ≡ true). let e : digits_value 10 ds ≡ n = (let c = sym (cond-true {A = Option ℕ} (is_magnitude ds) (Some (digits_value 10 ds)) None t) ∙ h in cc) in omega (arith, (figure ds t).small))
    (λ (f : is_magnitude ds ≡ false). let c = sym (cond-false {A = Option ℕ} (is_magnitude ds) (Some (digits_value 10 ds)) None f) ∙ h in let z : ◌≡◌ {A = ℕ} 0 1 = cc in absurd (omega arith))
    (cases_Bool (is_magnitude ds))

-- what it is to begin with a minus
pub minus_front : (bs : List ℕ) → pointwise eqb (take 1 bs) (45 ∷ []) ≡ true → get_or bs 0 0 ≡ 45
minus_front [] h = cc
minus_front (b ∷ bs) h = eqb-true b 45 (and_parts (eqb b 45) true h).0

pub minus_none : (bs ds : List ℕ) → pointwise eqb (take 1 bs) (45 ∷ []) ≡ true → ds ≡ drop 1 bs → None ≡ magnitude ds → None ≡ number bs
minus_none bs ds h e n = sym (number_minus bs (minus_front bs h) ∙ ap minus_of (ap magnitude (sym e) ∙ sym n))

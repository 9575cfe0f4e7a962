-- Numbers as they are written. Assumes nothing.
use Rattle.std.proofs.Common.{◌≡◌, ℕ, suc, ◌^◌, ◌<◌, ◌≤◌, true, false, eqb, ◌⊎◌, List, get_or, ℤ, pos, negsuc, neg_ℤ, nat_abs, decimal, sym, refl, ap, ◌∙◌, subst, inl, inr, arith}
use Rattle.std.specs.Fmt.{signed_decimal}
use Rattle.std.proofs.lemmas.Fmt.{decimal_is_IsNumeral, decimal_nonempty}
use Rattle.std.proofs.lemmas.Str.Parse.{digit_at}
use Rattle.std.proofs.lemmas.Slice.Eq.{bytes_eq-Decides}
use Rattle.std.proofs.lemmas.Bool.{cond-false, ne_eqb, and_from, and_parts, le-leb, leb-true, or_left, or_right}
use Rattle.std.specs.List.{AllByRecursion as All}
use Rattle.std.proofs.ByRecursion.{All-from_get_or}
use Rattle.lexer.proofs.Cutting.{Solid, Good}
use Rattle.lexer.specs.Numbers.{reads, is_number}

abbrev pub Small : ℤ → Type 0
Small z = nat_abs z ≤ 1000000

-- the first byte of a written natural is a digit
first_digit : (n : ℕ) → n < 2 ^ 64 → (48 ≤ get_or (decimal n) 0 0) × (get_or (decimal n) 0 0 ≤ 57)
first_digit n h = digit_at (decimal n) 0 (decimal_is_IsNumeral n h).0.1 (decimal_nonempty n h)

pub reads_signed : (z : ℤ) → Small z → reads (signed_decimal z) ≡ z
reads_signed (pos n) h =
    let d = first_digit n (omega arith) in
    let m : eqb (get_or (decimal n) 0 0) 45 ≡ false = ne_eqb _ _ (λ e. omega arith) in
    cond-false _ _ _ m ∙ ap pos (decimal_is_IsNumeral n (omega arith)).1
reads_signed (negsuc n) h = ap (λ v. neg_ℤ (pos v)) (decimal_is_IsNumeral (suc n) (omega arith)).1

pub number_signed : (z : ℤ) → Small z → is_number (signed_decimal z) ≡ true
number_signed z h = and_from _ _ ((bytes_eq-Decides _ _).1 (ap signed_decimal (sym (reads_signed z h)))) (le-leb _ _ (subst Small (sym (reads_signed z h)) h))

pub written_back : (t : List ℕ) → is_number t ≡ true → (t ≡ signed_decimal (reads t)) × Small (reads t)
written_back t h = let p = and_parts _ _ h in ((bytes_eq-Decides _ _).0 p.0, leb-true _ _ p.1)

pub solid_digit : (b : ℕ) → (48 ≤ b) × (b ≤ 57) → Solid b
solid_digit b h = record {
  allows = or_right _ _ (or_left _ _ (and_from _ _ (le-leb 48 b h.0) (le-leb b 57 h.1)));
  spaceless = ne_eqb b 32 (λ e. omega arith);
  endless = ne_eqb b 10 (λ e. omega arith);
}

solid_decimal : (n : ℕ) → n < 2 ^ 64 → All Solid (decimal n)
solid_decimal n h = All-from_get_or Solid (decimal n) 0 (λ i l. solid_digit _ (digit_at (decimal n) i (decimal_is_IsNumeral n h).0.1 l))

pub good_signed : (z : ℤ) → Small z → Good (signed_decimal z)
good_signed (pos n) h = (decimal_nonempty n (omega arith), solid_decimal n (omega arith))
good_signed (negsuc n) h = (omega arith, (record { allows = refl; spaceless = refl; endless = refl }, solid_decimal (suc n) (omega arith)))

-- a number opens with a digit or a minus
pub opens_signed : (z : ℤ) → Small z → ((get_or (signed_decimal z) 0 0 ≡ 45) ⊎ (48 ≤ get_or (signed_decimal z) 0 0)) × (get_or (signed_decimal z) 0 0 ≤ 57)
opens_signed (pos n) h = let d = first_digit n (omega arith) in (inr d.0, d.1)
opens_signed (negsuc n) h = (inl refl, omega arith)

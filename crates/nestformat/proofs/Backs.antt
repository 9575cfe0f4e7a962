-- What is written of an item that fits is read as that item. Assumes nothing.
use Rattle.std.proofs.Common.{◌≡◌, ℕ, ◌≤◌, true, false, ◌&&◌, ◌⊎◌, List, [], ◌∷◌, ◌++◌, map, get_or, ℤ, pos, nat_abs, codes, decimal, is_none, nat_le, refl, ap, ◌∙◌, ap₂, ⊎_elim, arith}
use Rattle.std.specs.List.{AllByRecursion, list_all}
use Rattle.std.specs.Fmt.{signed_decimal, digits}
use Rattle.std.proofs.lemmas.Bool.{both_ways, and_from, and_parts, leb-true, le-leb, or_left, or_right, eq-eqb, ne_eqb}
use Rattle.lexer.specs.Lines.{lead}
use Rattle.lexer.specs.Numbers.{reads, is_number, all_numbers}
use Rattle.lexer.proofs.Cutting.{Solid, Good}
use Rattle.lexer.proofs.Figures.{Small, reads_signed, number_signed, good_signed, opens_signed}
use Rattle.nestformat.specs.declared.kinds.BodyKind.{BodyKind}
use Rattle.nestformat.specs.declared.kinds.BodyKind.TheVariants.{Outer, Nest, Below, Loop, Milliamperes, Lines}
use Rattle.nestformat.specs.declared.kinds.Contents.{Contents}
use Rattle.nestformat.specs.declared.kinds.Heading.{Heading}
use Rattle.nestformat.specs.Limits.{map_limit, body_limit, Range, from_to, within}
use Rattle.nestformat.specs.Kinds.{letter_of, size_range, own_range, rows_range, in_ranges, atoms_in, same_kind}
use Rattle.nestformat.specs.Items.{Item, heading_line, contents_line, body_line, row_line, item_line}
use Rattle.nestformat.specs.Due.{Slot, heading_due, contents_due, body_due, map_due, row_due, State, fits_at, says, front, natural, in_row, is_map, form, well_formed, refusal_below, in_order}
use Rattle.nestformat.specs.Reading.{of_sort, number_places, begins_row, skipped}
use Rattle.nestformat.proofs.KindLaws.{kind_back}

-- the line of an item that fits where x is due
pub record Back (x : Slot) (it : Item) : Type 0 where
  pub says_it : says x (item_line it) ≡ it
  pub numbers : all_numbers (number_places x (item_line it)) ≡ true
  pub sort : of_sort x (lead (item_line it)) ≡ true
  pub good : AllByRecursion Good (item_line it)
  pub kept : skipped (lead (item_line it)) ≡ false

-- numbers

natural_back : (n : ℕ) → n ≤ 1000000 → natural (reads (decimal n)) ≡ n
natural_back n h = ap natural (reads_signed (pos n) h)

number_back : (n : ℕ) → n ≤ 1000000 → is_number (decimal n) ≡ true
number_back n h = number_signed (pos n) h

good_decimal : (n : ℕ) → n ≤ 1000000 → Good (decimal n)
good_decimal n h = good_signed (pos n) h

pub within_high : (r : Range) (n : ℕ) → within r n ≡ true → n ≤ r.high
within_high r n h = leb-true n r.high (and_parts (nat_le r.low n) (nat_le n r.high) h).1

within_low : (r : Range) (n : ℕ) → within r n ≡ true → r.low ≤ n
within_low r n h = leb-true r.low n (and_parts (nat_le r.low n) (nat_le n r.high) h).0

small : (r : Range) (n : ℕ) → within r n ≡ true → r.high ≤ 1000000 → n ≤ 1000000
small r n h l = let m = within_high r n h in omega arith

size_high : (k : BodyKind) → (size_range k).high ≤ 1000000
size_high Outer = omega arith
size_high Nest = omega arith
size_high Below = omega arith
size_high Loop = omega arith
size_high Milliamperes = omega arith
size_high Lines = omega arith

own_high : (k : BodyKind) → (own_range k).high ≤ 1000000
own_high Nest = omega arith
own_high Below = omega arith
own_high _ = omega arith

rows_high : (k : BodyKind) → (rows_range k).high ≤ 1000000
rows_high Outer = omega arith
rows_high Nest = omega arith
rows_high Below = omega arith
rows_high _ = omega arith

pub map_small : (m : ℕ) → is_map m ≡ true → m ≤ 1000000
map_small m h = small (from_to 1 map_limit) m h (omega arith)

-- the numbers of a contents line
pub record SmallContents (e : Contents) : Type 0 where
  pub size : e.size ≤ 1000000
  pub own : e.own ≤ 1000000
  pub rows : e.rows ≤ (rows_range e.kind).high
  pub low : (rows_range e.kind).low ≤ e.rows
  pub plain_rows : e.rows ≤ 1000000
  pub sized : e.size ≤ (size_range e.kind).high
  pub atoms : atoms_in e ≤ 200

pub contents_small : (e : Contents) → in_ranges e ≡ true → SmallContents e
contents_small e h =
    let q = and_parts (within (size_range e.kind) e.size && within (own_range e.kind) e.own) (within (rows_range e.kind) e.rows && nat_le (atoms_in e) 200) h in
    let a = and_parts (within (size_range e.kind) e.size) (within (own_range e.kind) e.own) q.0 in
    let r = and_parts (within (rows_range e.kind) e.rows) (nat_le (atoms_in e) 200) q.1 in
    record {
      size = small (size_range e.kind) e.size a.0 (size_high e.kind);
      own = small (own_range e.kind) e.own a.1 (own_high e.kind);
      rows = within_high (rows_range e.kind) e.rows r.0;
      low = within_low (rows_range e.kind) e.rows r.0;
      plain_rows = small (rows_range e.kind) e.rows r.0 (rows_high e.kind);
      sized = within_high (size_range e.kind) e.size a.0;
      atoms = leb-true (atoms_in e) 200 r.1;
    }

-- tokens

solid : (b : ℕ) → 97 ≤ b → b ≤ 122 → Solid b
solid b low high = record {
  allows = or_left _ _ (and_from _ _ (le-leb 97 b low) (le-leb b 122 high));
  spaceless = ne_eqb b 32 (λ e. omega arith);
  endless = ne_eqb b 10 (λ e. omega arith);
}

good_one : (b : ℕ) → Solid b → Good (b ∷ [])
good_one b s = (omega arith, (s, tt))

good_letter : (k : BodyKind) → Good (letter_of k ∷ [])
good_letter Outer = good_one 111 (solid 111 (omega arith) (omega arith))
good_letter Nest = good_one 110 (solid 110 (omega arith) (omega arith))
good_letter Below = good_one 109 (solid 109 (omega arith) (omega arith))
good_letter Loop = good_one 108 (solid 108 (omega arith) (omega arith))
good_letter Milliamperes = good_one 100 (solid 100 (omega arith) (omega arith))
good_letter Lines = good_one 119 (solid 119 (omega arith) (omega arith))

good_nest : Good (codes "nest")
good_nest = (omega arith, (solid 110 (omega arith) (omega arith), (solid 101 (omega arith) (omega arith), (solid 115 (omega arith) (omega arith), (solid 116 (omega arith) (omega arith), tt)))))

-- heading, contents and body lines

heading_back : (h : Heading) → h.map ≤ 1000000 → h.bodies ≤ 1000000 → Back heading_due (heading_line h)
heading_back h m k = record {
  says_it = ap heading_line (λ i. record { map = natural_back h.map m i; bodies = natural_back h.bodies k i });
  numbers = and_from _ _ (number_back h.map m) (and_from _ _ (number_back h.bodies k) refl);
  sort = refl;
  good = (good_one 112 (solid 112 (omega arith) (omega arith)), (good_nest, (good_decimal h.map m, (good_decimal h.bodies k, tt))));
  kept = refl;
}

contents_back : (e : Contents) → e.size ≤ 1000000 → e.own ≤ 1000000 → e.rows ≤ 1000000 → Back contents_due (contents_line e)
contents_back e a b r = record {
  says_it = ap contents_line (λ i. record { kind = kind_back e.kind i; size = natural_back e.size a i; own = natural_back e.own b i; rows = natural_back e.rows r i });
  numbers = and_from _ _ (number_back e.size a) (and_from _ _ (number_back e.own b) (and_from _ _ (number_back e.rows r) refl));
  sort = refl;
  good = (good_one 116 (solid 116 (omega arith) (omega arith)), (good_letter e.kind, (good_decimal e.size a, (good_decimal e.own b, (good_decimal e.rows r, tt)))));
  kept = refl;
}

body_back : (e : Contents) (k : BodyKind) (m : ℕ) → m ≤ 1000000 → Back (body_due e) (body_line k m)
body_back e k m h = record {
  says_it = ap₂ body_line (kind_back k) (natural_back m h);
  numbers = and_from _ _ (number_back m h) refl;
  sort = refl;
  good = (good_one 98 (solid 98 (omega arith) (omega arith)), (good_letter k, (good_decimal m h, tt)));
  kept = refl;
}

-- rows

pub in_row_small : (zs : List ℤ) → list_all in_row zs ≡ true → AllByRecursion Small zs
in_row_small [] h = tt
in_row_small (z ∷ zs) h =
    let p = and_parts (in_row z) (list_all in_row zs) h in
    (within_high _ (nat_abs z) p.0, in_row_small zs p.1)

reads_row : (zs : List ℤ) → AllByRecursion Small zs → map reads (map signed_decimal zs) ≡ zs
reads_row [] h = refl
reads_row (z ∷ zs) h = ap₂ (λ x xs. x ∷ xs) (reads_signed z h.0) (reads_row zs h.1)

front_row : (zs : List ℤ) → front (map signed_decimal zs ++ codes "0" ∷ []) ≡ map signed_decimal zs
front_row [] = refl
front_row (z ∷ []) = refl
front_row (z ∷ y ∷ zs) = ap (λ l. signed_decimal z ∷ l) (front_row (y ∷ zs))

pub numbers_back : (zs : List ℤ) → AllByRecursion Small zs → map reads (front (item_line (row_line zs))) ≡ zs
numbers_back zs h = ap (map reads) (front_row zs) ∙ reads_row zs h

row_says : (zs : List ℤ) → AllByRecursion Small zs → row_line (map reads (front (item_line (row_line zs)))) ≡ row_line zs
row_says zs h = ap row_line (numbers_back zs h)

row_numbers : (zs : List ℤ) → AllByRecursion Small zs → all_numbers (item_line (row_line zs)) ≡ true
unfolding digits
row_numbers [] h = refl
row_numbers (z ∷ zs) h = and_from _ _ (number_signed z h.0) (row_numbers zs h.1)

first_is : (t : List ℕ) (ts : List (List ℕ)) → Good t → ((get_or t 0 0 ≡ 45) ⊎ (48 ≤ get_or t 0 0)) × (get_or t 0 0 ≤ 57) → (begins_row (lead (t ∷ ts)) ≡ true) × (skipped (lead (t ∷ ts)) ≡ false)
first_is [] ts g h = absurd (omega (arith, g.0))
first_is (b ∷ t) ts g h = (
  ⊎_elim (λ e. or_right _ _ (eq-eqb b 45 e)) (λ d. or_left _ _ (and_from _ _ (le-leb 48 b d) (le-leb b 57 h.1))) h.0,
  ne_eqb b 99 (λ e. omega arith),
)

row_opens : (zs : List ℤ) → AllByRecursion Small zs → (begins_row (lead (item_line (row_line zs))) ≡ true) × (skipped (lead (item_line (row_line zs))) ≡ false)
row_opens [] h = (refl, refl)
row_opens (z ∷ zs) h = first_is (signed_decimal z) (item_line (row_line zs)) (good_signed z h.0) (opens_signed z h.0)

row_good : (zs : List ℤ) → AllByRecursion Small zs → AllByRecursion Good (item_line (row_line zs))
row_good [] h = ((omega arith, (record { allows = refl; spaceless = refl; endless = refl }, tt)), tt)
row_good (z ∷ zs) h = (good_signed z h.0, row_good zs h.1)

fitting_small : (x : Slot) (s : State) (zs : List ℤ) → (well_formed x zs && is_none (refusal_below x s zs)) ≡ true → AllByRecursion Small zs
fitting_small x s zs h = in_row_small zs (and_parts (list_all in_row zs) (form x zs) (and_parts (well_formed x zs) (is_none (refusal_below x s zs)) h).0).0

map_back : (e : Contents) (zs : List ℤ) → AllByRecursion Small zs → Back (map_due e) (row_line zs)
map_back e zs h = record { says_it = row_says zs h; numbers = row_numbers zs h; sort = (row_opens zs h).0; good = row_good zs h; kept = (row_opens zs h).1 }

row_back : (e : Contents) (zs : List ℤ) → AllByRecursion Small zs → Back (row_due e) (row_line zs)
row_back e zs h = record { says_it = row_says zs h; numbers = row_numbers zs h; sort = (row_opens zs h).0; good = row_good zs h; kept = (row_opens zs h).1 }

-- whatever fits

pub back : (x : Slot) (s : State) (it : Item) → fits_at x s it ≡ true → Back x it
back heading_due s (heading_line h) f =
    let p = and_parts (is_map h.map) _ f in
    heading_back h (map_small h.map p.0) (small (from_to 1 body_limit) h.bodies p.1 (omega arith))
back contents_due s (contents_line e) f =
    let c = contents_small e (and_parts (in_ranges e) (in_order e.kind s.contents) f).0 in
    contents_back e c.size c.own c.plain_rows
back (body_due e) s (body_line k m) f =
    let p = and_parts (same_kind k e.kind) _ f in
    body_back e k m (map_small m (and_parts _ (is_map m) p.1).1)
back (map_due e) s (row_line zs) f = map_back e zs (fitting_small (map_due e) s zs f)
back (row_due e) s (row_line zs) f = row_back e zs (fitting_small (row_due e) s zs f)
back _ s it f = absurd (both_ways _ refl f)

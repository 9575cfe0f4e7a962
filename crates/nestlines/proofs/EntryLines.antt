-- A line of the contents by its tokens. Assumes nothing.
use Rattle.std.proofs.Common.{◌≡◌, ℕ, Bool, true, false, cond, not, eqb, ◌&&◌, ◌||◌, List, [], ◌∷◌, length, take, drop, ℤ, Ok, Err, Some, None, Option, Result, is_some, codes, decimal, refl, sym, ap, ap₂, ◌∙◌, ⊎_elim, arith, nat_le}
use Rattle.std.specs.Str.{bytes_eq}
use Rattle.std.proofs.lemmas.Bool.{both_ways, cases_Bool, cond-true, cond-false, or_parts, ne_eqb}
use Rattle.refusals.specs.declared.Refusal.TheVariants.{BadContents, CountOutOfRange}
use Rattle.assignments.specs.Limits.{atom_limit}
use Rattle.lexer.specs.Numbers.{reads, is_number, all_numbers}
use Rattle.lexer.specs.Scans.{first, told, numeral, line_end}
use Rattle.nestformat.specs.declared.faults.LineFault.{LineFault}
use Rattle.nestformat.specs.declared.kinds.BodyKind.{BodyKind}
use Rattle.nestformat.specs.declared.kinds.Contents.{Contents}
use Rattle.nestformat.specs.Limits.{within}
use Rattle.nestformat.specs.Kinds.{letter_of, kind_named, size_range, own_range, rows_range, atoms_told, atoms_in, in_ranges}
use Rattle.nestformat.specs.Faults.{plain, caused}
use Rattle.nestformat.specs.Items.{contents_line}
use Rattle.nestformat.specs.Due.{contents_due, State, as_written, in_order, token_at, number_at, kind_at, natural, natural_at}
use Rattle.nestformat.specs.Reading.{contents_form, contents_fault, over_atoms}
use Rattle.nestlines.specs.Tokens.{is_word, is_bad, is_end, kind_seen}
use Rattle.nestlines.specs.Entries.{entry_fits, contents_fault_told, right_or_fault, value_seen, contents_if, contents_told}
use Rattle.nestlines.specs.LineItems.{item_or_fault}
use Rattle.nestlines.proofs.Places.{line_step, line_stop, bad_three, bad_told, word_told, number_told, number_test, drop_two, end_told, kind_told}
use Rattle.nestlines.proofs.Placed.{item_of}
use Rattle.nestlines.proofs.KindLaws.{kind_is}

abbrev wrong : Result Contents LineFault
wrong = Err (plain BadContents)

none_last : (b : Bool) (o : Option BodyKind) (x y : Option ℤ) (es : List Contents) → contents_if b o x y None es ≡ wrong
none_last true None x y es = refl
none_last true (Some k) None y es = refl
none_last true (Some k) (Some a) None es = refl
none_last true (Some k) (Some a) (Some b) es = refl
none_last false o x y es = refl

all_some : (a kb e : Bool) (k : BodyKind) (x y z : ℤ) (es : List Contents) → contents_if (a && e) (cond kb (Some k) None) (Some x) (Some y) (Some z) es ≡ cond (a && (kb && e)) (right_or_fault k x y z es) wrong
all_some true true true k x y z es = refl
all_some true true false k x y z es = refl
all_some true false true k x y z es = refl
all_some true false false k x y z es = refl
all_some false kb e k x y z es = refl

-- a token that lacks
lacks : (a b x y e g : Bool) → ((a && (b && (x && (y && (false && e))))) && g) ≡ false
lacks true true true true e g = refl
lacks true true true false e g = refl
lacks true true false y e g = refl
lacks true false x y e g = refl
lacks false b x y e g = refl

shuffle : (x y z x1 y1 z1 l o : Bool) → ((x && (y && (z && true))) && (((x1 && y1) && (z1 && l)) && o)) ≡ (((x && x1) && ((y && y1) && ((z && z1) && l))) && o)
shuffle true true true true true true l o = refl
shuffle true true true true true false l o = refl
shuffle true true true true false z1 l o = refl
shuffle true true true false y1 z1 l o = refl
shuffle true true false true true z1 l o = refl
shuffle true true false true false z1 l o = refl
shuffle true true false false y1 z1 l o = refl
shuffle true false z true y1 z1 l o = refl
shuffle true false z false y1 z1 l o = refl
shuffle false y z x1 y1 z1 l o = refl

ends : (x y z : Bool) → (x && (y && (z && false))) ≡ false
ends true true true = refl
ends true true false = refl
ends true false z = refl
ends false y z = refl

-- all the tests together, as the code has them
main : (a kb e x y z x1 y1 z1 l o v : Bool) (c : Contents) → item_of contents_line (cond ((a && (kb && (x && (y && (z && e))))) && (((x1 && y1) && (z1 && l)) && o)) (Ok c) (Err (cond ((a && (kb && e)) && v) (caused BadContents CountOutOfRange) (plain BadContents)))) ≡ item_of contents_line (cond (a && (kb && e)) (cond (((x && x1) && ((y && y1) && ((z && z1) && l))) && o) (Ok c) (Err (cond v (caused BadContents CountOutOfRange) (plain BadContents)))) wrong)
main true true true x y z x1 y1 z1 l o v c = ap (λ b. item_of contents_line (cond b (Ok c) (Err (cond v (caused BadContents CountOutOfRange) (plain BadContents))))) (shuffle x y z x1 y1 z1 l o)
main true true false x y z x1 y1 z1 l o v c = ap (λ b. item_of contents_line (cond (b && (((x1 && y1) && (z1 && l)) && o)) (Ok c) wrong)) (ends x y z)
main true false e x y z x1 y1 z1 l o v c = refl
main false kb e x y z x1 y1 z1 l o v c = refl

item_of_cond : (b : Bool) (c : Contents) (f : LineFault) → cond b (Ok (contents_line c)) (Err f) ≡ item_of contents_line (cond b (Ok c) (Err f))
item_of_cond true c f = refl
item_of_cond false c f = refl

module _ (s : State) (ts : List (List ℕ)) where
  abbrev d1 : List (List ℕ)
  d1 = drop 1 ts

  abbrev d2 : List (List ℕ)
  d2 = drop 1 d1

  abbrev d3 : List (List ℕ)
  d3 = drop 1 d2

  abbrev d4 : List (List ℕ)
  d4 = drop 1 d3

  abbrev d5 : List (List ℕ)
  d5 = drop 1 d4

  abbrev k : BodyKind
  k = kind_at 1 ts

  abbrev entry : Contents
  entry = record { kind = k; size = natural_at 2 ts; own = natural_at 3 ts; rows = natural_at 4 ts }

  abbrev Past : Type 0
  Past = cond (as_written contents_due ts && (in_ranges entry && in_order k s.contents)) (Ok (contents_line entry)) (Err (contents_fault ts)) ≡ item_of contents_line (contents_if (is_word (codes "t") (first ts) && is_end (first d5)) (kind_seen (first d1)) (value_seen (first d2)) (value_seen (first d3)) (value_seen (first d4)) s.contents)

  written : as_written contents_due ts ≡ (is_word (codes "t") (first ts) && (is_word (letter_of k ∷ []) (first d1) && (is_word (decimal entry.size) (first d2) && (is_word (decimal entry.own) (first d3) && (is_word (decimal entry.rows) (first d4) && is_end (first d5))))))
  written =
      line_step ts (codes "t") _
      ∙ ap (λ b. is_word (codes "t") (first ts) && b) (line_step d1 (letter_of k ∷ []) _
      ∙ ap (λ b. is_word (letter_of k ∷ []) (first d1) && b) (line_step d2 (decimal entry.size) _
      ∙ ap (λ b. is_word (decimal entry.size) (first d2) && b) (line_step d3 (decimal entry.own) _
      ∙ ap (λ b. is_word (decimal entry.own) (first d3) && b) (line_step d4 (decimal entry.rows) _
      ∙ ap (λ b. is_word (decimal entry.rows) (first d4) && b) (line_stop d5)))))

  -- fewer than five tokens
  short : first d4 ≡ line_end → eqb (length ts) 5 ≡ false → Past
  short e n =
      cond-false _ _ _ (ap (λ w. w && (in_ranges entry && in_order k s.contents)) (written ∙ ap (λ t. is_word (codes "t") (first ts) && (is_word (letter_of k ∷ []) (first d1) && (is_word (decimal entry.size) (first d2) && (is_word (decimal entry.own) (first d3) && (is_word (decimal entry.rows) t && is_end (first d5)))))) e) ∙ lacks (is_word (codes "t") (first ts)) (is_word (letter_of k ∷ []) (first d1)) (is_word (decimal entry.size) (first d2)) (is_word (decimal entry.own) (first d3)) (is_end (first d5)) (in_ranges entry && in_order k s.contents))
      ∙ ap (λ b. Err (cond ((b && (bytes_eq (token_at 0 ts) (codes "t") && is_some (kind_named (token_at 1 ts)))) && over_atoms (atoms_told k (number_at 2 ts) (number_at 3 ts))) (caused BadContents CountOutOfRange) (plain BadContents))) n
      ∙ ap (item_of contents_line) (sym (ap (λ t. contents_if (is_word (codes "t") (first ts) && is_end (first d5)) (kind_seen (first d1)) (value_seen (first d2)) (value_seen (first d3)) (value_seen t) s.contents) e ∙ none_last _ _ _ _ _))

number_from : (t : List ℕ) → is_bad (told t) ≡ false → is_number t ≡ true
number_from t h = ⊎_elim (λ y. y) (λ (no : is_number t ≡ false). absurd (both_ways _ h (bad_told t ∙ ap not no))) (cases_Bool (is_number t))

five : (rest : List (List ℕ)) (a b c d e : List ℕ) → eqb (length (a ∷ b ∷ c ∷ d ∷ e ∷ rest)) 5 ≡ is_end (first rest)
five [] a b c d e = refl
five (t ∷ rest) a b c d e = ne_eqb _ 5 (λ h. omega arith) ∙ sym (end_told t)

some_kind : (b : Bool) (k : BodyKind) → is_some (cond b (Some k) None) ≡ b
some_kind true k = refl
some_kind false k = refl

swap : (a b e : Bool) → (e && (a && b)) ≡ (a && (b && e))
swap true true true = refl
swap true true false = refl
swap true false true = refl
swap true false false = refl
swap false b true = refl
swap false b false = refl

module _ (s : State) (t0 t1 t2 t3 t4 : List ℕ) (rest : List (List ℕ)) (n2 : is_number t2 ≡ true) (n3 : is_number t3 ≡ true) (n4 : is_number t4 ≡ true) where
  abbrev ts : List (List ℕ)
  ts = t0 ∷ t1 ∷ t2 ∷ t3 ∷ t4 ∷ rest

  abbrev kk : BodyKind
  kk = kind_at 1 ts

  abbrev a : Bool
  a = is_word (codes "t") (told t0)

  abbrev kb : Bool
  kb = is_word (letter_of kk ∷ []) (told t1)

  abbrev e : Bool
  e = is_end (first rest)

  abbrev xx : Bool
  xx = is_word (decimal (natural (reads t2))) (told t2)

  abbrev yy : Bool
  yy = is_word (decimal (natural (reads t3))) (told t3)

  abbrev zz : Bool
  zz = is_word (decimal (natural (reads t4))) (told t4)

  kind_there : kind_seen (told t1) ≡ cond kb (Some kk) None
  kind_there = kind_is (t1 ∷ t2 ∷ t3 ∷ t4 ∷ rest)

  form : contents_form ts ≡ (a && (kb && e))
  form =
      ap₂ (λ x y. x && y) (five rest t0 t1 t2 t3 t4) (ap₂ (λ x y. x && y) (sym (word_told t0 (codes "t"))) (ap is_some (sym (kind_told t1) ∙ kind_there) ∙ some_kind kb kk))
      ∙ swap a kb e

  ranged : (((xx && within (size_range kk) (natural (reads t2))) && ((yy && within (own_range kk) (natural (reads t3))) && ((zz && within (rows_range kk) (natural (reads t4))) && nat_le (atoms_in (entry s ts)) atom_limit)))) ≡ entry_fits kk (reads t2) (reads t3) (reads t4)
  ranged =
      ap₂ (λ p q. p && q) (ap (λ w. w && within (size_range kk) (natural (reads t2))) (word_told t2 _) ∙ number_test (size_range kk) t2 n2)
      (ap₂ (λ p q. p && q) (ap (λ w. w && within (own_range kk) (natural (reads t3))) (word_told t3 _) ∙ number_test (own_range kk) t3 n3)
      (ap (λ p. p && nat_le (atoms_in (entry s ts)) atom_limit) (ap (λ w. w && within (rows_range kk) (natural (reads t4))) (word_told t4 _) ∙ number_test (rows_range kk) t4 n4)))

  three : told t2 ≡ numeral t2 (reads t2) → told t3 ≡ numeral t3 (reads t3) → told t4 ≡ numeral t4 (reads t4) → contents_if (a && e) (kind_seen (told t1)) (Some (reads t2)) (Some (reads t3)) (Some (reads t4)) s.contents ≡ contents_if (a && e) (kind_seen (told t1)) (value_seen (told t2)) (value_seen (told t3)) (value_seen (told t4)) s.contents
  three p q r = ap₂ (λ x y. contents_if (a && e) (kind_seen (told t1)) x y (Some (reads t4)) s.contents) (sym (ap value_seen p)) (sym (ap value_seen q)) ∙ ap (λ z. contents_if (a && e) (kind_seen (told t1)) (value_seen (told t2)) (value_seen (told t3)) z s.contents) (sym (ap value_seen r))

  full : Past s ts
  full =
      ap₂ (λ w f. cond (w && (in_ranges (entry s ts) && in_order kk s.contents)) (Ok (contents_line (entry s ts))) (Err (cond (f && over_atoms (atoms_told kk (reads t2) (reads t3))) (caused BadContents CountOutOfRange) (plain BadContents)))) (written s ts) form
      ∙ item_of_cond _ (entry s ts) _
      ∙ main a kb e xx yy zz (within (size_range kk) (natural (reads t2))) (within (own_range kk) (natural (reads t3))) (within (rows_range kk) (natural (reads t4))) (nat_le (atoms_in (entry s ts)) atom_limit) (in_order kk s.contents) (over_atoms (atoms_told kk (reads t2) (reads t3))) (entry s ts)
      ∙ ap (λ g. item_of contents_line (cond (a && (kb && e)) (cond (g && in_order kk s.contents) (Ok (entry s ts)) (Err (contents_fault_told kk (reads t2) (reads t3)))) wrong)) ranged
      ∙ ap (item_of contents_line) (sym (all_some a kb e kk (reads t2) (reads t3) (reads t4) s.contents))
      ∙ ap (λ o. item_of contents_line (contents_if (a && e) o (Some (reads t2)) (Some (reads t3)) (Some (reads t4)) s.contents)) (sym kind_there)
      ∙ ap (item_of contents_line) (three (number_told t2 n2) (number_told t3 n3) (number_told t4 n4))

past : (s : State) (ts : List (List ℕ)) → is_bad (first (drop 1 (drop 1 ts))) ≡ false → is_bad (first (drop 1 (drop 1 (drop 1 ts)))) ≡ false → is_bad (first (drop 1 (drop 1 (drop 1 (drop 1 ts))))) ≡ false → Past s ts
past s [] a b c = short s [] refl refl
past s (t0 ∷ []) a b c = short s (t0 ∷ []) refl refl
past s (t0 ∷ t1 ∷ []) a b c = short s (t0 ∷ t1 ∷ []) refl refl
past s (t0 ∷ t1 ∷ t2 ∷ []) a b c = short s (t0 ∷ t1 ∷ t2 ∷ []) refl refl
past s (t0 ∷ t1 ∷ t2 ∷ t3 ∷ []) a b c = short s (t0 ∷ t1 ∷ t2 ∷ t3 ∷ []) refl refl
past s (t0 ∷ t1 ∷ t2 ∷ t3 ∷ t4 ∷ rest) a b c = full s t0 t1 t2 t3 t4 rest (number_from t2 a) (number_from t3 b) (number_from t4 c)

pub entry_judged : (s : State) (ts : List (List ℕ)) → item_or_fault contents_due s ts ≡ item_of contents_line (contents_told (first ts) (first (drop 1 ts)) (first (drop 1 (drop 1 ts))) (first (drop 1 (drop 1 (drop 1 ts)))) (first (drop 1 (drop 1 (drop 1 (drop 1 ts))))) (first (drop 1 (drop 1 (drop 1 (drop 1 (drop 1 ts)))))) s.contents)
entry_judged s ts =
    let d = drop 1 (drop 1 ts) in
    let bad : not (all_numbers (take 3 (drop 2 ts))) ≡ (is_bad (first d) || (is_bad (first (drop 1 d)) || is_bad (first (drop 1 (drop 1 d))))) = ap (λ l. not (all_numbers (take 3 l))) (drop_two ts) ∙ bad_three d in
    ⊎_elim
    (λ (h : (is_bad (first d) || (is_bad (first (drop 1 d)) || is_bad (first (drop 1 (drop 1 d))))) ≡ true).
    cond-true _ _ _ (bad ∙ h) ∙ ap (item_of contents_line) (sym (cond-true _ _ _ h)))
    (λ (h : (is_bad (first d) || (is_bad (first (drop 1 d)) || is_bad (first (drop 1 (drop 1 d))))) ≡ false).
    let p = or_parts _ _ h in
    let q = or_parts _ _ p.1 in
    cond-false _ _ _ (bad ∙ h) ∙ past s ts p.0 q.0 q.1 ∙ ap (item_of contents_line) (sym (cond-false _ _ _ h)))
    (cases_Bool (is_bad (first d) || (is_bad (first (drop 1 d)) || is_bad (first (drop 1 (drop 1 d))))))

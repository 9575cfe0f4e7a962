-- The cause of a refused line of the contents, and that no other refusal has one but that of a row. Assumes nothing.
use Rattle.std.proofs.Common.{◌≡◌, ℕ, ◌<◌, Bool, true, false, cond, ◌&&◌, ◌==◌, List, [], ◌∷◌, map, length, ℤ, pos, negsuc, Some, None, Err, codes, unwrap_or, is_some, bytes_eq, sym, refl, ap, ◌∙◌, subst, ap₂}
use Rattle.std.proofs.lemmas.Slice.Eq.{bytes_eq-Decides}
use Rattle.std.proofs.lemmas.Bool.{both_ways, cond-true, and_from, and_parts, ltb-true, lt-ltb, eqb-true}
use Rattle.refusals.specs.declared.Fault.{Fault}
use Rattle.refusals.specs.declared.Refusal.TheVariants.{CountOutOfRange, BadByte, BadNumber, BadContents, RowRefused}
use Rattle.lexer.specs.Lines.{tokens, lead}
use Rattle.lexer.specs.Numbers.{reads, is_number, number, all_numbers}
use Rattle.nestformat.specs.declared.faults.LineFault.{LineFault}
use Rattle.nestformat.specs.declared.kinds.BodyKind.{BodyKind}
use Rattle.nestformat.specs.declared.kinds.BodyKind.TheVariants.{Outer}
use Rattle.nestformat.specs.Kinds.{letter_of, kind_named, atoms_told}
use Rattle.nestformat.specs.Faults.{plain, caused}
use Rattle.nestformat.specs.Due.{Slot, heading_due, contents_due, body_due, map_due, row_due, end_due, State, due, token_at, number_at, kind_at}
use Rattle.nestformat.specs.Reading.{of_sort, sort_refusal, number_places, contents_form, over_atoms, contents_fault, wrong, accept}
use Rattle.nestformat.specs.Refused.{reached, Refused, at_line, at_end}
use Rattle.nestformat.specs.Earliest.{TooManyAtoms, ContentsCause}
use Rattle.nestformat.proofs.KindLaws.{kind_back, kind_some, named_letter}
use Rattle.nestformat.proofs.Earliness.{contents_wrong, Judged, bad_byte, other_sort, bad_number, wrong_line, judged}
use Rattle.nestformat.proofs.Causes.{cond_some}

-- numbers

number_reads : (t : List ℕ) → is_number t ≡ true → number t ≡ Some (reads t)
number_reads t h = cond-true _ _ _ h

number_told : (t : List ℕ) (z : ℤ) → number t ≡ Some z → reads t ≡ z
number_told t z h = by (is_number t) h
  where
    by : (b : Bool) → cond b (Some (reads t)) None ≡ Some z → reads t ≡ z
    by true e = cc
    by false e = cc

over_said : (z : ℤ) → over_atoms z ≡ true → (n : ℕ) × (z ≡ pos n) × (200 < n)
over_said (pos n) h = (n, refl, ltb-true 200 n h)
over_said (negsuc n) h = absurd (both_ways _ refl h)

-- tokens of a contents line with too many atoms

abbrev pub over : List (List ℕ) → Bool
over ts = over_atoms (atoms_told (kind_at 1 ts) (number_at 2 ts) (number_at 3 ts))

-- the three tokens after the kind
three_over : (k : BodyKind) (ns : List (List ℕ)) (a b r : ℤ) (n : ℕ) → map number ns ≡ Some a ∷ Some b ∷ Some r ∷ [] → atoms_told k a b ≡ pos n → 200 < n → let ts = codes "t" ∷ (letter_of k ∷ []) ∷ ns in (contents_form ts && over ts) ≡ true
three_over k [] a b r n h told many = cc
three_over k (x ∷ []) a b r n h told many = cc
three_over k (x ∷ y ∷ []) a b r n h told many = cc
three_over k (x ∷ y ∷ z ∷ []) a b r n h told many =
    let p : number x ≡ Some a = cc in
    let q : number y ≡ Some b = cc in
    let atoms = ap₂ (λ j v. atoms_told j v (reads y)) (kind_back k) (number_told x a p) ∙ ap (atoms_told k a) (number_told y b q) ∙ told in
    and_from _ _ (kind_some k) (ap over_atoms atoms ∙ lt-ltb 200 n many)
three_over k (x ∷ y ∷ z ∷ w ∷ ns) a b r n h told many = cc

many_over : (ts : List (List ℕ)) → TooManyAtoms ts → (contents_form ts && over ts) ≡ true
many_over ts m = subst (λ us. (contents_form us && over us) ≡ true) (sym m.tokened) (three_over m.kind m.numerals m.size m.own m.rows m.atoms m.numbers m.told m.many)

over_many : (ts : List (List ℕ)) → all_numbers (number_places contents_due ts) ≡ true → length ts ≡ 5 → (bytes_eq (token_at 0 ts) (codes "t") && is_some (kind_named (token_at 1 ts))) ≡ true → over ts ≡ true → TooManyAtoms ts
over_many [] numbers five form many = cc
over_many (a ∷ []) numbers five form many = cc
over_many (a ∷ b ∷ []) numbers five form many = cc
over_many (a ∷ b ∷ x ∷ []) numbers five form many = cc
over_many (a ∷ b ∷ x ∷ y ∷ []) numbers five form many = cc
over_many (a ∷ b ∷ x ∷ y ∷ z ∷ []) numbers five form many =
    let f = and_parts (bytes_eq a (codes "t")) (is_some (kind_named b)) form in
    let first : a ≡ codes "t" = (bytes_eq-Decides a (codes "t")).0 f.0 in
    let second = named_letter b f.1 in
    let p = and_parts (is_number x) (all_numbers (y ∷ z ∷ [])) numbers in
    let q = and_parts (is_number y) (all_numbers (z ∷ [])) p.1 in
    let r = and_parts (is_number z) (all_numbers []) q.1 in
    let o = over_said (atoms_told (unwrap_or (kind_named b) Outer) (reads x) (reads y)) many in
    record {
      kind = unwrap_or (kind_named b) Outer;
      numerals = x ∷ y ∷ z ∷ [];
      size = reads x;
      own = reads y;
      rows = reads z;
      atoms = o.0;
      tokened = ap₂ (λ c d. c ∷ d ∷ x ∷ y ∷ z ∷ []) first second;
      numbers = λ i. number_reads x p.0 i ∷ number_reads y q.0 i ∷ number_reads z r.0 i ∷ [];
      told = o.1;
      many = o.2;
    }
over_many (a ∷ b ∷ x ∷ y ∷ z ∷ w ∷ ts) numbers five form many = cc

-- the fault of a line that is wrong

fault_cause : (b : Bool) → (cond b (caused BadContents CountOutOfRange) (plain BadContents)).cause ≡ cond b (Some CountOutOfRange) None
fault_cause true = refl
fault_cause false = refl

form_parts : (ts : List (List ℕ)) → contents_form ts ≡ true → (length ts ≡ 5) × ((bytes_eq (token_at 0 ts) (codes "t") && is_some (kind_named (token_at 1 ts))) ≡ true)
form_parts ts h = let p = and_parts (length ts == 5) (bytes_eq (token_at 0 ts) (codes "t") && is_some (kind_named (token_at 1 ts))) h in (eqb-true (length ts) 5 p.0, p.1)

fault_of : (ts : List (List ℕ)) → all_numbers (number_places contents_due ts) ≡ true → ContentsCause ts (contents_fault ts).cause
fault_of ts numbers = record {
  told = λ m. fault_cause (contents_form ts && over ts) ∙ cond-true _ _ _ (many_over ts m);
  only = λ c e.
      let p = cond_some (contents_form ts && over ts) (Some CountOutOfRange) c (sym (fault_cause (contents_form ts && over ts)) ∙ e) in
      let q = and_parts (contents_form ts) (over ts) p.0 in
      let f = form_parts ts q.0 in
      (cc, over_many ts numbers f.0 f.1 q.1);
}

wrong_contents : (x : Slot) (s : State) (ts : List (List ℕ)) → all_numbers (number_places x ts) ≡ true → (wrong x s ts).refusal ≡ BadContents → ContentsCause ts (wrong x s ts).cause
wrong_contents heading_due s ts n h = cc
wrong_contents contents_due s ts n h = fault_of ts n
wrong_contents (body_due e) s ts n h = cc
wrong_contents (map_due e) s ts n h = cc
wrong_contents (row_due e) s ts n h = cc
wrong_contents end_due s ts n h = cc

-- a line of another sort does not begin with t
sort_contents : (x : Slot) (ts : List (List ℕ)) → sort_refusal x ≡ BadContents → of_sort x (lead ts) ≡ false → ContentsCause ts None
sort_contents contents_due ts h sort = record {
  told = λ m. absurd (both_ways _ sort (ap (λ us. of_sort contents_due (lead us)) m.tokened));
  only = λ c e. cc;
}
sort_contents heading_due ts h sort = cc
sort_contents (body_due e) ts h sort = cc
sort_contents (map_due e) ts h sort = cc
sort_contents (row_due e) ts h sort = cc
sort_contents end_due ts h sort = cc

contents_cause_of : (s : State) (l : List ℕ) (e : LineFault) → e.refusal ≡ BadContents → Judged s (due s.todo) l e → ContentsCause (tokens l) e.cause
contents_cause_of s l e r (bad_byte c q) = let b : BadByte ≡ BadContents = ap (λ d. d.refusal) q ∙ r in cc
contents_cause_of s l e r (other_sort c sort q) = subst (λ d. ContentsCause (tokens l) d.cause) q (sort_contents (due s.todo) (tokens l) (ap (λ d. d.refusal) q ∙ r) sort)
contents_cause_of s l e r (bad_number c sort bad q) = let b : BadNumber ≡ BadContents = ap (λ d. d.refusal) q ∙ r in cc
contents_cause_of s l e r (wrong_line c sort numbers q) = subst (λ d. ContentsCause (tokens l) d.cause) q (wrong_contents (due s.todo) s (tokens l) numbers (ap (λ d. d.refusal) q ∙ r))

pub contents_cause : (s : State) (l : List ℕ) (e : LineFault) → accept s l ≡ Err e → e.refusal ≡ BadContents → ContentsCause (tokens l) e.cause
contents_cause s l e h r = contents_cause_of s l e r (judged s l e h)

-- the other refusals

wrong_without : (x : Slot) (s : State) (ts : List (List ℕ)) → ((wrong x s ts).refusal ≡ BadContents → ⊥) → ((wrong x s ts).refusal ≡ RowRefused → ⊥) → (wrong x s ts).cause ≡ None
wrong_without heading_due s ts h r = refl
wrong_without contents_due s ts h r = absurd (h (contents_wrong (contents_form ts && over ts) CountOutOfRange))
wrong_without (body_due e) s ts h r = refl
wrong_without (map_due e) s ts h r = absurd (r refl)
wrong_without (row_due e) s ts h r = absurd (r refl)
wrong_without end_due s ts h r = refl

line_without : (s : State) (l : List ℕ) (e : LineFault) → (e.refusal ≡ BadContents → ⊥) → (e.refusal ≡ RowRefused → ⊥) → Judged s (due s.todo) l e → e.cause ≡ None
line_without s l e h r (bad_byte c q) = ap (λ d. d.cause) (sym q)
line_without s l e h r (other_sort c sort q) = ap (λ d. d.cause) (sym q)
line_without s l e h r (bad_number c sort bad q) = ap (λ d. d.cause) (sym q)
line_without s l e h r (wrong_line c sort numbers q) =
    ap (λ d. d.cause) (sym q) ∙ wrong_without (due s.todo) s (tokens l) (λ b. h (ap (λ d. d.refusal) (sym q) ∙ b)) (λ b. r (ap (λ d. d.refusal) (sym q) ∙ b))

pub refused_without : (s : State) (n : ℕ) (ls : List (List ℕ)) (f : Fault) → (f.refusal ≡ BadContents → ⊥) → (f.refusal ≡ RowRefused → ⊥) → Refused s n ls f → f.cause ≡ None
refused_without s n ls f h r (at_line front back l its e cut spells counts a is) =
    ap (λ d. d.cause) is ∙ line_without (reached s its) l e (λ b. h (ap (λ d. d.refusal) is ∙ b)) (λ b. r (ap (λ d. d.refusal) is ∙ b)) (judged (reached s its) l e a)
refused_without s n ls f h r (at_end its spells due is) = ap (λ d. d.cause) is

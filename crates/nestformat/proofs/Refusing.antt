-- A text is refused with just the first faulty line. Assumes nothing.
use Rattle.std.proofs.Common.{◌≡◌, ℕ, suc, ◌+◌, Bool, true, false, List, [], ◌∷◌, ◌++◌, map, length, Ok, Err, Result, append-nil, sym, refl, ap, ◌∙◌, subst, ap₂, arith}
use Rattle.std.specs.List.{AllByRecursion}
use Rattle.std.proofs.lemmas.Bool.{both_ways, cond-true, cond-false, and_from, and_parts}
use Rattle.refusals.specs.declared.Fault.{Fault}
use Rattle.refusals.specs.declared.Refusal.TheVariants.{BadEnd}
use Rattle.lexer.specs.Lines.{tokens, lead, clean}
use Rattle.nestformat.specs.declared.faults.LineFault.{LineFault}
use Rattle.nestformat.specs.Faults.{plain}
use Rattle.nestformat.specs.Items.{Item}
use Rattle.nestformat.specs.Due.{Slot, State, fits, advance}
use Rattle.nestformat.specs.Reading.{accept, skipped, counted, finished, finish, fault_at, before, follow, reading_from}
use Rattle.nestformat.specs.Refused.{reached, right, Spells, Refused, at_line, at_end}
use Rattle.nestformat.proofs.Accepting.{accepted_line, spelled_line}

finish_err : (s : State) (n : ℕ) (xs : List Slot) (f : Fault) → finish s n xs ≡ Err f → (finished xs ≡ false) × (f ≡ fault_at s n (plain BadEnd))
finish_err s n [] f h = cc
finish_err s n (x ∷ xs) f h = (refl, cc)

before_err : (it : Item) (r : Result (List Item) Fault) (f : Fault) → before it r ≡ Err f → r ≡ Err f
before_err it (Ok rest) f h = cc
before_err it (Err g) f h = h

none_yet : (s : State) → Spells s [] []
none_yet s = record { allowed = tt; tokened = refl; each = refl }

-- a skipped line more in front
skip_spells : (s : State) (l : List ℕ) (ls : List (List ℕ)) (its : List Item) → skipped (lead (tokens l)) ≡ true → Spells s ls its → Spells s (l ∷ ls) its
skip_spells s l ls its e h =
    let c : counted (l ∷ ls) ≡ counted ls = cond-true _ _ _ e in
    record { allowed = subst (AllByRecursion (λ l. clean l ≡ true)) (sym c) h.allowed; tokened = ap (map tokens) c ∙ h.tokened; each = h.each }

-- an accepted line more in front
take_spells : (s : State) (l : List ℕ) (ls : List (List ℕ)) (it : Item) (its : List Item) → skipped (lead (tokens l)) ≡ false → accept s l ≡ Ok it → Spells (advance s it) ls its → Spells s (l ∷ ls) (it ∷ its)
take_spells s l ls it its e a h =
    let c : counted (l ∷ ls) ≡ l ∷ counted ls = cond-false _ _ _ e in
    let p = accepted_line s l it a in
    record {
      allowed = subst (AllByRecursion (λ l. clean l ≡ true)) (sym c) (p.allowed, h.allowed);
      tokened = ap (map tokens) c ∙ ap₂ (λ x xs. x ∷ xs) p.tokened h.tokened;
      each = and_from _ _ p.fitting h.each;
    }

skip_refused : (s : State) (n : ℕ) (l : List ℕ) (ls : List (List ℕ)) (f : Fault) → skipped (lead (tokens l)) ≡ true → Refused s (suc n) ls f → Refused s n (l ∷ ls) f
skip_refused s n l ls f e (at_line front back m its r cut sp sk a is) =
    at_line (l ∷ front) back m its r (ap (λ t. l ∷ t) cut) (skip_spells s l front its e sp) sk a (is ∙ ap (λ k. fault_at (reached s its) k r) (omega arith))
skip_refused s n l ls f e (at_end its sp un is) = at_end its (skip_spells s l ls its e sp) un (is ∙ ap (λ k. fault_at (reached s its) k (plain BadEnd)) (omega arith))

take_refused : (s : State) (n : ℕ) (l : List ℕ) (ls : List (List ℕ)) (it : Item) (f : Fault) → skipped (lead (tokens l)) ≡ false → accept s l ≡ Ok it → Refused (advance s it) (suc n) ls f → Refused s n (l ∷ ls) f
take_refused s n l ls it f e a (at_line front back m its r cut sp sk b is) =
    at_line (l ∷ front) back m (it ∷ its) r (ap (λ t. l ∷ t) cut) (take_spells s l front it its e a sp) sk b (is ∙ ap (λ k. fault_at (reached (advance s it) its) k r) (omega arith))
take_refused s n l ls it f e a (at_end its sp un is) = at_end (it ∷ its) (take_spells s l ls it its e a sp) un (is ∙ ap (λ k. fault_at (reached (advance s it) its) k (plain BadEnd)) (omega arith))

-- one line that counts, by what became of it
by_answer : (s : State) (n : ℕ) (l : List ℕ) (ls : List (List ℕ)) (f : Fault) → ((s : State) (n : ℕ) (f : Fault) → reading_from s n ls ≡ Err f → Refused s n ls f) → skipped (lead (tokens l)) ≡ false → (r : Result Item LineFault) → accept s l ≡ r → follow s n r (λ it. reading_from (advance s it) (suc n) ls) ≡ Err f → Refused s n (l ∷ ls) f
by_answer s n l ls f more e (Ok it) a h = take_refused s n l ls it f e a (more (advance s it) (suc n) f (before_err it _ f h))
by_answer s n l ls f more e (Err r) a h = at_line [] ls l [] r refl (none_yet s) e a (let g : f ≡ fault_at s n r = cc in g ∙ ap (λ k. fault_at s k r) (omega arith))

by_skip : (s : State) (n : ℕ) (l : List ℕ) (ls : List (List ℕ)) (f : Fault) → ((s : State) (n : ℕ) (f : Fault) → reading_from s n ls ≡ Err f → Refused s n ls f) → reading_from s n (l ∷ ls) ≡ Err f → (b : Bool) → skipped (lead (tokens l)) ≡ b → Refused s n (l ∷ ls) f
by_skip s n l ls f more h true e = skip_refused s n l ls f e (more s (suc n) f (sym (cond-true _ _ _ e) ∙ h))
by_skip s n l ls f more h false e = by_answer s n l ls f more e (accept s l) refl (sym (cond-false _ _ _ e) ∙ h)

pub read_is_refused : (s : State) (n : ℕ) (ls : List (List ℕ)) (f : Fault) → reading_from s n ls ≡ Err f → Refused s n ls f
read_is_refused s n [] f h =
    let p = finish_err s n s.todo f h in
    at_end [] (none_yet s) p.0 (p.1 ∙ ap (λ k. fault_at s k (plain BadEnd)) (omega arith))
read_is_refused s n (l ∷ ls) f h = by_skip s n l ls f (λ s n f h. read_is_refused s n ls f h) h (skipped (lead (tokens l))) refl

-- items in front of an answer
abbrev pub ahead : List Item → Result (List Item) Fault → Result (List Item) Fault
ahead [] r = r
ahead (it ∷ its) r = before it (ahead its r)

pub ahead_err : (its : List Item) (f : Fault) → ahead its (Err f) ≡ Err f
ahead_err [] f = refl
ahead_err (it ∷ its) f = ap (before it) (ahead_err its f)

spells_skip : (s : State) (l : List ℕ) (ls : List (List ℕ)) (its : List Item) → skipped (lead (tokens l)) ≡ true → Spells s (l ∷ ls) its → Spells s ls its
spells_skip s l ls its e h =
    let c : counted (l ∷ ls) ≡ counted ls = cond-true _ _ _ e in
    record { allowed = subst (AllByRecursion (λ l. clean l ≡ true)) c h.allowed; tokened = ap (map tokens) (sym c) ∙ h.tokened; each = h.each }

abbrev pub Over : List (List ℕ) → List (List ℕ) → Type 0
Over front rest = (s : State) (n : ℕ) (its : List Item) → Spells s front its → reading_from s n (front ++ rest) ≡ ahead its (reading_from (reached s its) (n + length front) rest)

over_take : (s : State) (n : ℕ) (l : List ℕ) (front rest : List (List ℕ)) (its : List Item) → Over front rest → skipped (lead (tokens l)) ≡ false → Spells s (l ∷ front) its → reading_from s n ((l ∷ front) ++ rest) ≡ ahead its (reading_from (reached s its) (n + length (l ∷ front)) rest)
over_take s n l front rest [] more e h =
    let c : counted (l ∷ front) ≡ l ∷ counted front = cond-false _ _ _ e in
    let t = sym (ap (map tokens) c) ∙ h.tokened in
    cc
over_take s n l front rest (it ∷ its) more e h =
    let c : counted (l ∷ front) ≡ l ∷ counted front = cond-false _ _ _ e in
    let t = sym (ap (map tokens) c) ∙ h.tokened in
    let a = subst (AllByRecursion (λ l. clean l ≡ true)) c h.allowed in
    let p = and_parts (fits s it) (right (advance s it) its) h.each in
    let one : accept s l ≡ Ok it = spelled_line s l it (record { allowed = a.0; tokened = cc; fitting = p.0 }) in
    let rest_is = more (advance s it) (suc n) its (record { allowed = a.1; tokened = cc; each = p.1 }) in
    cond-false _ _ _ e ∙ ap (λ q. follow s n q (λ it. reading_from (advance s it) (suc n) (front ++ rest))) one
    ∙ ap (before it) (rest_is ∙ ap (λ k. ahead its (reading_from (reached (advance s it) its) k rest)) (omega arith))

over_line : (s : State) (n : ℕ) (l : List ℕ) (front rest : List (List ℕ)) (its : List Item) → Over front rest → Spells s (l ∷ front) its → (b : Bool) → skipped (lead (tokens l)) ≡ b → reading_from s n ((l ∷ front) ++ rest) ≡ ahead its (reading_from (reached s its) (n + length (l ∷ front)) rest)
over_line s n l front rest its more h true e = cond-true _ _ _ e ∙ more s (suc n) its (spells_skip s l front its e h) ∙ ap (λ k. ahead its (reading_from (reached s its) k rest)) (omega arith)
over_line s n l front rest its more h false e = over_take s n l front rest its more e h

-- lines that are right are read, and the rest goes on from what is due then
pub over : (front rest : List (List ℕ)) → Over front rest
over [] rest s n [] h = ap (λ k. reading_from s k rest) (omega arith)
over [] rest s n (it ∷ its) h = let t = h.tokened in cc
over (l ∷ front) rest s n its h = over_line s n l front rest its (over front rest) h (skipped (lead (tokens l))) refl

pub unfinished : (s : State) (n : ℕ) (xs : List Slot) → finished xs ≡ false → finish s n xs ≡ Err (fault_at s n (plain BadEnd))
unfinished s n [] h = absurd (both_ways true h refl)
unfinished s n (x ∷ xs) h = refl

pub refused_is_read : (s : State) (n : ℕ) (ls : List (List ℕ)) (f : Fault) → Refused s n ls f → reading_from s n ls ≡ Err f
refused_is_read s n ls f (at_line front back l its r cut sp sk a is) =
    ap (reading_from s n) cut ∙ over front (l ∷ back) s n its sp
    ∙ ap (ahead its) (cond-false _ _ _ sk ∙ ap (λ q. follow (reached s its) (n + length front) q (λ it. reading_from (advance (reached s its) it) (suc (n + length front)) back)) a ∙ ap Err (sym is))
    ∙ ahead_err its f
refused_is_read s n ls f (at_end its sp un is) =
    ap (reading_from s n) (sym (append-nil ls)) ∙ over ls [] s n its sp
    ∙ ap (ahead its) (unfinished (reached s its) (n + length ls) (reached s its).todo un ∙ ap Err (sym is))
    ∙ ahead_err its f

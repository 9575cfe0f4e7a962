-- The cause of a refused row is the refusal of what it says. Assumes nothing.
use Rattle.std.proofs.Common.{◌≡◌, ℕ, Bool, true, false, cond, ◌&&◌, List, ℤ, Some, None, Err, Option, sym, refl, ap, ◌∙◌, subst}
use Rattle.std.specs.List.{list_all}
use Rattle.std.proofs.lemmas.Bool.{cond-true, and_from, and_parts}
use Rattle.refusals.specs.declared.Refusal.{Refusal}
use Rattle.refusals.specs.declared.Refusal.TheVariants.{CountOutOfRange, BadByte, BadNumber, RowRefused}
use Rattle.lexer.specs.Lines.{tokens}
use Rattle.nestformat.specs.declared.faults.LineFault.{LineFault}
use Rattle.nestformat.specs.Kinds.{atoms_told}
use Rattle.nestformat.specs.Items.{row_line, item_line}
use Rattle.nestformat.specs.Due.{Slot, heading_due, contents_due, body_due, map_due, row_due, end_due, State, due, says, as_written, same_line, numbers_said, number_at, kind_at, in_row, form, well_formed, refusal_below}
use Rattle.nestformat.specs.Reading.{sort_refusal, contents_form, over_atoms, wrong, row_fault, accept}
use Rattle.nestformat.specs.Earliest.{RowCause}
use Rattle.nestformat.proofs.Backs.{in_row_small, numbers_back}
use Rattle.nestformat.proofs.Accepting.{same_line_true, same_line_itself}
use Rattle.nestformat.proofs.Earliness.{contents_wrong, Judged, bad_byte, other_sort, bad_number, wrong_line, judged}

-- the place of a row: what its tokens say is a row
abbrev pub RowPlace : Slot → Type 0
RowPlace (map_due e) = Unit {0}
RowPlace (row_due e) = Unit {0}
RowPlace _ = ⊥

pub cond_some : (b : Bool) (o : Option Refusal) (c : Refusal) → cond b o None ≡ Some c → (b ≡ true) × (o ≡ Some c)
cond_some true o c h = (refl, h)
cond_some false o c h = cc

said_row : (x : Slot) (ts : List (List ℕ)) → RowPlace x → says x ts ≡ row_line (numbers_said ts)
said_row (map_due e) ts h = refl
said_row (row_due e) ts h = refl
said_row heading_due ts h = absurd h
said_row contents_due ts h = absurd h
said_row (body_due e) ts h = absurd h
said_row end_due ts h = absurd h

-- a row of the right form is written as it is said
row_as_written : (x : Slot) (zs : List ℤ) → RowPlace x → well_formed x zs ≡ true → (numbers_said (item_line (row_line zs)) ≡ zs) × (as_written x (item_line (row_line zs)) ≡ true)
row_as_written x zs h w =
    let ts = item_line (row_line zs) in
    let back : numbers_said ts ≡ zs = numbers_back zs (in_row_small zs (and_parts (list_all in_row zs) (form x zs) w).0) in
    let said : says x ts ≡ row_line zs = said_row x ts h ∙ ap row_line back in
    (back, subst (λ i. same_line ts (item_line i) ≡ true) (sym said) (same_line_itself ts))

cause_of : (x : Slot) (s : State) (ts : List (List ℕ)) → RowPlace x → RowCause x s ts (row_fault x s ts).cause
cause_of x s ts h = record {
  told = λ zs e w.
      let r = row_as_written x zs h w in
      let back : numbers_said ts ≡ zs = ap numbers_said e ∙ r.0 in
      let written : as_written x ts ≡ true = ap (as_written x) e ∙ r.1 in
      let formed : well_formed x (numbers_said ts) ≡ true = ap (well_formed x) back ∙ w in
      cond-true _ _ _ (and_from _ _ written formed) ∙ ap (refusal_below x s) back;
  only = λ c e.
      let p = cond_some (as_written x ts && well_formed x (numbers_said ts)) (refusal_below x s (numbers_said ts)) c e in
      let q = and_parts (as_written x ts) (well_formed x (numbers_said ts)) p.0 in
      (numbers_said ts, same_line_true ts (item_line (says x ts)) q.0 ∙ ap item_line (said_row x ts h), q.1, p.1);
}

not_sort : (x : Slot) → sort_refusal x ≡ RowRefused → ⊥
not_sort heading_due h = cc
not_sort contents_due h = cc
not_sort (body_due e) h = cc
not_sort (map_due e) h = cc
not_sort (row_due e) h = cc
not_sort end_due h = cc

wrong_row : (x : Slot) (s : State) (ts : List (List ℕ)) → (wrong x s ts).refusal ≡ RowRefused → RowCause x s ts (wrong x s ts).cause
wrong_row heading_due s ts h = cc
wrong_row contents_due s ts h = let b = sym (contents_wrong (contents_form ts && over_atoms (atoms_told (kind_at 1 ts) (number_at 2 ts) (number_at 3 ts))) CountOutOfRange) ∙ h in cc
wrong_row (body_due e) s ts h = cc
wrong_row (map_due e) s ts h = cause_of (map_due e) s ts tt
wrong_row (row_due e) s ts h = cause_of (row_due e) s ts tt
wrong_row end_due s ts h = cc

row_cause_of : (s : State) (l : List ℕ) (e : LineFault) → e.refusal ≡ RowRefused → Judged s (due s.todo) l e → RowCause (due s.todo) s (tokens l) e.cause
row_cause_of s l e r (bad_byte c q) = let b : BadByte ≡ RowRefused = ap (λ d. d.refusal) q ∙ r in cc
row_cause_of s l e r (other_sort c sort q) = absurd (not_sort (due s.todo) (ap (λ d. d.refusal) q ∙ r))
row_cause_of s l e r (bad_number c sort bad q) = let b : BadNumber ≡ RowRefused = ap (λ d. d.refusal) q ∙ r in cc
row_cause_of s l e r (wrong_line c sort numbers q) = subst (λ d. RowCause (due s.todo) s (tokens l) d.cause) q (wrong_row (due s.todo) s (tokens l) (ap (λ d. d.refusal) q ∙ r))

pub row_cause : (s : State) (l : List ℕ) (e : LineFault) → accept s l ≡ Err e → e.refusal ≡ RowRefused → RowCause (due s.todo) s (tokens l) e.cause
row_cause s l e h r = row_cause_of s l e r (judged s l e h)

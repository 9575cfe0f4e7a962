-- A session of a size, and a clause more of those that fit. Assumes nothing.
use Rattle.std.proofs.Common.{◌≡◌, ℕ, ◌≤◌, true, false, cond, List, [], ◌∷◌, ◌++◌, ℤ, Result, Ok, Err, Option, Some, None, is_ok, is_none, nat_lt, sym, refl, ap, ◌∙◌, subst, append_assoc, append-nil, ⊎_elim}
use Rattle.std.specs.Prelude.{◌↔◌}
use Rattle.std.proofs.lemmas.Bool.{both_ways, cases_Bool, and_parts, cond-false, le-ltb}
use Rattle.refusals.specs.declared.Refusal.{Refusal}
use Rattle.refusals.specs.declared.Refusal.TheVariants.{CountOutOfRange, ReachOutOfRange}
use Rattle.assignments.specs.Limits.{atom_limit}
use Rattle.assignments.specs.Assignments.{Complete}
use Rattle.clauses.specs.Adding.{refusal_of_adding}
use Rattle.vetoes.specs.Meaning.{Meaning}
use Rattle.ledgers.specs.Ledger.{Ledger, Call, Answer, fresh, accepted, refused, size as size_call, clause as clause_call}
use Rattle.ledgers.specs.Admitted.{Admitted}
use Rattle.ledgers.specs.Right.{due, RightBy}
use Rattle.session.specs.declared.table.SessionTable.{SessionTable}
use Rattle.session.specs.Standing.{Stands, Keeps, done}
use Rattle.nestformat.specs.Items.{Problem}
use Rattle.finder.specs.Bodies.{atoms_of}
use Rattle.finder.specs.Fitting.{fit}
use Rattle.finder.specs.Meanings.{file_means}
use Rattle.finder.specs.Sessions.{started, file_ledger}
use Rattle.finder.specs.Vetoed.{AdmittedBy}
use Rattle.finder.proofs.Deciding.{file_decides}

pub none_is : (o : Option Refusal) → is_none o ≡ true → o ≡ None
none_is None h = refl
none_is (Some e) h = absurd (both_ways false refl h)

-- where no refusal is due there is none
pub not_refused : (m : Meaning) (l : Ledger) (c : Call) (a : Answer) (o : Option Refusal) → o ≡ None → RightBy o m l c a → RightBy None m l c a
not_refused m l c a o q = subst (λ x. RightBy x m l c a) q

size_due : (m : Meaning) (n : ℕ) → n ≤ atom_limit → m.reach ≤ n → due m fresh (size_call n) ≡ None
size_due m n few near =
    cond-false (nat_lt atom_limit n) (Some CountOutOfRange) (cond (nat_lt n m.reach) (Some ReachOutOfRange) None) (le-ltb atom_limit n few)
    ∙ cond-false (nat_lt n m.reach) (Some ReachOutOfRange) None (le-ltb n m.reach near)

pub size_right : {A : Type 0} (m : Meaning) (n : ℕ) (t u : Option SessionTable) (r : Result A Refusal) → n ≤ atom_limit → m.reach ≤ n → Stands t fresh → Keeps m t u (size_call n) (done r []) → (is_ok r ≡ true) × Stands u (started n [])
size_right m n t u (Ok x) few near s k = (refl, (k.step fresh s).1)
size_right m n t u (Err e) few near s k =
    let wrong : refused e [] ≡ accepted = not_refused m fresh (size_call n) (refused e []) (due m fresh (size_call n)) (size_due m n few near) (k.step fresh s).0 in
    absurd (cc)

pub clause_right : {A : Type 0} (m : Meaning) (n : ℕ) (cs : List (List ℤ)) (d : List ℤ) (t u : Option SessionTable) (r : Result A Refusal) → is_none (refusal_of_adding n cs d) ≡ true → Stands t (started n cs) → Keeps m t u (clause_call d) (done r []) → (is_ok r ≡ true) × Stands u (started n (cs ++ d ∷ []))
clause_right m n cs d t u (Ok x) none s k = (refl, (k.step (started n cs) s).1)
clause_right m n cs d t u (Err e) none s k =
    let wrong : refused e [] ≡ accepted = not_refused m (started n cs) (clause_call d) (refused e []) (refusal_of_adding n cs d) (none_is (refusal_of_adding n cs d) none) (k.step (started n cs) s).0 in
    absurd (cc)

-- some of the clauses are held, and the others can be added
pub record HeldSoFar (n : ℕ) (t : Option SessionTable) (all rest : List (List ℤ)) : Type 0 where
  pub taken : List (List ℤ)
  pub stands : Stands t (started n taken)
  pub joined : taken ++ rest ≡ all
  pub others : fit n taken rest ≡ true

pub held_first : (n : ℕ) (t : Option SessionTable) (all rest : List (List ℤ)) → rest ≡ all → Stands t (started n []) → fit n [] all ≡ true → HeldSoFar n t all rest
held_first n t all rest q s f = record { taken = []; stands = s; joined = q; others = subst (λ x. fit n [] x ≡ true) (sym q) f }

-- the next one is not refused, and is held then
pub held_more : {A : Type 0} (m : Meaning) (n : ℕ) (t u : Option SessionTable) (all rest now : List (List ℤ)) (d : List ℤ) (r : Result A Refusal) → rest ≡ d ∷ now → HeldSoFar n t all rest → Keeps m t u (clause_call d) (done r []) → (is_ok r ≡ true) × HeldSoFar n u all now
held_more m n t u all rest now d r q h k =
    let f : fit n h.taken (d ∷ now) ≡ true = subst (λ x. fit n h.taken x ≡ true) q h.others in
    let p = and_parts (is_none (refusal_of_adding n h.taken d)) (fit n (h.taken ++ d ∷ []) now) f in
    let right = clause_right m n h.taken d t u r p.0 h.stands k in (
      right.0,
      record {
        taken = h.taken ++ d ∷ [];
        stands = right.1;
        joined = append_assoc h.taken (d ∷ []) now ∙ ap (λ x. h.taken ++ x) (sym q) ∙ h.joined;
        others = p.1;
      },
    )

pub held_all : (n : ℕ) (t : Option SessionTable) (all rest : List (List ℤ)) → rest ≡ [] → HeldSoFar n t all rest → Stands t (started n all)
held_all n t all rest q h = subst (λ x. Stands t (started n x)) (sym (append-nil h.taken) ∙ ap (λ x. h.taken ++ x) (sym q) ∙ h.joined) h.stands

-- what the session admits is what the file admits

abbrev pub SameAdmitted : Problem → Meaning → List ℕ → Type 0
SameAdmitted p m q = Admitted m (file_ledger p) q ↔ AdmittedBy p q

same_size : (n : ℕ) (k : ℕ) → Some n ≡ Some k → n ≡ k
same_size n k h = cc

admitted : (p : Problem) (q : List ℕ) → Admitted (file_means p) (file_ledger p) q → AdmittedBy p q
admitted p q a =
    let n : atoms_of p ≡ a.n = same_size (atoms_of p) a.n a.sized in
    record {
      complete = subst (λ k. Complete k q) (sym n) a.complete;
      meets = a.meets;
      unvetoed = λ v. both_ways ((file_means p).speaks q) a.silent ((file_decides p q).1 v);
    }

admits : (p : Problem) (q : List ℕ) → AdmittedBy p q → Admitted (file_means p) (file_ledger p) q
admits p q a = record {
  n = atoms_of p;
  sized = refl;
  complete = a.complete;
  meets = a.meets;
  silent = ⊎_elim
      (λ (t : (file_means p).speaks q ≡ true). absurd (a.unvetoed ((file_decides p q).0 t)))
      (λ (f : (file_means p).speaks q ≡ false). f)
      (cases_Bool ((file_means p).speaks q));
}

pub same_admitted : (p : Problem) (m : Meaning) → m ≡ file_means p → (q : List ℕ) → SameAdmitted p m q
same_admitted p m e q = subst (λ x. SameAdmitted p x q) (sym e) (admitted p q, admits p q)

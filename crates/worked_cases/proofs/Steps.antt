-- A call of next has the one right answer, by tests that compute: s is a test that is as the meaning on the assignments of n
-- atoms. Assumes nothing.
use Rattle.std.proofs.Common.{◌≡◌, ℕ, Bool, true, false, not, ◌&&◌, List, [], ◌++◌, length, drop, ℤ, Option, Some, None, refl, sym, ◌∙◌, ap, subst, ⊎_elim}
use Rattle.std.specs.List.{list_all}
use Rattle.std.proofs.lemmas.Bool.{and_parts, and_from, not-true, not_from_false}
use Rattle.assignments.specs.Assignments.{Complete, Less}
use Rattle.assignments.specs.Literals.{all_met}
use Rattle.assignments.proofs.OrderLaws.{less_total}
use Rattle.vetoes.specs.Meaning.{Meaning}
use Rattle.ledgers.specs.Ledger.{Ledger, Call, size, clause, next, Answer, accepted, handed_out, no_more, chosen, clash, refused}
use Rattle.ledgers.specs.Admitted.{Admitted, LeastOf}
use Rattle.ledgers.specs.Right.{due, RightBy, Answers, Coming}
use Rattle.nested.specs.Nests.{is_known, some_completion}
use Rattle.worked_cases.specs.Playing.{OnlyRight}
use Rattle.worked_cases.proofs.Deciding.{less, less_has, beyond, beyond_is, beyond_has, complete_by, none_at}

-- an answer that is the only one where no refusal is due
pub only_by : (m : Meaning) (l : Ledger) (c : Call) (a : Answer) → due m l c ≡ None → Answers m l c a → ((b : Answer) → Answers m l c b → b ≡ a) → OnlyRight m l c a
only_by m l c a e r o = record {
  right = subst (λ d. RightBy d m l c a) (sym e) r;
  only = λ b h. o b (subst (λ d. RightBy d m l c b) e h);
}

abbrev pub or_zero : Option ℕ → ℕ
or_zero None = 0
or_zero (Some n) = n

pub same_size : (o : Option ℕ) (a b : ℕ) → o ≡ Some a → o ≡ Some b → a ≡ b
same_size o a b e f = ap or_zero (sym e ∙ f)

-- the least is one
pub one_least : (P : List ℕ → Type 0) (n : ℕ) (q r : List ℕ) → ((p : List ℕ) → P p → Complete n p) → LeastOf P q → LeastOf P r → q ≡ r
one_least P n q r whole a b = ⊎_elim
    (λ (h : Less q r). absurd (b.least q a.one h))
    (⊎_elim (λ (e : q ≡ r). e) (λ (h : Less r q). absurd (a.least r b.one h)))
    (less_total n q r (whole q a.one) (whole r b.one))

-- q meets the clauses, and the test s does not speak
abbrev pub fits : (List ℕ → Bool) → List (List ℤ) → List ℕ → Bool
fits s cs q = all_met q cs && not (s q)

abbrev pub coming : (List ℕ → Bool) → Ledger → List ℕ → Bool
coming s l q = fits s l.held q && beyond l.position q

pub sizes : {m : Meaning} {l : Ledger} {n : ℕ} → due m l (size n) ≡ None → OnlyRight m l (size n) accepted
sizes {m} {l} {n} e = only_by m l (size n) accepted e refl (λ b h. h)

pub holds : {m : Meaning} {l : Ledger} {c : List ℤ} → due m l (clause c) ≡ None → OnlyRight m l (clause c) accepted
holds {m} {l} {c} e = only_by m l (clause c) accepted e refl (λ b h. h)

module _ (m : Meaning) (s : List ℕ → Bool) (n : ℕ) (same : (q : List ℕ) → Complete n q → m.speaks q ≡ s q) where
  pub admitted_is : (l : Ledger) → l.size ≡ Some n → (q : List ℕ) → Complete n q → fits s l.held q ≡ true → Admitted m l q
  admitted_is l z q c e =
      let w = and_parts _ _ e in
      record { n = n; sized = z; complete = c; meets = w.0; silent = same q c ∙ not-true (s q) w.1 }

  pub admitted_complete : (l : Ledger) → l.size ≡ Some n → (q : List ℕ) → Admitted m l q → Complete n q
  admitted_complete l z q a = subst (λ k. Complete k q) (same_size l.size a.n n a.sized z) a.complete

  pub admitted_fits : (l : Ledger) → l.size ≡ Some n → (q : List ℕ) → Admitted m l q → fits s l.held q ≡ true
  admitted_fits l z q a = and_from _ _ a.meets (not_from_false (s q) (sym (same q (admitted_complete l z q a)) ∙ a.silent))

  coming_is : (l : Ledger) → l.size ≡ Some n → (q : List ℕ) → Complete n q → coming s l q ≡ true → Coming m l q
  coming_is l z q c e = let w = and_parts _ _ e in record { admitted = admitted_is l z q c w.0; beyond = beyond_is l.position q w.1 }

  coming_has : (l : Ledger) → l.size ≡ Some n → (q : List ℕ) → Coming m l q → coming s l q ≡ true
  coming_has l z q c = and_from _ _ (admitted_fits l z q c.admitted) (beyond_has l.position q c.beyond)

  coming_complete : (l : Ledger) → l.size ≡ Some n → (q : List ℕ) → Coming m l q → Complete n q
  coming_complete l z q c = admitted_complete l z q c.admitted

  -- the least that comes is the only one to be handed out
  only_least : (l : Ledger) → l.size ≡ Some n → (b q : List ℕ) → LeastOf (Coming m l) q → q ≡ q ++ drop (length q) b → (a : Answer) → Answers m l (next b) a → a ≡ handed_out q
  only_least l z b q least w accepted h = absurd h
  only_least l z b q least w (handed_out o) h =
      ap handed_out (h.writes.written ∙ ap (λ p. p ++ drop (length p) b) (one_least (Coming m l) n h.q q (coming_complete l z) h.least least) ∙ sym w)
  only_least l z b q least w (no_more o) h = absurd (h.0 q least.one)
  only_least l z b q least w (chosen o t) h = absurd h
  only_least l z b q least w (clash o t) h = absurd h
  only_least l z b q least w (refused e bs) h = absurd h

  only_end : (l : Ledger) (b : List ℕ) → ((q : List ℕ) → Coming m l q → ⊥) → (a : Answer) → Answers m l (next b) a → a ≡ no_more b
  only_end l b none accepted h = absurd h
  only_end l b none (handed_out o) h = absurd (none h.q h.least.one)
  only_end l b none (no_more o) h = ap no_more h.1
  only_end l b none (chosen o t) h = absurd h
  only_end l b none (clash o t) h = absurd h
  only_end l b none (refused e bs) h = absurd h

  pub hands : {l : Ledger} {b q : List ℕ} → l.size ≡ Some n → due m l (next b) ≡ None → length q ≡ n → list_all is_known q ≡ true → coming s l q ≡ true → some_completion n [] (λ r. coming s l r && less r q) ≡ false → q ≡ q ++ drop (length q) b → OnlyRight m l (next b) (handed_out q)
  hands {l} {b} {q} z e long known here none w =
      let c : Complete n q = subst (λ k. Complete k q) long (complete_by q known) in
      let least : LeastOf (Coming m l) q = record {
        one = coming_is l z q c here;
        least = λ r f h. none_at n (λ p. coming s l p && less p q) none r (coming_complete l z r f) (and_from _ _ (coming_has l z r f) (less_has r q h));
      } in
      only_by m l (next b) (handed_out q) e (record { q = q; least = least; writes = record { written = w } }) (only_least l z b q least w)

  pub finishes : {l : Ledger} {b : List ℕ} → l.size ≡ Some n → due m l (next b) ≡ None → some_completion n [] (coming s l) ≡ false → OnlyRight m l (next b) (no_more b)
  finishes {l} {b} z e none =
      let gone : (q : List ℕ) → Coming m l q → ⊥ = λ q f. none_at n (coming s l) none q (coming_complete l z q f) (coming_has l z q f) in
      only_by m l (next b) (no_more b) e (gone, refl) (only_end l b gone)

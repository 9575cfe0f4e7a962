-- What is met stays met. Assumes nothing.
use Rattle.std.proofs.Common.{◌≡◌, ℕ, zero, suc, ◌<◌, true, false, eqb, List, [], ◌∷◌, ℤ, pos, negsuc, refl, ◌∙◌, ⊎_elim, arith}
use Rattle.std.proofs.lemmas.Bool.{both_ways, or_left, or_right, or_cases, and_parts, and_from, eq-eqb, eqb-true}
use Rattle.assignments.specs.Assignments.{at, Part}
use Rattle.assignments.specs.Literals.{true_at, met, all_met}
use Rattle.assignments.specs.Laws.{StaysMet}

stays_known : (p q : List ℕ) (i v : ℕ) → v < 2 → Part p q → eqb (at p i) v ≡ true → eqb (at q i) v ≡ true
stays_known p q i v b part h =
    let e = eqb-true (at p i) v h in
    let s = part.keeps i (omega arith) in
    eq-eqb _ _ (s ∙ e)

pub true_stays : (p q : List ℕ) (l : ℤ) → Part p q → true_at p l ≡ true → true_at q l ≡ true
true_stays p q (pos zero) part h = absurd (both_ways false refl h)
true_stays p q (pos (suc i)) part h = stays_known p q i 1 (omega arith) part h
true_stays p q (negsuc i) part h = stays_known p q i 0 (omega arith) part h

pub met_stays : (p q : List ℕ) (c : List ℤ) → Part p q → met p c ≡ true → met q c ≡ true
met_stays p q [] part h = absurd (both_ways false refl h)
met_stays p q (l ∷ c) part h = ⊎_elim
    (λ e. or_left _ _ (true_stays p q l part e))
    (λ e. or_right _ _ (met_stays p q c part e))
    (or_cases (true_at p l) (met p c) h)

pub all_met_stays : (p q : List ℕ) (cs : List (List ℤ)) → Part p q → all_met p cs ≡ true → all_met q cs ≡ true
all_met_stays p q [] part h = refl
all_met_stays p q (c ∷ cs) part h =
    let e = and_parts (met p c) (all_met p cs) h in
    and_from _ _ (met_stays p q c part e.0) (all_met_stays p q cs part e.1)

pub stays_met : StaysMet
stays_met = record { literal = true_stays; clause = met_stays; clauses = all_met_stays }

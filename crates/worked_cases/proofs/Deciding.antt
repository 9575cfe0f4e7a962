-- Tests that compute for what the ledger's words say of an assignment, and all assignments of n atoms. Assumes nothing.
use Rattle.std.proofs.Common.{◌≡◌, ℕ, zero, suc, ◌<◌, min, Bool, true, false, ◌&&◌, ◌||◌, List, [], ◌∷◌, length, nat_eq, refl, ⊎_elim, arith, le_of_suc-le-suc}
use Rattle.std.specs.List.{list_all}
use Rattle.std.proofs.lemmas.Bool.{both_ways, and_parts, and_from, or_cases, or_left, or_right, eq-eqb, eqb-true, ltb-true}
use Rattle.std.proofs.lemmas.List.Recursion.{and_at}
use Rattle.assignments.specs.Assignments.{at, Complete, Less}
use Rattle.assignments.proofs.ByteLaws.{at_past}
use Rattle.ledgers.specs.Ledger.{Position, before_first, reached, past_end}
use Rattle.ledgers.specs.Admitted.{Beyond}
use Rattle.nested.specs.Nests.{is_known, some_completion}
use Rattle.nested.specs.NestLaws.{some_has}

abbrev pub less : List ℕ → List ℕ → Bool
less [] q = false
less (x ∷ p) [] = false
less (x ∷ p) (y ∷ q) = (nat_eq (min x 2) 0 && nat_eq (min y 2) 1) || (nat_eq (min x 2) (min y 2) && less p q)

shift : (x y : ℕ) (p q : List ℕ) (k : ℕ) → min x 2 ≡ min y 2 → ((i : ℕ) → i < k → at p i ≡ at q i) → (i : ℕ) → i < suc k → at (x ∷ p) i ≡ at (y ∷ q) i
shift x y p q k e f zero h = e
shift x y p q k e f (suc i) h = f i (le_of_suc-le-suc h)

pub less_is : (p q : List ℕ) → less p q ≡ true → Less p q
less_is [] q e = absurd (both_ways false refl e)
less_is (x ∷ p) [] e = absurd (both_ways false refl e)
less_is (x ∷ p) (y ∷ q) e = ⊎_elim
    (λ h. let w = and_parts _ _ h in record { place = 0; same = λ i z. absurd (omega arith); low = eqb-true _ _ w.0; high = eqb-true _ _ w.1 })
    (λ h. let w = and_parts _ _ h in
    let l = less_is p q w.1 in
    record { place = suc l.place; same = shift x y p q l.place (eqb-true _ _ w.0) l.same; low = l.low; high = l.high })
    (or_cases _ _ e)

less_at : (p q : List ℕ) (k : ℕ) → ((i : ℕ) → i < k → at p i ≡ at q i) → at p k ≡ 0 → at q k ≡ 1 → less p q ≡ true
less_at [] q k s a b = let z = at_past [] k (omega arith) in absurd (omega arith)
less_at (x ∷ p) [] k s a b = let z = at_past [] k (omega arith) in absurd (omega arith)
less_at (x ∷ p) (y ∷ q) zero s a b = or_left _ _ (and_from _ _ (eq-eqb _ _ a) (eq-eqb _ _ b))
less_at (x ∷ p) (y ∷ q) (suc k) s a b =
    or_right _ _ (and_from _ _ (eq-eqb _ _ (s 0 (omega arith))) (less_at p q k (λ i h. s (suc i) (omega arith)) a b))

pub less_has : (p q : List ℕ) → Less p q → less p q ≡ true
less_has p q l = less_at p q l.place l.same l.low l.high

abbrev pub beyond : Position → List ℕ → Bool
beyond before_first q = true
beyond (reached p) q = less p q
beyond past_end q = false

pub beyond_is : (pos : Position) (q : List ℕ) → beyond pos q ≡ true → Beyond pos q
beyond_is before_first q e = tt
beyond_is (reached p) q e = less_is p q e
beyond_is past_end q e = absurd (both_ways false refl e)

pub beyond_has : (pos : Position) (q : List ℕ) → Beyond pos q → beyond pos q ≡ true
beyond_has before_first q b = refl
beyond_has (reached p) q b = less_has p q b
beyond_has past_end q b = absurd b

pub complete_by : (q : List ℕ) → list_all is_known q ≡ true → Complete (length q) q
complete_by q e = record {
  long = refl;
  known = λ i h. let k = ltb-true _ _ (and_at (list_all is_known) is_known refl (λ _ _. refl) q i 2 h e) in omega arith;
}

-- a test that passes at none is passed by no complete assignment
pub none_at : (n : ℕ) (t : List ℕ → Bool) → some_completion n [] t ≡ false → (q : List ℕ) → Complete n q → t q ≡ true → ⊥
none_at n t none q c e = both_ways _ none (some_has n [] q t c e)

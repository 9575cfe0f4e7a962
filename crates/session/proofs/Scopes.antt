-- The records of the open scopes, and the fronts of the held clauses that they tell. Assumes nothing.
use Rattle.std.proofs.Common.{◌≡◌, ℕ, zero, suc, ◌<◌, ◌≤◌, true, eqb, List, [], ◌∷◌, ◌++◌, length, get_or, take, set, ℤ, sym, refl, ap, ◌∙◌, subst, arith, length-append, take_all, get_or-set_other, get_or-set_same}
use lib.Seq.{take-append-le}
use Rattle.std.proofs.lemmas.Bool.{and_parts, and_from, leb-true, le-leb, eq-eqb}
use Rattle.clauses.specs.declared.stretch.Counts.{Counts}
use Rattle.clauses.specs.Adding.{is_front, literal_count}
use Rattle.session.specs.Standing.{no_counts, openings, Nested}

front_within : (cs : List (List ℤ)) (k m : ℕ) → is_front cs k m ≡ true → k ≤ length cs
front_within cs k m e = leb-true k (length cs) (and_parts _ _ e).0

-- what scopes tell of a front stays when more clauses are held
front_more : (cs : List (List ℤ)) (c : List ℤ) (k m : ℕ) → is_front cs k m ≡ true → is_front (cs ++ (c ∷ [])) k m ≡ true
front_more cs c k m e =
    let w = front_within cs k m e in
    let l = length-append cs (c ∷ []) in
    and_from _ _ (le-leb k _ (omega arith)) (ap (λ x. eqb m (literal_count x)) (take-append-le k cs (c ∷ []) w) ∙ (and_parts _ _ e).1)

pub nested_more : (cs : List (List ℤ)) (c : List ℤ) (s : List Counts) (k : ℕ) → Nested cs s k → Nested (cs ++ (c ∷ [])) s k
nested_more cs c s zero n = tt
nested_more cs c s (suc k) n =
    let x = get_or s k no_counts in (
      front_more cs c x.clauses x.literals n.0,
      subst (λ y. Nested y s k) (sym (take-append-le x.clauses cs (c ∷ []) (front_within cs x.clauses x.literals n.0))) n.1,
    )

module _ (s : List Counts) (i : ℕ) (x : Counts) where
  kept : (k : ℕ) → k < i → get_or (set s i x) k no_counts ≡ get_or s k no_counts
  kept k h = get_or-set_other s i k x no_counts (λ e. omega arith)

  openings_set : (k : ℕ) → k ≤ i → openings (set s i x) k ≡ openings s k
  openings_set zero h = refl
  openings_set (suc k) h =
      let a : (get_or (set s i x) k no_counts).clauses ≡ (get_or s k no_counts).clauses = ap (λ y. y.clauses) (kept k (omega arith)) in
      let b = openings_set k (omega arith) in
      ap (λ y. y ∷ openings (set s i x) k) a ∙ ap (λ y. (get_or s k no_counts).clauses ∷ y) b

  nested_set : (cs : List (List ℤ)) (k : ℕ) → k ≤ i → Nested cs s k → Nested cs (set s i x) k
  nested_set cs zero h n = tt
  nested_set cs (suc k) h n =
      let e = sym (kept k (omega arith)) in (
        subst (λ y. is_front cs y.clauses y.literals ≡ true) e n.0,
        subst (λ y. Nested (take y.clauses cs) (set s i x) k) e (nested_set (take (get_or s k no_counts).clauses cs) k (omega arith) n.1),
      )

  -- one scope more, opened at all clauses
  pub openings_open : (cs : List (List ℤ)) → i < length s → x.clauses ≡ length cs → openings (set s i x) (suc i) ≡ length cs ∷ openings s i
  openings_open cs h e =
      let a : (get_or (set s i x) i no_counts).clauses ≡ length cs = ap (λ y. y.clauses) (get_or-set_same s i x no_counts h) ∙ e in
      ap (λ y. y ∷ openings (set s i x) i) a ∙ ap (λ y. length cs ∷ y) (openings_set i (omega arith))

  pub nested_open : (cs : List (List ℤ)) → i < length s → x.clauses ≡ length cs → x.literals ≡ literal_count cs → Nested cs s i → Nested cs (set s i x) (suc i)
  nested_open cs h e f n =
      let g = sym (get_or-set_same s i x no_counts h) in
      let all : take x.clauses cs ≡ cs = take_all x.clauses cs (omega arith) in (
        subst (λ y. is_front cs y.clauses y.literals ≡ true) g
            (and_from _ _ (le-leb x.clauses _ (omega arith)) (eq-eqb _ _ (f ∙ ap literal_count (sym all)))),
        subst (λ y. Nested (take y.clauses cs) (set s i x) i) g (subst (λ y. Nested y (set s i x) i) (sym all) (nested_set cs i (omega arith) n)),
      )

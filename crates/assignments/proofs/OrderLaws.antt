-- The law of the order on complete assignments. Assumes nothing.
use Rattle.std.proofs.Common.{◌≡◌, ℕ, zero, suc, ◌<◌, ◌≤◌, ◌⊎◌, List, sym, ◌∙◌, inl, inr, ⊎_elim, arith}
use Rattle.std.proofs.lemmas.Bool.{cases_eq, cases_lt}
use Rattle.assignments.specs.Assignments.{at, Complete, Less}
use Rattle.assignments.specs.Laws.{StrictTotalOrder}
use Rattle.assignments.proofs.ByteLaws.{same_values}

pub less_irrefl : (p : List ℕ) → Less p p → ⊥
less_irrefl p l = omega (arith, l.low, l.high)

pub less_trans : (p q r : List ℕ) → Less p q → Less q r → Less p r
less_trans p q r a b = ⊎_elim
    (λ (h : a.place < b.place). record { place = a.place; same = λ i k. a.same i k ∙ b.same i (omega arith); low = a.low; high = sym (b.same a.place h) ∙ a.high })
    (λ (h : b.place ≤ a.place). ⊎_elim
    (λ (e : a.place ≡ b.place). let z : at q b.place ≡ 1 = rw e at a.high in absurd (omega (arith, b.low)))
    (λ (e : a.place ≡ b.place → ⊥). record { place = b.place; same = λ i k. a.same i (omega arith) ∙ b.same i k; low = a.same b.place (omega arith) ∙ b.low; high = b.high })
    (cases_eq a.place b.place))
    (cases_lt a.place b.place)

abbrev Same : List ℕ → List ℕ → ℕ → Type 0
Same p q k = (i : ℕ) → i < k → at p i ≡ at q i

same_more : (p q : List ℕ) (k : ℕ) → Same p q k → at p k ≡ at q k → Same p q (suc k)
same_more p q k same e i w = ⊎_elim (λ (s : i ≡ k). rw s e) (λ ne. same i (omega arith)) (cases_eq i k)

-- the first k values agree, or the first that differs decides
below : (n : ℕ) (p q : List ℕ) → Complete n p → Complete n q → (k : ℕ) → k ≤ n → Same p q k ⊎ (Less p q ⊎ Less q p)
below n p q fp fq zero h = inl (λ i w. absurd (omega arith))
below n p q fp fq (suc k) h = ⊎_elim
    (λ (same : Same p q k).
    let a = fp.known k (omega arith) in
    let b = fq.known k (omega arith) in
    ⊎_elim
    (λ (e : at p k ≡ at q k). inl (same_more p q k same e))
    (λ (ne : at p k ≡ at q k → ⊥). ⊎_elim
    (λ (l : at p k < at q k). inr (inl (record { place = k; same = same; low = omega arith; high = omega arith })))
    (λ (l : at q k ≤ at p k). inr (inr (record { place = k; same = λ i w. sym (same i w); low = omega arith; high = omega arith })))
    (cases_lt (at p k) (at q k)))
    (cases_eq (at p k) (at q k)))
    inr
    (below n p q fp fq k (omega arith))

pub less_total : (n : ℕ) (p q : List ℕ) → Complete n p → Complete n q → (Less p q) ⊎ ((p ≡ q) ⊎ (Less q p))
less_total n p q fp fq = ⊎_elim
    (λ same. inr (inl (same_values n p q fp fq same)))
    (⊎_elim inl (λ l. inr (inr l)))
    (below n p q fp fq n (omega arith))

pub strict_total_order : StrictTotalOrder
strict_total_order = record { irreflexive = less_irrefl; transitive = less_trans; total = less_total }

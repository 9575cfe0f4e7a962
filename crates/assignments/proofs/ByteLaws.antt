-- Values read off the bytes of an assignment. Assumes nothing.
use Rattle.std.proofs.Common.{◌≡◌, ℕ, ◌<◌, ◌≤◌, min, ◌⊎◌, List, length, get_or, set, sym, ap, ◌∙◌, inl, inr, ⊎_elim, arith, get_or-set_other, get_or-set_same}
use Rattle.std.proofs.lemmas.Bool.{cases_eq, cases_lt}
use Rattle.std.proofs.lemmas.List.{get_or_default, get_or_past, same_lists}
use Rattle.assignments.specs.Assignments.{at, Complete}

-- what the code reads at a place within the assignment
pub at_read : (p : List ℕ) (i : ℕ) → i < length p → at p i ≡ min (get_or p i 0) 2
at_read p i h = ap (λ x. min x 2) (get_or_default p i 2 0 h)

pub at_past : (p : List ℕ) (i : ℕ) → length p ≤ i → at p i ≡ 2
at_past p i h = ap (λ x. min x 2) (get_or_past p i 2 h)

-- a known place is one of the bytes
pub at_within : (p : List ℕ) (i : ℕ) → at p i < 2 → i < length p
at_within p i h = ⊎_elim (λ w. w) (λ (w : length p ≤ i). let e = at_past p i w in absurd (omega arith)) (cases_lt i (length p))

pub bit : (b : ℕ) → b < 2 → (b ≡ 0) ⊎ (b ≡ 1)
bit b h = ⊎_elim (λ e. inl e) (λ ne. inr (omega arith)) (cases_eq b 0)

pub at_set_same : (p : List ℕ) (i v : ℕ) → i < length p → at (set p i v) i ≡ min v 2
at_set_same p i v h = ap (λ x. min x 2) (get_or-set_same p i v 2 h)

pub at_set_other : (p : List ℕ) (i j v : ℕ) → (j ≡ i → ⊥) → at (set p i v) j ≡ at p j
at_set_other p i j v h = ap (λ x. min x 2) (get_or-set_other p i j v 2 h)

-- a complete assignment is its values
pub same_values : (n : ℕ) (p q : List ℕ) → Complete n p → Complete n q → ((i : ℕ) → i < n → at p i ≡ at q i) → p ≡ q
same_values n p q fp fq same = same_lists p q (fp.long ∙ sym fq.long) (λ k d h.
    let w : k < n = omega (arith, fp.long) in
    let a = fp.known k w in
    let b = fq.known k w in
    let e = same k w in
    let x = get_or_default p k d 2 h in
    let y = get_or_default q k d 2 (omega (arith, fp.long, fq.long)) in
    omega arith)

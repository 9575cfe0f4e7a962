-- The first literals of a clause and the first clauses of a list, one more at a time. Assumes nothing.
use Rattle.std.proofs.Common.{◌≡◌, ℕ, zero, suc, ◌+◌, ◌<◌, Bool, true, false, ◌&&◌, ◌||◌, Option, Some, None, List, [], ◌∷◌, ◌++◌, length, get_or, take, ℤ, pos, sym, ap, ◌∙◌, ◌⊎◌, ⊎_elim, subst, le_of_suc-le-suc, not-suc-le-zero, arith}
use Rattle.std.proofs.lemmas.List.{take_more}
use Rattle.std.proofs.lemmas.Bool.{cases_eq, or_left, or_right, and_from, and_parts}
use Rattle.std.proofs.lemmas.Bool.Decides.{nat_tests}
use Rattle.assignments.specs.Literals.{true_at, met, all_met}
use Rattle.propagation.specs.States.{Refuted, Left, Filled, OpenAt, TwoOpen, Waiting}
use Rattle.propagation.specs.declared.wanted.Wanted.{Wanted}

met_append : (q : List ℕ) (c : List ℤ) (l : ℤ) → met q (c ++ (l ∷ [])) ≡ (met q c || true_at q l)
met_append q [] l = grind (arith, nat_tests)
met_append q (x ∷ c) l = let r = met_append q c l in grind (arith, nat_tests)

met_more : (q : List ℕ) (c : List ℤ) (i : ℕ) → i < length c → met q (take (i + 1) c) ≡ (met q (take i c) || true_at q (get_or c i (pos 0)))
met_more q c i h = ap (met q) (take_more c i (pos 0) h) ∙ met_append q (take i c) (get_or c i (pos 0))

-- what a walk over a clause has found: what the one literal that is open wants, or nothing
abbrev pub SoFar : ℕ → List ℕ → (List ℕ → Bool) → Option Wanted → Type 0
SoFar from p f (Some w) = Left from p f w
SoFar from p f None = Refuted from p f

-- a literal before the place i is open
pub record OpenBefore (from : ℕ) (p : List ℕ) (c : List ℤ) (i : ℕ) : Type 0 where
  pub spot : ℕ
  pub before : spot < i
  pub is_open : OpenAt from p c spot

-- the same, where the walk has found one
abbrev pub OneOpen : ℕ → List ℕ → List ℤ → ℕ → Option Wanted → Type 0
OneOpen from p c i (Some w) = OpenBefore from p c i
OneOpen from p c i None = Unit {0}

module _ (from : ℕ) (p : List ℕ) (c : List ℤ) (i : ℕ) where
  pub one_open_more : (found : Option Wanted) → OneOpen from p c i found → OneOpen from p c (i + 1) found
  one_open_more (Some w) a = let b = a.before in record { spot = a.spot; before = omega arith; is_open = a.is_open }
  one_open_more None a = a

  pub one_open_here : (w : Wanted) → i < length c → Left from p (λ q. true_at q (get_or c i (pos 0))) w → OpenBefore from p c (i + 1)
  one_open_here w h b = record { spot = i; before = omega arith; is_open = record { within = h; wants = w; left = b } }

  pub two_open : (w : Wanted) → OpenBefore from p c i → i < length c → Left from p (λ q. true_at q (get_or c i (pos 0))) w → TwoOpen from p c
  two_open w a h b = record { first = a.spot; second = i; apart = a.before; one = a.is_open; other = record { within = h; wants = w; left = b } }

pub two_not_filled : (from : ℕ) (p : List ℕ) (c : List ℤ) → TwoOpen from p c → Filled from p → ⊥
two_not_filled from p c t full =
    let o = t.one.left in
    let u = o.unknown in
    let k = full.known t.one.wants.place o.free o.within in
    omega arith

pub waiting_more : (from : ℕ) (p : List ℕ) (cs : List (List ℤ)) (n : ℕ) → Waiting from p cs n → (met p (get_or cs n []) ≡ true) ⊎ TwoOpen from p (get_or cs n []) → Waiting from p cs (n + 1)
waiting_more from p cs n w here = record {
  each = λ k h. ⊎_elim
      (λ (e : k ≡ n). subst (λ j. (met p (get_or cs j []) ≡ true) ⊎ TwoOpen from p (get_or cs j [])) (sym e) here)
      (λ (ne : k ≡ n → ⊥). w.each k (omega arith))
      (cases_eq k n);
}

module _ (from : ℕ) (p : List ℕ) (c : List ℤ) (i : ℕ) (h : i < length c) where
  fails_more : (q : List ℕ) → true_at q (get_or c i (pos 0)) ≡ false → met q (take (i + 1) c) ≡ met q (take i c)
  fails_more q e = met_more q c i h ∙ grind (arith, nat_tests)

  -- one literal more that fails
  pub sofar_fails : (found : Option Wanted) → SoFar from p (λ q. met q (take i c)) found → Refuted from p (λ q. true_at q (get_or c i (pos 0))) → SoFar from p (λ q. met q (take (i + 1) c)) found
  sofar_fails (Some w) a b = record {
    free = a.free;
    within = a.within;
    unknown = a.unknown;
    bit = a.bit;
    forced = λ q x m. a.forced q x (sym (fails_more q (b.never q x)) ∙ m);
  }
  sofar_fails None a b = record { never = λ q x. fails_more q (b.never q x) ∙ a.never q x }

  -- the first that is open
  pub sofar_open : (w : Wanted) → Refuted from p (λ q. met q (take i c)) → Left from p (λ q. true_at q (get_or c i (pos 0))) w → Left from p (λ q. met q (take (i + 1) c)) w
  sofar_open w a b = record {
    free = b.free;
    within = b.within;
    unknown = b.unknown;
    bit = b.bit;
    forced = λ q x m. let e = met_more q c i h in let n = a.never q x in b.forced q x (grind (arith, nat_tests));
  }

  pub met_at : true_at p (get_or c i (pos 0)) ≡ true → met p c ≡ true
  met_at e = go c i h e
    where
      go : (xs : List ℤ) (k : ℕ) → k < length xs → true_at p (get_or xs k (pos 0)) ≡ true → met p xs ≡ true
      go [] k w e = absurd (not-suc-le-zero w)
      go (x ∷ xs) zero w e = or_left _ _ e
      go (x ∷ xs) (suc k) w e = or_right _ _ (go xs k (le_of_suc-le-suc w) e)

-- the clauses of a list
module _ (q : List ℕ) where
  all_append : (cs : List (List ℤ)) (c : List ℤ) → all_met q (cs ++ (c ∷ [])) ≡ (all_met q cs && met q c)
  all_append [] c = grind (arith, nat_tests)
  all_append (x ∷ cs) c = let r = all_append cs c in grind (arith, nat_tests)

  pub all_more : (cs : List (List ℤ)) (i : ℕ) → i < length cs → all_met q (take i cs) ≡ true → met q (get_or cs i []) ≡ true → all_met q (take (i + 1) cs) ≡ true
  all_more cs i h a b = ap (all_met q) (take_more cs i [] h) ∙ all_append (take i cs) (get_or cs i []) ∙ and_from _ _ a b

  pub all_has : (cs : List (List ℤ)) (i : ℕ) → i < length cs → all_met q cs ≡ true → met q (get_or cs i []) ≡ true
  all_has [] i h e = absurd (not-suc-le-zero h)
  all_has (c ∷ cs) zero h e = (and_parts (met q c) (all_met q cs) e).0
  all_has (c ∷ cs) (suc i) h e = all_has cs i (le_of_suc-le-suc h) (and_parts (met q c) (all_met q cs) e).1

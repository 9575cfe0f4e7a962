-- Marks of host atoms, and what stays where the others are forgotten. Assumes nothing.
use Rattle.std.proofs.Common.{◌≡◌, ℕ, zero, suc, ◌+◌, ◌-◌, ◌<◌, ◌≤◌, true, false, List, [], length, get_or, set, take, drop, ℤ, pos, negsuc, Option, Some, None, sym, refl, ap, ◌∙◌, subst, ⊎_elim, length-drop, arith, get_or-set_same, eqb}
use Rattle.std.proofs.lemmas.List.{take_more, take_all}
use Rattle.std.proofs.lemmas.List.Recursion.{or_push}
use Rattle.std.proofs.lemmas.Bool.{cases_eq, cases_lt, cond-true, lt-ltb, eqb-true, both_ways, or_from}
use Rattle.assignments.specs.Assignments.{at, atom}
use Rattle.assignments.specs.Limits.{atom_limit}
use Rattle.assignments.specs.Literals.{true_at, met}
use Rattle.vetoes.specs.Verdicts.{ticked}
use Rattle.vetoes.specs.Marks.{marked}
use Rattle.vetoes.proofs.Marking.{ticked_on, ticked_part, marked_grows}
use Rattle.propagation.specs.Literals.{place}
use Rattle.nested.specs.Completing.{HeldBy, Supported, IsMarked, Backed}

-- an atom that is marked
pub marked_is : (p t : List ℕ) (a : ℕ) → length t ≡ atom_limit → IsMarked p a (marked p a t)
marked_is p t zero long known few = absurd (omega arith)
marked_is p t (suc i) long known few =
    ap (λ l. get_or l (suc i - 1) 0) (cond-true _ (set t (suc i - 1) 1) t (lt-ltb (at p i) 2 known)) ∙ get_or-set_same t (suc i - 1) 1 0 (omega arith)

pub still_marked : (p t u : List ℕ) (a : ℕ) → ((i : ℕ) → get_or t i 0 ≡ 1 → get_or u i 0 ≡ 1) → IsMarked p a t → IsMarked p a u
still_marked p t u a grows h known few = grows (a - 1) (h known few)

-- keeps its value
pub marked_stays : (p t : List ℕ) (a : ℕ) → a ≤ atom_limit → IsMarked p a t → atom (ticked p t) a ≡ atom p a
marked_stays p t zero few h = refl
marked_stays p t (suc i) few h = ⊎_elim
    (λ (w : at p i < 2). ticked_on p t i (subst (λ k. get_or t k 0 ≡ 1) (omega arith) (h w few)))
    (λ (w : 2 ≤ at p i). ⊎_elim
    (λ (k : at (ticked p t) i < 2). sym ((ticked_part p t).keeps i k))
    (λ (k : 2 ≤ at (ticked p t) i). omega arith)
    (cases_lt (at (ticked p t) i) 2))
    (cases_lt (at p i) 2)

pub grows_on : (t u w p : List ℕ) (a : ℕ) → w ≡ marked p a u → ((i : ℕ) → get_or t i 0 ≡ 1 → get_or u i 0 ≡ 1) → (i : ℕ) → get_or t i 0 ≡ 1 → get_or w i 0 ≡ 1
grows_on t u w p a made grows i e = rw made (marked_grows p u a i (grows i e))

-- one mark more
module _ (p t u : List ℕ) (a : ℕ) (long : length u ≡ atom_limit) where
  grows_more : ((i : ℕ) → get_or t i 0 ≡ 1 → get_or u i 0 ≡ 1) → (i : ℕ) → get_or t i 0 ≡ 1 → get_or (marked p a u) i 0 ≡ 1
  grows_more grows i e = marked_grows p u a i (grows i e)

  pub all_more : (m : List ℕ) (n : ℕ) → get_or m n 0 ≡ a → ((i : ℕ) → i < n → IsMarked p (get_or m i 0) u) → (i : ℕ) → i < n + 1 → IsMarked p (get_or m i 0) (marked p a u)
  all_more m n here each i h = ⊎_elim
      (λ (s : i ≡ n). rw (s, here) (marked_is p u a long))
      (λ (s : i ≡ n → ⊥). still_marked p u (marked p a u) (get_or m i 0) (marked_grows p u a) (each i (omega arith)))
      (cases_eq i n)

  pub marks_more : (m q w : List ℕ) (n : ℕ) → q ≡ p → w ≡ marked q a u → get_or m n 0 ≡ a → ((i : ℕ) → get_or t i 0 ≡ 1 → get_or u i 0 ≡ 1) → ((i : ℕ) → i < n → IsMarked p (get_or m i 0) u) → ((i : ℕ) → get_or t i 0 ≡ 1 → get_or w i 0 ≡ 1) × ((i : ℕ) → i < n + 1 → IsMarked p (get_or m i 0) w)
  marks_more m q w n of made here grows each =
      let e : w ≡ marked p a u = made ∙ ap (λ x. marked x a u) of in
      rw e (grows_more grows, all_more m n here each)

-- the clauses, one after the other
module _ (p m q : List ℕ) (cs : List (List ℤ)) where
  abbrev pub EachBacked : ℕ → List ℕ → Type 0
  EachBacked n t = (k : ℕ) → k < n → met q (get_or cs k []) ≡ true → Backed p m q (get_or cs k []) t

  backed_still : (c : List ℤ) (t u : List ℕ) → ((i : ℕ) → get_or t i 0 ≡ 1 → get_or u i 0 ≡ 1) → Backed p m q c t → Backed p m q c u
  backed_still c t u grows b = record { place = b.place; held = b.held; behind = λ h. still_marked p t u (get_or m b.place 0) grows (b.behind h) }

  -- one that an own atom meets, or nothing
  pub backed_own : (n : ℕ) (t : List ℕ) → Supported m q (get_or cs n []) None → EachBacked n t → EachBacked (n + 1) t
  backed_own n t own each k h e = ⊎_elim
      (λ (s : k ≡ n). rw s (let o = own (subst (λ x. met q (get_or cs x []) ≡ true) s e) in record { place = o.place; held = o.held; behind = λ w. let out = o.outside in absurd (omega arith) }))
      (λ (s : k ≡ n → ⊥). each k (omega arith) e)
      (cases_eq k n)

  -- one that a seen atom meets, whose host atom is marked
  pub backed_seen : (n a : ℕ) (t : List ℕ) → length t ≡ atom_limit → HeldBy m q (get_or cs n []) a → EachBacked n t → EachBacked (n + 1) (marked p a t)
  backed_seen n a t long by each k h e = ⊎_elim
      (λ (s : k ≡ n). rw s (record { place = by.place; held = by.held; behind = λ w. rw by.mapped (marked_is p t a long) }))
      (λ (s : k ≡ n → ⊥). backed_still (get_or cs k []) t (marked p a t) (marked_grows p t a) (each k (omega arith) e))
      (cases_eq k n)

  -- the same where what was asked is only equal to that
  pub supported_none : (n : ℕ) (t m' : List ℕ) (c : List ℤ) → m' ≡ m → get_or cs n [] ≡ c → Supported m' q c None → EachBacked n t → EachBacked (n + 1) t
  supported_none n t m' c e here own = backed_own n t (rw (here, ← e) own)

  pub supported_some : (n a : ℕ) (t w m' p' : List ℕ) (c : List ℤ) → m' ≡ m → p' ≡ p → get_or cs n [] ≡ c → w ≡ marked p' a t → length t ≡ atom_limit → HeldBy m' q c a → EachBacked n t → EachBacked (n + 1) w
  supported_some n a t w m' p' c e of here made long by each =
      let f : w ≡ marked p a t = made ∙ ap (λ x. marked x a t) of in
      let b : HeldBy m q (get_or cs n []) a = rw (here, ← e) by in
      rw f (backed_seen n a t long b each)

  pub all_backed : (n : ℕ) (t : List ℕ) → drop n cs ≡ [] → EachBacked n t → (k : ℕ) → k < length cs → met q (get_or cs k []) ≡ true → Backed p m q (get_or cs k []) t
  all_backed n t e each k h = each k (let l = length-drop n cs in let z : length (drop n cs) ≡ 0 = ap length e in omega arith)

-- a walk over a clause: a literal that holds and whose atom is seen, or none yet
abbrev pub SupportSoFar : (m q : List ℕ) → List ℤ → ℕ → Option ℕ → Type 0
SupportSoFar m q c n (Some a) = HeldBy m q c a
SupportSoFar m q c n None = met q (take n c) ≡ false

pub support_skip : (m q : List ℕ) (c : List ℤ) (n : ℕ) (o : Option ℕ) → n < length c → true_at q (get_or c n (pos 0)) ≡ false → SupportSoFar m q c n o → SupportSoFar m q c (n + 1) o
support_skip m q c n (Some a) h e so = so
support_skip m q c n None h e so = ap (met q) (take_more c n (pos 0) h) ∙ or_push (met q) (true_at q) refl (λ _ _. refl) (take n c) (get_or c n (pos 0)) ∙ or_from _ _ so e

pub support_end : (m q : List ℕ) (c : List ℤ) (n : ℕ) (o : Option ℕ) → length c ≤ n → SupportSoFar m q c n o → Supported m q c o
support_end m q c n (Some a) h so = so
support_end m q c n None h so = λ e. absurd (both_ways (met q c) (ap (met q) (sym (take_all n c h)) ∙ so) e)

-- a literal that is true has an atom with a value
pub true_known : (q : List ℕ) (l : ℤ) → true_at q l ≡ true → at q (place l) < 2
true_known q (pos zero) e = absurd (both_ways false refl e)
true_known q (pos (suc i)) e = let v = eqb-true (at q i) 1 e in omega arith
true_known q (negsuc i) e = let v = eqb-true (at q i) 0 e in omega arith

pub true_same : (q r : List ℕ) (l : ℤ) → at r (place l) ≡ at q (place l) → true_at q l ≡ true → true_at r l ≡ true
true_same q r (pos zero) same e = e
true_same q r (pos (suc i)) same e = ap (λ x. eqb x 1) same ∙ e
true_same q r (negsuc i) same e = ap (λ x. eqb x 0) same ∙ e

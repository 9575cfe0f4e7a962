-- Marks, ticks, and the part of an assignment that ticks leave. Assumes nothing.
use Rattle.std.proofs.Common.{◌≡◌, ℕ, zero, suc, ◌+◌, ◌-◌, ◌<◌, ◌≤◌, min, Bool, true, false, cond, eqb, ltb, List, [], ◌∷◌, length, get_or, set, take, drop, replicate, ◌++◌, Ok, Err, Result, sym, refl, ap, ◌∙◌, subst, ⊎_elim, arith, length-set, get_or-set_other, get_or-set_same}
use Rattle.std.proofs.lemmas.List.{get_or_past, get_or-drop, length-take-le, length-replicate}
use Rattle.std.proofs.lemmas.Slice.{drop-append-drop}
use Rattle.std.proofs.lemmas.Grind.{elements}
use borrow.Rule.Slice.PartMut.{put_mid, drop_put}
use Rattle.std.proofs.lemmas.Bool.{cases_eq, cases_lt, eq-eqb, ne_eqb, lt-ltb, cond-true, cond-false}
use Rattle.refusals.specs.declared.Refusal.{Refusal}
use Rattle.assignments.specs.Assignments.{at, atom, Part}
use Rattle.assignments.specs.Limits.{atom_limit}
use Rattle.vetoes.specs.declared.veto.Verdict.{Verdict}
use Rattle.vetoes.specs.declared.veto.Verdict.TheVariants.{Speaks, Silent}
use Rattle.vetoes.specs.Verdicts.{Examined, Ticks, TicksOf, ticked, Reason}
use Rattle.vetoes.specs.Marks.{Marks, marked, Copied, Answered}

pub blank_replicate : (n i : ℕ) → get_or {A = ℕ} (replicate n 0) i 0 ≡ 0
blank_replicate zero i = refl
blank_replicate (suc n) zero = refl
blank_replicate (suc n) (suc i) = blank_replicate n i

-- a copy of n marks, and zeros after these up to place e
pub copied_parts : (marks before copied zeros : List ℕ) (len e n : ℕ) → e ≡ min (length before) len → n ≡ min e (length marks) → copied ≡ take n marks → zeros ≡ replicate (e - n) 0 → Copied marks len before (put_mid n (e - n) (copied ++ drop n before) zeros)
copied_parts marks before copied zeros len e n end many copy none = record {
  front = λ i h w. ⊎_elim
      (λ (s : i < n). grind (arith, elements))
      (λ (s : n ≤ i). let past : length marks ≤ i → get_or marks i 0 ≡ 0 = get_or_past marks i 0 in grind (arith, elements, past))
      (cases_lt i n);
  rest = λ i h.
      let long : length copied ≡ n = ap length copy ∙ length-take-le n marks (omega arith) in
      let all : length (copied ++ drop n before) ≡ length before = grind (arith, elements) in
      let zeros_long : length zeros ≡ e - n = ap length none ∙ length-replicate (e - n) 0 in
      let whole = put_mid n (e - n) (copied ++ drop n before) zeros in
      let past : drop e whole ≡ drop e (copied ++ drop n before) = drop_put n e (copied ++ drop n before) zeros (omega arith) (omega arith) zeros_long in
      let same : drop e (copied ++ drop n before) ≡ drop e before = drop-append-drop n before copied e (omega arith) long in
      let there : e + (i - e) ≡ i = omega arith in
      subst (λ k. get_or whole k 0 ≡ get_or before k 0) there
      (sym (get_or-drop e whole (i - e) 0) ∙ ap (λ l. get_or l (i - e) 0) (past ∙ same) ∙ get_or-drop e before (i - e) 0);
}

-- what the ticks leave, place by place
pub ticked_on : (p t : List ℕ) (i : ℕ) → get_or t i 0 ≡ 1 → at (ticked p t) i ≡ at p i
ticked_on [] t i e = refl
ticked_on (x ∷ p) [] i e = absurd (omega arith)
ticked_on (x ∷ p) (b ∷ t) zero e = ap (λ y. min y 2) (cond-true (eqb b 1) x 2 (eq-eqb b 1 e))
ticked_on (x ∷ p) (b ∷ t) (suc i) e = ticked_on p t i e

pub ticked_off : (p t : List ℕ) (i : ℕ) → (get_or t i 0 ≡ 1 → ⊥) → at (ticked p t) i ≡ 2
ticked_off [] t i n = refl
ticked_off (x ∷ p) [] zero n = refl
ticked_off (x ∷ p) [] (suc i) n = ticked_off p [] i n
ticked_off (x ∷ p) (b ∷ t) zero n = ap (λ y. min y 2) (cond-false (eqb b 1) x 2 (ne_eqb b 1 n))
ticked_off (x ∷ p) (b ∷ t) (suc i) n = ticked_off p t i n

pub ticked_part : (p t : List ℕ) → Part (ticked p t) p
ticked_part p t = record {
  keeps = λ i k. ⊎_elim
      (λ (e : get_or t i 0 ≡ 1). sym (ticked_on p t i e))
      (λ (n : get_or t i 0 ≡ 1 → ⊥). let u = ticked_off p t i n in absurd (omega arith))
      (cases_eq (get_or t i 0) 1);
}

-- more ticks leave more
pub ticked_grows : (p t u : List ℕ) → ((i : ℕ) → get_or t i 0 ≡ 1 → get_or u i 0 ≡ 1) → Part (ticked p t) (ticked p u)
ticked_grows p t u more = record {
  keeps = λ i k. ⊎_elim
      (λ (e : get_or t i 0 ≡ 1). ticked_on p u i (more i e) ∙ sym (ticked_on p t i e))
      (λ (n : get_or t i 0 ≡ 1 → ⊥). let w = ticked_off p t i n in absurd (omega arith))
      (cases_eq (get_or t i 0) 1);
}

pub ticked_same : (p t u : List ℕ) → ((i : ℕ) → i < length p → get_or t i 0 ≡ get_or u i 0) → ticked p t ≡ ticked p u
ticked_same [] t u same = refl
ticked_same (x ∷ p) [] [] same = refl
ticked_same (x ∷ p) [] (c ∷ u) same =
    let e : 0 ≡ c = same 0 (omega arith) in
    let n : eqb c 1 ≡ false = ne_eqb c 1 (λ z. omega arith) in
    ap (λ y. 2 ∷ y) (ticked_same p [] u (λ i h. same (suc i) (omega arith))) ∙ ap (λ y. y ∷ ticked p u) (sym (cond-false (eqb c 1) x 2 n))
ticked_same (x ∷ p) (b ∷ t) [] same =
    let e : b ≡ 0 = same 0 (omega arith) in
    let n : eqb b 1 ≡ false = ne_eqb b 1 (λ z. omega arith) in
    ap (λ y. cond (eqb b 1) x 2 ∷ y) (ticked_same p t [] (λ i h. same (suc i) (omega arith))) ∙ ap (λ y. y ∷ ticked p []) (cond-false (eqb b 1) x 2 n)
ticked_same (x ∷ p) (b ∷ t) (c ∷ u) same =
    let e : b ≡ c = same 0 (omega arith) in
    ap (λ y. cond (eqb b 1) x 2 ∷ y) (ticked_same p t u (λ i h. same (suc i) (omega arith))) ∙ ap (λ y. cond (eqb y 1) x 2 ∷ ticked p u) e

-- one mark more, at a known atom
pub marks_set : (p t : List ℕ) (j : ℕ) → j < atom_limit → at p j < 2 → Marks p t → Marks p (set t j 1)
marks_set p t j w k m = record {
  long = length-set t j 1 ∙ m.long;
  bits = λ i. ⊎_elim
      (λ (e : i ≡ j). subst (λ x. get_or (set t j 1) x 0 < 2) (sym e) (let z = get_or-set_same t j 1 0 (omega (arith, m.long)) in omega arith))
      (λ (n : i ≡ j → ⊥). let z = get_or-set_other t j i 1 0 n in let b = m.bits i in omega arith)
      (cases_eq i j);
  known = λ i h. ⊎_elim
      (λ (e : i ≡ j). subst (λ x. at p x < 2) (sym e) k)
      (λ (n : i ≡ j → ⊥). m.known i (sym (get_or-set_other t j i 1 0 n) ∙ h))
      (cases_eq i j);
}

-- a mark more keeps the others
pub set_grows : (t : List ℕ) (j i : ℕ) → get_or t i 0 ≡ 1 → get_or (set t j 1) i 0 ≡ 1
set_grows t j i e = ⊎_elim
    (λ (s : i ≡ j). ⊎_elim
    (λ (w : j < length t). subst (λ x. get_or (set t j 1) x 0 ≡ 1) (sym s) (get_or-set_same t j 1 0 w))
    (λ (w : length t ≤ j). let z = get_or_past t i 0 (omega arith) in absurd (omega arith))
    (cases_lt j (length t)))
    (λ (n : i ≡ j → ⊥). get_or-set_other t j i 1 0 n ∙ e)
    (cases_eq i j)

-- an atom, by its number
pub atom_grows : (p q : List ℕ) (a : ℕ) → Part p q → atom p a ≡ 1 → atom q a ≡ 1
atom_grows p q zero part e = e
atom_grows p q (suc i) part e = part.keeps i (omega arith) ∙ e

pub atom_positive : (p : List ℕ) (a : ℕ) → atom p a ≡ 1 → 1 ≤ a
atom_positive p zero e = absurd (omega arith)
atom_positive p (suc i) e = omega arith

-- a mark more, by the number of a true atom
pub marks_atom : (p t : List ℕ) (a : ℕ) → a ≤ atom_limit → atom p a ≡ 1 → Marks p t → Marks p (set t (a - 1) 1)
marks_atom p t zero h e m = absurd (omega arith)
marks_atom p t (suc i) h e m =
    let k : suc i - 1 ≡ i = omega arith in
    subst (λ j. Marks p (set t j 1)) (sym k) (marks_set p t i (omega arith) (omega arith) m)

pub marked_is : (p t : List ℕ) (a : ℕ) → atom p a ≡ 1 → marked p a t ≡ set t (a - 1) 1
marked_is p t a on = cond-true (ltb (atom p a) 2) (set t (a - 1) 1) t (lt-ltb (atom p a) 2 (omega arith))

-- what marking an atom leaves: that atom, and all that was marked
pub marked_there : (p t : List ℕ) (a : ℕ) → atom p a ≡ 1 → a ≤ atom_limit → length t ≡ atom_limit → get_or (marked p a t) (a - 1) 0 ≡ 1
marked_there p t a on few long =
    let low = atom_positive p a on in
    ap (λ l. get_or l (a - 1) 0) (marked_is p t a on) ∙ get_or-set_same t (a - 1) 1 0 (omega arith)

pub marked_grows : (p t : List ℕ) (a i : ℕ) → get_or t i 0 ≡ 1 → get_or (marked p a t) i 0 ≡ 1
marked_grows p t a i e = elim (ltb (atom p a) 2) as (λ b. get_or (cond b (set t (a - 1) 1) t) i 0 ≡ 1) [ true ↦ set_grows t (a - 1) i e | false ↦ e ]

pub ticked_atom : (p t : List ℕ) (a : ℕ) → atom p a ≡ 1 → get_or t (a - 1) 0 ≡ 1 → atom (ticked p t) a ≡ 1
ticked_atom p t zero e h = e
ticked_atom p t (suc i) e h =
    let k : suc i - 1 ≡ i = omega arith in
    ticked_on p t i (subst (λ j. get_or t j 0 ≡ 1) k h) ∙ e

-- marks that are copied are ticks
pub copied_ticks : (p marks before after : List ℕ) → length p ≤ length before → Marks p marks → Copied marks (length p) before after → Ticks p before after
copied_ticks p marks before after w m c = record {
  bits = λ i h. let e = c.front i h (omega arith) in let b = m.bits i in omega arith;
  atoms = λ i h t.
      let e = c.front i h (omega arith) in
      ⊎_elim (λ (l : i < atom_limit). l)
      (λ (l : atom_limit ≤ i). let z = get_or_past marks i 0 (omega (arith, m.long)) in absurd (omega arith))
      (cases_lt i atom_limit);
  known = λ i h t. m.known i (sym (c.front i h (omega arith)) ∙ t);
  stays = c.rest;
}

-- ticks that are a copy of marks leave what the marks leave
pub copied_leaves : (p marks before after : List ℕ) → length p ≤ length before → Copied marks (length p) before after → ticked p after ≡ ticked p marks
copied_leaves p marks before after w c = ticked_same p after marks (λ i h. c.front i h (omega arith))

-- all that examine promises, of a veto that answers by its marks
pub record Explained (s : List ℕ → Bool) (p before after : List ℕ) (r : Result Verdict Refusal) : Type 0 where
  pub answer : Examined s p before after r
  pub ticks : TicksOf p before after r
  pub reason : Reason s p after r

pub explained : (s : List ℕ → Bool) (p marks before after : List ℕ) (b : Bool) (r : Result Verdict Refusal) → Answered b marks p before after r → b ≡ s p → Marks p marks → (b ≡ true → s (ticked p marks) ≡ true) → Explained s p before after r
explained s p marks before after b (Ok Speaks) a e m reason = record {
  answer = (a.0.0, sym e ∙ a.0.1);
  ticks = copied_ticks p marks before after a.0.0 m a.1;
  reason = ap s (copied_leaves p marks before after a.0.0 a.1) ∙ reason a.0.1;
}
explained s p marks before after b (Ok Silent) a e m reason = record { answer = (a.0.0, sym e ∙ a.0.1, a.0.2); ticks = tt; reason = tt }
explained s p marks before after b (Err f) a e m reason = record { answer = a.0; ticks = tt; reason = tt }

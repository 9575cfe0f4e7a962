-- An ask that finds none has the one right answer, for two assumptions and for three. Assumes nothing.
use Rattle.std.proofs.Common.{◌≡◌, ◌≢◌, ℕ, suc, zero, ◌<◌, ◌≤◌, true, false, List, [], ◌∷◌, ℤ, pos, Option, Some, None, is_some, refl, ◌∙◌, ap, ⊎_elim, arith, slice_index, slice_index_or}
use Rattle.std.proofs.lemmas.Bool.{both_ways}
use Rattle.assignments.specs.Literals.{true_at}
use Rattle.assignments.proofs.ByteLaws.{bit}
use Rattle.vetoes.specs.Meaning.{Meaning}
use Rattle.ledgers.specs.Ledger.{Ledger, ask, Answer, accepted, handed_out, no_more, chosen, clash, refused}
use Rattle.ledgers.specs.Admitted.{Admitted, IncludesTicked}
use Rattle.ledgers.specs.Right.{due, Answers, Wished, TicksCore}
use Rattle.worked_cases.specs.Playing.{OnlyRight}
use Rattle.worked_cases.proofs.Steps.{or_zero, only_by}

-- a core that is the only one, where no assignment includes all
pub only_core : (m : Meaning) (l : Ledger) (asked : List ℤ) (b t u : List ℕ) → due m l (ask asked b t) ≡ None → ((q : List ℕ) → Wished m l asked q → ⊥) → TicksCore m l asked t u → ((v : List ℕ) → TicksCore m l asked t v → v ≡ u) → OnlyRight m l (ask asked b t) (clash b u)
only_core m l asked b t u e none core one = only_by m l (ask asked b t) (clash b u) e (core, refl) only
  where
    only : (a : Answer) → Answers m l (ask asked b t) a → a ≡ clash b u
    only accepted h = absurd h
    only (handed_out o) h = absurd h
    only (no_more o) h = absurd h
    only (chosen o v) h = absurd (none h.0.q h.0.least.one)
    only (clash o v) h = ap (clash o) (one v h.0) ∙ ap (λ x. clash x u) h.1
    only (refused e bs) h = absurd h

pub ticked_two : (q : List ℕ) (x y : ℤ) (a b : ℕ) (but : Option ℕ) → (a ≡ 1 → but ≢ Some 0 → true_at q x ≡ true) → (b ≡ 1 → but ≢ Some 1 → true_at q y ≡ true) → IncludesTicked q (x ∷ y ∷ []) (a ∷ b ∷ []) but
ticked_two q x y a b but f g = record { each = each }
  where
    each : (i : ℕ) → i < 2 → slice_index (a ∷ b ∷ []) i ≡ 1 → (but ≢ Some i) → true_at q (slice_index_or (x ∷ y ∷ []) i (pos 0)) ≡ true
    each zero h t n = f t n
    each (suc zero) h t n = g t n
    each (suc (suc i)) h t n = absurd (omega arith)

pub ticked_three : (q : List ℕ) (x y z : ℤ) (a b c : ℕ) (but : Option ℕ) → (a ≡ 1 → but ≢ Some 0 → true_at q x ≡ true) → (b ≡ 1 → but ≢ Some 1 → true_at q y ≡ true) → (c ≡ 1 → but ≢ Some 2 → true_at q z ≡ true) → IncludesTicked q (x ∷ y ∷ z ∷ []) (a ∷ b ∷ c ∷ []) but
ticked_three q x y z a b c but f g k = record { each = each }
  where
    each : (i : ℕ) → i < 3 → slice_index (a ∷ b ∷ c ∷ []) i ≡ 1 → (but ≢ Some i) → true_at q (slice_index_or (x ∷ y ∷ z ∷ []) i (pos 0)) ≡ true
    each zero h t n = f t n
    each (suc zero) h t n = g t n
    each (suc (suc zero)) h t n = k t n
    each (suc (suc (suc i))) h t n = absurd (omega arith)

no_some : (i : ℕ) → None ≡ Some i → ⊥
no_some i e = both_ways false refl (ap is_some e)

other : (i j : ℕ) → (i ≡ j → ⊥) → Some i ≡ Some j → ⊥
other i j n e = n (ap or_zero e)

-- of two assumptions each alone is included by an admitted assignment, and both are by none: both are the core
module _ (m : Meaning) (l : Ledger) (x y : ℤ) (p q : List ℕ) (mp : Admitted m l p) (mq : Admitted m l q) (px : true_at p x ≡ true) (qy : true_at q y ≡ true) (none : (r : List ℕ) → Admitted m l r → true_at r x ≡ true → true_at r y ≡ true → ⊥) (t0 t1 : ℕ) where
  no_wish_two : (r : List ℕ) → Wished m l (x ∷ y ∷ []) r → ⊥
  no_wish_two r w = none r w.admitted (w.includes.each 0 (omega arith)) (w.includes.each 1 (omega arith))

  bits_two : (i : ℕ) → i < 2 → slice_index (1 ∷ 1 ∷ []) i < 2
  bits_two zero h = omega arith
  bits_two (suc zero) h = omega arith
  bits_two (suc (suc i)) h = absurd (omega arith)

  stays_two : (i : ℕ) → 2 ≤ i → slice_index (1 ∷ 1 ∷ []) i ≡ slice_index (t0 ∷ t1 ∷ []) i
  stays_two zero h = absurd (omega arith)
  stays_two (suc zero) h = absurd (omega arith)
  stays_two (suc (suc i)) h = refl

  needed_two : (i : ℕ) → i < 2 → slice_index (1 ∷ 1 ∷ []) i ≡ 1 → (r : List ℕ) × Admitted m l r × IncludesTicked r (x ∷ y ∷ []) (1 ∷ 1 ∷ []) (Some i)
  needed_two zero h e = (q, mq, ticked_two q x y 1 1 (Some 0) (λ _ n. absurd (n refl)) (λ _ _. qy))
  needed_two (suc zero) h e = (p, mp, ticked_two p x y 1 1 (Some 1) (λ _ _. px) (λ _ n. absurd (n refl)))
  needed_two (suc (suc i)) h e = absurd (omega arith)

  core_two : TicksCore m l (x ∷ y ∷ []) (t0 ∷ t1 ∷ []) (1 ∷ 1 ∷ [])
  core_two = record {
    bits = bits_two;
    stays = stays_two;
    long = refl;
    core = record { clash = λ r a w. none r a (w.each 0 (omega arith) refl (no_some 0)) (w.each 1 (omega arith) refl (no_some 1)); needed = needed_two };
  }

  one_two : (v : List ℕ) → TicksCore m l (x ∷ y ∷ []) (t0 ∷ t1 ∷ []) v → v ≡ 1 ∷ 1 ∷ []
  one_two [] c = let e = c.long in absurd (omega arith)
  one_two (a ∷ []) c = let e = c.long in absurd (omega arith)
  one_two (a ∷ b ∷ d ∷ v) c = let e = c.long in absurd (omega arith)
  one_two (a ∷ b ∷ []) c =
      let ea : a ≡ 1 = ⊎_elim (λ (z : a ≡ 0). absurd (c.core.clash q mq (ticked_two q x y a b None (λ o _. absurd (omega arith)) (λ _ _. qy)))) (λ (z : a ≡ 1). z) (bit a (c.bits 0 (omega arith))) in
      let eb : b ≡ 1 = ⊎_elim (λ (z : b ≡ 0). absurd (c.core.clash p mp (ticked_two p x y a b None (λ _ _. px) (λ o _. absurd (omega arith))))) (λ (z : b ≡ 1). z) (bit b (c.bits 1 (omega arith))) in
      ap (λ k. k ∷ b ∷ []) ea ∙ ap (λ k. 1 ∷ k ∷ []) eb

  pub clash_of_two : (b : List ℕ) → due m l (ask (x ∷ y ∷ []) b (t0 ∷ t1 ∷ [])) ≡ None → OnlyRight m l (ask (x ∷ y ∷ []) b (t0 ∷ t1 ∷ [])) (clash b (1 ∷ 1 ∷ []))
  clash_of_two b e = only_core m l (x ∷ y ∷ []) b (t0 ∷ t1 ∷ []) (1 ∷ 1 ∷ []) e no_wish_two core_two one_two

-- of three assumptions the last two are included together, and the first two, and the first and the last are not: those are
-- the core
module _ (m : Meaning) (l : Ledger) (x y z : ℤ) (p q : List ℕ) (mp : Admitted m l p) (mq : Admitted m l q) (py : true_at p y ≡ true) (pz : true_at p z ≡ true) (qx : true_at q x ≡ true) (qy : true_at q y ≡ true) (none : (r : List ℕ) → Admitted m l r → true_at r x ≡ true → true_at r z ≡ true → ⊥) (t0 t1 t2 : ℕ) where
  no_wish_three : (r : List ℕ) → Wished m l (x ∷ y ∷ z ∷ []) r → ⊥
  no_wish_three r w = none r w.admitted (w.includes.each 0 (omega arith)) (w.includes.each 2 (omega arith))

  bits_three : (i : ℕ) → i < 3 → slice_index (1 ∷ 0 ∷ 1 ∷ []) i < 2
  bits_three zero h = omega arith
  bits_three (suc zero) h = omega arith
  bits_three (suc (suc zero)) h = omega arith
  bits_three (suc (suc (suc i))) h = absurd (omega arith)

  stays_three : (i : ℕ) → 3 ≤ i → slice_index (1 ∷ 0 ∷ 1 ∷ []) i ≡ slice_index (t0 ∷ t1 ∷ t2 ∷ []) i
  stays_three zero h = absurd (omega arith)
  stays_three (suc zero) h = absurd (omega arith)
  stays_three (suc (suc zero)) h = absurd (omega arith)
  stays_three (suc (suc (suc i))) h = refl

  needed_three : (i : ℕ) → i < 3 → slice_index (1 ∷ 0 ∷ 1 ∷ []) i ≡ 1 → (r : List ℕ) × Admitted m l r × IncludesTicked r (x ∷ y ∷ z ∷ []) (1 ∷ 0 ∷ 1 ∷ []) (Some i)
  needed_three zero h e = (p, mp, ticked_three p x y z 1 0 1 (Some 0) (λ _ n. absurd (n refl)) (λ _ _. py) (λ _ _. pz))
  needed_three (suc zero) h e = absurd (omega arith)
  needed_three (suc (suc zero)) h e = (q, mq, ticked_three q x y z 1 0 1 (Some 2) (λ _ _. qx) (λ _ _. qy) (λ _ n. absurd (n refl)))
  needed_three (suc (suc (suc i))) h e = absurd (omega arith)

  core_three : TicksCore m l (x ∷ y ∷ z ∷ []) (t0 ∷ t1 ∷ t2 ∷ []) (1 ∷ 0 ∷ 1 ∷ [])
  core_three = record {
    bits = bits_three;
    stays = stays_three;
    long = refl;
    core = record { clash = λ r a w. none r a (w.each 0 (omega arith) refl (no_some 0)) (w.each 2 (omega arith) refl (no_some 2)); needed = needed_three };
  }

  one_three : (v : List ℕ) → TicksCore m l (x ∷ y ∷ z ∷ []) (t0 ∷ t1 ∷ t2 ∷ []) v → v ≡ 1 ∷ 0 ∷ 1 ∷ []
  one_three [] c = let e = c.long in absurd (omega arith)
  one_three (a ∷ []) c = let e = c.long in absurd (omega arith)
  one_three (a ∷ b ∷ []) c = let e = c.long in absurd (omega arith)
  one_three (a ∷ b ∷ d ∷ f ∷ v) c = let e = c.long in absurd (omega arith)
  one_three (a ∷ b ∷ d ∷ []) c =
      let ea : a ≡ 1 = ⊎_elim (λ (o : a ≡ 0). absurd (c.core.clash p mp (ticked_three p x y z a b d None (λ w _. absurd (omega arith)) (λ _ _. py) (λ _ _. pz)))) (λ (o : a ≡ 1). o) (bit a (c.bits 0 (omega arith))) in
      let ed : d ≡ 1 = ⊎_elim (λ (o : d ≡ 0). absurd (c.core.clash q mq (ticked_three q x y z a b d None (λ _ _. qx) (λ _ _. qy) (λ w _. absurd (omega arith))))) (λ (o : d ≡ 1). o) (bit d (c.bits 2 (omega arith))) in
      let eb : b ≡ 0 = ⊎_elim (λ (o : b ≡ 0). o) (λ (o : b ≡ 1).
      let r = c.core.needed 1 (omega arith) o in
      absurd (none r.0 r.1 (r.2.each 0 (omega arith) ea (other 1 0 (λ e. absurd (omega arith)))) (r.2.each 2 (omega arith) ed (other 1 2 (λ e. absurd (omega arith)))))) (bit b (c.bits 1 (omega arith))) in
      ap (λ k. k ∷ b ∷ d ∷ []) ea ∙ ap (λ k. 1 ∷ k ∷ d ∷ []) eb ∙ ap (λ k. 1 ∷ 0 ∷ k ∷ []) ed

  pub clash_of_three : (b : List ℕ) → due m l (ask (x ∷ y ∷ z ∷ []) b (t0 ∷ t1 ∷ t2 ∷ [])) ≡ None → OnlyRight m l (ask (x ∷ y ∷ z ∷ []) b (t0 ∷ t1 ∷ t2 ∷ [])) (clash b (1 ∷ 0 ∷ 1 ∷ []))
  clash_of_three b e = only_core m l (x ∷ y ∷ z ∷ []) b (t0 ∷ t1 ∷ t2 ∷ []) (1 ∷ 0 ∷ 1 ∷ []) e no_wish_three core_three one_three

-- Ticked assumptions that clash, with one after the other left out. Assumes nothing.
use Rattle.std.proofs.Common.{◌≡◌, ℕ, ◌+◌, ◌<◌, ◌≤◌, Bool, true, eqb, List, length, get_or, set, ℤ, pos, Some, None, Option, sym, refl, ap, ◌∙◌, subst, inl, inr, ⊎_elim, arith, length-set, get_or-set_other, get_or-set_same, ◌-◌, ◌++◌, drop, replicate}
use Rattle.std.proofs.lemmas.Bool.{cases_eq, eq-eqb, eqb-true}
use Rattle.std.proofs.lemmas.List.{get_or_append_left, get_or-append_right, get_or-drop, get_or-replicate, length-replicate}
use Rattle.assignments.specs.Assignments.{Complete}
use Rattle.search.specs.Completions.{Allowed}
use Rattle.ledgers.specs.Admitted.{IncludesTicked}
use Rattle.seeking.specs.Choosing.{chosen, IncludingChosen, Names, Clashing, Unticked, KeepsNamed, Narrowed, Clashed}
use Rattle.seeking.specs.Including.{Core}

abbrev IsSome : Option ℕ → Type 0
IsSome None = ⊥
IsSome (Some i) = Unit {0}

none_some : (i : ℕ) → None ≡ Some i → ⊥
none_some i e = subst IsSome (sym e) tt

-- the first m ticks are filled with 1
module _ (m : ℕ) (f t : List ℕ) (e : f ≡ replicate m 1) where
  long : length f ≡ m
  long = ap length e ∙ length-replicate m 1

  pub first_ticked : (j : ℕ) → j < m → get_or (f ++ drop m t) j 0 ≡ 1
  first_ticked j h = get_or_append_left f (drop m t) 0 j (omega (arith, long)) ∙ ap (λ x. get_or x j 0) e ∙ get_or-replicate m j 1 0 h

  pub past_first : (j : ℕ) → m ≤ j → get_or (f ++ drop m t) j 0 ≡ get_or t j 0
  past_first j h = let same : m + (j - m) ≡ j = omega arith in
      get_or-append_right f (drop m t) m j 0 long h ∙ get_or-drop m t (j - m) 0 ∙ ap (λ k. get_or t k 0) same

-- a tick that is 1 or 0 stays so where some are taken away, and what is still ticked was ticked
module _ (m : ℕ) (t u : List ℕ) (x : Unticked m t u) where
  pub still_bit : (j : ℕ) → get_or t j 0 < 2 → get_or u j 0 < 2
  still_bit j b = ⊎_elim (λ (e : get_or u j 0 ≡ get_or t j 0). omega arith) (λ e. omega (arith, e.1)) (x.only j)

  pub was_ticked : (j : ℕ) → get_or u j 0 ≡ 1 → get_or t j 0 ≡ 1
  was_ticked j one = ⊎_elim (λ (e : get_or u j 0 ≡ get_or t j 0). sym e ∙ one) (λ e. absurd (omega (arith, e.1))) (x.only j)

  pub past_stays : (j : ℕ) → m ≤ j → get_or u j 0 ≡ get_or t j 0
  past_stays j h = ⊎_elim (λ (e : get_or u j 0 ≡ get_or t j 0). e) (λ e. absurd (omega (arith, e.0))) (x.only j)

-- nothing has lost its tick yet; one more does, which the reason does not name
pub keeps_none : (a : List ℤ) (reason t : List ℕ) → KeepsNamed a reason t t
keeps_none a reason t = record { fewer = record { only = λ i. inl refl }; named = λ i h e. refl }

pub keeps_less : (a : List ℤ) (reason t u : List ℕ) (i : ℕ) → KeepsNamed a reason t u → i < length a → i < length u → (Names reason (get_or a i (pos 0)) → ⊥) → KeepsNamed a reason t (set u i 0)
keeps_less a reason t u i k within inside off = record {
  fewer = record {
    only = λ j. ⊎_elim
        (λ (e : j ≡ i). inr (subst (λ x. x < length a) (sym e) within, rw e (get_or-set_same u i 0 0 inside)))
        (λ (ne : j ≡ i → ⊥). let o = get_or-set_other u i j 0 0 ne in ⊎_elim (λ e. inl (o ∙ e)) (λ e. inr (e.0, o ∙ e.1)) (k.fewer.only j))
        (cases_eq j i);
  };
  named = λ j h x. get_or-set_other u i j 0 0 (λ e. off (subst (λ y. Names reason (get_or a y (pos 0))) e x)) ∙ k.named j h x;
}

module _ (P : List ℕ → Type 0) (n : ℕ) (a : List ℤ) where
  -- what clashes by those that the reason names clashes by any ticks that have them
  pub clash_named : (only : Option (List ℕ)) (reason u : List ℕ) → Clashing P n a only reason → ((j : ℕ) → j < length a → chosen only j ≡ true → Names reason (get_or a j (pos 0)) → get_or u j 0 ≡ 1) → (r : List ℕ) → IncludingChosen P n a (Some u) r → ⊥
  clash_named only reason u c has r x = c.none r x.complete x.has (λ j h pick named. x.includes.each j h (eq-eqb _ _ (has j h pick named)))

  module _ (before t : List ℕ) (all : (j : ℕ) → j < length a → get_or t j 0 ≡ 1) (past : (j : ℕ) → length a ≤ j → get_or t j 0 ≡ get_or before j 0) where
    -- all were ticked, and those that the reason does not name lost their tick
    pub clashed_first : (only : Option (List ℕ)) (u reason : List ℕ) → KeepsNamed a reason t u → Clashing P n a only reason → Clashed P n a u
    clashed_first only u reason keeps c = record {
      bits = λ j h. still_bit (length a) t u keeps.fewer j (let e = all j h in omega arith);
      none = clash_named only reason u c (λ j h _ named. keeps.named j h named ∙ all j h);
    }

    -- past the assumptions the ticks are as they were before all were ticked
    pub core_before : (u v reason : List ℕ) → KeepsNamed a reason t u → Core P n a u v → Core P n a before v
    core_before u v reason keeps c = record {
      bits = c.bits;
      stays = λ j h. c.stays j h ∙ past_stays (length a) t u keeps.fewer j h ∙ past j h;
      clash = c.clash;
      needed = c.needed;
    }

  -- those before i are left out or needed
  pub record Shrunk (t₀ t : List ℕ) (i : ℕ) : Type 0 where
    pub clashed : Clashed P n a t
    pub stays : (j : ℕ) → length a ≤ j → get_or t j 0 ≡ get_or t₀ j 0
    pub needed : (j : ℕ) → j < i → get_or t j 0 ≡ 1 → (q : List ℕ) × Complete n q × P q × IncludesTicked q a t (Some j)

  pub shrunk_start : (t : List ℕ) → Clashed P n a t → Shrunk t t 0
  shrunk_start t c = record { clashed = c; stays = λ j h. refl; needed = λ j h. absurd (omega arith) }

  pub core : (t₀ t : List ℕ) (i : ℕ) → length a ≤ i → Shrunk t₀ t i → Core P n a t₀ t
  core t₀ t i end s = record {
    bits = s.clashed.bits;
    stays = s.stays;
    clash = λ q f has c. s.clashed.none q (record { complete = f; has = has; includes = record { each = λ j h k. c.each j h (eqb-true _ _ k) (none_some j) } });
    needed = λ j h e. s.needed j (omega arith) e;
  }

  module _ (t₀ t : List ℕ) (i : ℕ) (s : Shrunk t₀ t i) where
    -- i is not ticked
    pub shrunk_skip : (get_or t i 0 ≡ 1 → ⊥) → Shrunk t₀ t (i + 1)
    shrunk_skip off = record {
      clashed = s.clashed;
      stays = s.stays;
      needed = λ j w e. s.needed j (let ne : j ≡ i → ⊥ = λ d. off (subst (λ x. get_or t x 0 ≡ 1) d e) in omega arith) e;
    }

    module _ (within : i < length a) (inside : i < length t) (on : get_or t i 0 ≡ 1) where
      fewer : (j : ℕ) → (j ≡ i → ⊥) → get_or (set t i 0) j 0 ≡ get_or t j 0
      fewer j ne = get_or-set_other t i j 0 0 ne

      off : (j : ℕ) → get_or (set t i 0) j 0 ≡ 1 → j ≡ i → ⊥
      off j u e = let z : get_or (set t i 0) j 0 ≡ 0 = rw e (get_or-set_same t i 0 0 inside) in omega arith

      -- without i the others still clash, and perhaps some of them lost their tick too
      pub shrunk_left : (u : List ℕ) → Unticked (length a) (set t i 0) u → ((r : List ℕ) → IncludingChosen P n a (Some u) r → ⊥) → Shrunk t₀ u (i + 1)
      shrunk_left u x none = record {
        clashed = record { bits = λ j h. still_bit (length a) (set t i 0) u x j (bit j h); none = none };
        stays = λ j h. past_stays (length a) (set t i 0) u x j h ∙ fewer j (λ e. omega arith) ∙ s.stays j h;
        needed = λ j w e.
            let y = s.needed j (let ne : j ≡ i → ⊥ = off j (was j e) in omega arith) (before j e) in
            (y.0, y.1, y.2, record { each = λ k h v away. y.3.each k h (before k v) away });
      }
        where
          bit : (j : ℕ) → j < length a → get_or (set t i 0) j 0 < 2
          bit j h = ⊎_elim (λ (e : j ≡ i). let z : get_or (set t i 0) j 0 ≡ 0 = rw e (get_or-set_same t i 0 0 inside) in omega arith) (λ (e : j ≡ i → ⊥). let y = fewer j e in let b = s.clashed.bits j h in omega arith) (cases_eq j i)

          was : (j : ℕ) → get_or u j 0 ≡ 1 → get_or (set t i 0) j 0 ≡ 1
          was j e = was_ticked (length a) (set t i 0) u x j e

          before : (j : ℕ) → get_or u j 0 ≡ 1 → get_or t j 0 ≡ 1
          before j e = sym (fewer j (off j (was j e))) ∙ was j e

      -- without i something includes the others
      pub shrunk_kept : (q u : List ℕ) → IncludingChosen P n a (Some (set t i 0)) q → u ≡ set t i 0 → Shrunk t₀ (set u i 1) (i + 1)
      shrunk_kept q u c e₀ = record {
        clashed = record {
          bits = λ j h. let e = same j in let b = s.clashed.bits j h in omega arith;
          none = λ r x. s.clashed.none r (record { complete = x.complete; has = x.has; includes = record { each = λ j h k. x.includes.each j h (ap (λ v. eqb v 1) (same j) ∙ k) } });
        };
        stays = λ j h. same j ∙ s.stays j h;
        needed = λ j w e. ⊎_elim
            (λ (d : j ≡ i). (q, c.complete, c.has, record { each = λ k h v away. c.includes.each k h (eq-eqb _ _ (fewer k (λ (m : k ≡ i). away (ap Some (d ∙ sym m))) ∙ sym (same k) ∙ v)) }))
            (λ (d : j ≡ i → ⊥). let x = s.needed j (omega arith) (sym (same j) ∙ e) in
            (x.0, x.1, x.2, record { each = λ k h v away. x.3.each k h (sym (same k) ∙ v) away }))
            (cases_eq j i);
      }
        where
          same : (j : ℕ) → get_or (set u i 1) j 0 ≡ get_or t j 0
          same j = ap (λ y. get_or (set y i 1) j 0) e₀ ∙ ⊎_elim
              (λ (e : j ≡ i). rw e (get_or-set_same (set t i 0) i 1 0 (subst (λ m. i < m) (sym (length-set t i 0)) inside) ∙ sym on))
              (λ (e : j ≡ i → ⊥). get_or-set_other (set t i 0) i j 1 0 e ∙ fewer j e)
              (cases_eq j i)

-- the same at an equal meaning and length
pub narrowed_at : (cs : List (List ℤ)) (s s' : List ℕ → Bool) (n n' : ℕ) (a : List ℤ) (t u : List ℕ) (b : Bool) → s ≡ s' → n ≡ n' → Narrowed (Allowed cs s) n a t u b → Narrowed (Allowed cs s') n' a t u b
narrowed_at cs s s' n n' a t u b x y h = subst (λ v. Narrowed (Allowed cs v) n' a t u b) x (subst (λ m. Narrowed (Allowed cs s) m a t u b) y h)

pub core_at : {cs : List (List ℤ)} {s s' : List ℕ → Bool} {n n' : ℕ} {a : List ℤ} {t u : List ℕ} → s ≡ s' → n ≡ n' → (Clashed (Allowed cs s) n a t → Core (Allowed cs s) n a t u) → Clashed (Allowed cs s') n' a t → Core (Allowed cs s') n' a t u
core_at {cs} {s} {s'} {n} {n'} {a} {t} {u} x y h =
    let F : (List ℕ → Bool) → ℕ → Type 0 = λ v m. Clashed (Allowed cs v) m a t → Core (Allowed cs v) m a t u in
    subst (λ v. F v n') x (subst (F s) y h)

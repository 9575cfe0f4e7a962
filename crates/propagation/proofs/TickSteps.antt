-- Ticks that are added one by one. Assumes nothing.
use Rattle.std.proofs.Common.{◌≡◌, ℕ, ◌+◌, ◌<◌, ◌≤◌, ◌⊎◌, List, length, get_or, set, ℤ, pos, sym, refl, ap, ◌∙◌, subst, inl, inr, ⊎_elim, arith, get_or-set_other, get_or-set_same}
use Rattle.std.proofs.lemmas.Bool.{cases_eq}
use Rattle.assignments.specs.Assignments.{at}
use Rattle.propagation.specs.Literals.{place}
use Rattle.assignments.proofs.ByteLaws.{at_within}
use Rattle.propagation.specs.Ticking.{Adds, Named, Inside}
use Rattle.propagation.proofs.LiteralLaws.{Real}

pub adds_none : (N : ℕ → Type 0) (t : List ℕ) → ((j : ℕ) → N j → ⊥) → Adds N t t
adds_none N t never = record { grows = λ i e. e; all = λ i h. absurd (never i h); only = λ i. inl refl }

module _ (N N' : ℕ → Type 0) (t u : List ℕ) (more : (j : ℕ) → N j → N' j) where
  pub adds_same : ((j : ℕ) → N' j → N j) → Adds N t u → Adds N' t u
  adds_same back a = record { grows = a.grows; all = λ j h. a.all j (back j h); only = λ j. ⊎_elim (λ e. inl e) (λ e. inr (e.0, more j e.1)) (a.only j) }

  pub adds_one : (i : ℕ) → i < length u → N' i → ((j : ℕ) → N' j → (j ≡ i) ⊎ N j) → Adds N t u → Adds N' t (set u i 1)
  adds_one i h here back a = record {
    grows = λ j e. still j (a.grows j e);
    all = λ j n. ⊎_elim (λ (s : j ≡ i). rw s (get_or-set_same u i 1 0 h)) (λ m. still j (a.all j m)) (back j n);
    only = λ j. ⊎_elim
        (λ (s : j ≡ i). inr (rw s (get_or-set_same u i 1 0 h), subst N' (sym s) here))
        (λ (s : j ≡ i → ⊥). ⊎_elim (λ e. inl (get_or-set_other u i j 1 0 s ∙ e)) (λ e. inr (get_or-set_other u i j 1 0 s ∙ e.0, more j e.1)) (a.only j))
        (cases_eq j i);
  }
    where
      still : (j : ℕ) → get_or u j 0 ≡ 1 → get_or (set u i 1) j 0 ≡ 1
      still j e = ⊎_elim (λ (s : j ≡ i). rw s (get_or-set_same u i 1 0 h)) (λ (s : j ≡ i → ⊥). get_or-set_other u i j 1 0 s ∙ e) (cases_eq j i)

-- where there is a tick for each byte, none is left out
pub named_whole : (p : List ℕ) (c : List ℤ) (j : ℕ) (t u : List ℕ) → length p ≤ length t → Adds (Inside (length t) (Named p c j)) t u → Adds (Named p c j) t u
named_whole p c j t u h a = adds_same (Inside (length t) (Named p c j)) (Named p c j) t u (λ i m. m.has)
    (λ i m. record { below = let w = at_within p i m.known in omega arith; has = m }) a

-- a turn over the literals of c: literal j names a known atom that has a tick, or it does not
module _ (n : ℕ) (p : List ℕ) (c : List ℤ) (j : ℕ) where
  abbrev To : ℕ → ℕ → Type 0
  To k = Inside n (Named p c k)

  further : (i : ℕ) → To j i → To (j + 1) i
  further i x = let m = x.has in let w = m.within in record { below = x.below; has = record { known = m.known; spot = m.spot; within = omega arith; real = m.real; here = m.here } }

  earlier : (i : ℕ) (x : To (j + 1) i) → (x.has.spot ≡ j → ⊥) → To j i
  earlier i x ne = let m = x.has in let w = m.within in record { below = x.below; has = record { known = m.known; spot = m.spot; within = omega arith; real = m.real; here = m.here } }

  pub named_skip : (t u : List ℕ) → (Real (get_or c j (pos 0)) → at p (place (get_or c j (pos 0))) < 2 → place (get_or c j (pos 0)) < n → ⊥) → Adds (To j) t u → Adds (To (j + 1)) t u
  named_skip t u off a = adds_same (To j) (To (j + 1)) t u further
      (λ i x. let m = x.has in earlier i x (λ (e : m.spot ≡ j).
      let s : i ≡ place (get_or c j (pos 0)) = sym (sym (ap (λ s. place (get_or c s (pos 0))) e) ∙ m.here) in off
      (subst (λ s. Real (get_or c s (pos 0))) e m.real)
      (subst (λ x. at p x < 2) s m.known)
      (subst (λ y. y < n) s x.below)))
      a

  pub named_tick : (t u : List ℕ) (i : ℕ) → i ≡ place (get_or c j (pos 0)) → Real (get_or c j (pos 0)) → at p i < 2 → i < n → i < length u → Adds (To j) t u → Adds (To (j + 1)) t (set u i 1)
  named_tick t u i e real k b h a = adds_one (To j) (To (j + 1)) t u further i h
      (record { below = b; has = record { known = k; spot = j; within = omega arith; real = real; here = sym e } })
      (λ y x. let m = x.has in ⊎_elim
      (λ (s : m.spot ≡ j). inl (sym m.here ∙ ap (λ y. place (get_or c y (pos 0))) s ∙ sym e))
      (λ (s : m.spot ≡ j → ⊥). inr (earlier y x s))
      (cases_eq m.spot j))
      a

-- The chosen literals of a list, taken in one after the other. Assumes nothing.
use Rattle.std.proofs.Common.{◌≡◌, ℕ, ◌+◌, ◌<◌, ◌≤◌, Bool, true, false, eqb, List, length, get_or, set, replicate, ℤ, pos, Option, None, sym, refl, ap, ◌∙◌, subst, ⊎_elim, arith, length-set}
use Rattle.std.proofs.lemmas.Bool.{cases_eq, cases_lt, eq-eqb, eqb-true}
use Rattle.std.proofs.lemmas.List.{get_or-replicate, get_or_default, get_or_past, length-replicate}
use Rattle.assignments.specs.Assignments.{at, Part, Complete}
use Rattle.assignments.specs.Literals.{true_at}
use Rattle.assignments.proofs.ByteLaws.{at_set_same, at_set_other}
use Rattle.propagation.specs.Literals.{place, wanted}
use Rattle.propagation.proofs.LiteralLaws.{Placed, true_is, wanted_bit}
use Rattle.ledgers.specs.Admitted.{LeastOf}
use Rattle.seeking.specs.Seeking.{Completed, Fits}
use Rattle.seeking.specs.Choosing.{chosen, Chosen, IncludingChosen, Source, Stands, Clashing, Included}
use Rattle.seeking.specs.Including.{Including}

-- q includes those chosen of the first i
pub record ChosenTo (q : List ℕ) (a : List ℤ) (only : Option (List ℕ)) (i : ℕ) : Type 0 where
  pub each : (j : ℕ) → j < i → chosen only j ≡ true → true_at q (get_or a j (pos 0)) ≡ true

-- w has exactly the values that they ask
pub record StandsTo (a : List ℤ) (only : Option (List ℕ)) (n : ℕ) (w : List ℕ) (i : ℕ) : Type 0 where
  pub long : length w ≡ n
  pub enough : (q : List ℕ) → Part w q → ChosenTo q a only i
  pub asked : (q : List ℕ) → Complete n q → ChosenTo q a only i → Part w q
  pub source : (k : ℕ) → at w k < 2 → Source a only w k

module _ (a : List ℤ) (only : Option (List ℕ)) (n : ℕ) where
  module _ (w : List ℕ) (i : ℕ) (s : StandsTo a only n w i) where
    before : (q : List ℕ) → ChosenTo q a only (i + 1) → ChosenTo q a only i
    before q c = record { each = λ j h k. c.each j (omega arith) k }

    after : (q : List ℕ) → ChosenTo q a only i → (chosen only i ≡ true → true_at q (get_or a i (pos 0)) ≡ true) → ChosenTo q a only (i + 1)
    after q c here = record {
      each = λ j h k. ⊎_elim
          (λ (e : j ≡ i). subst (λ x. true_at q (get_or a x (pos 0)) ≡ true) (sym e) (here (subst (λ x. chosen only x ≡ true) e k)))
          (λ (e : j ≡ i → ⊥). c.each j (omega arith) k)
          (cases_eq j i);
    }

    -- k and v are the literal's place and value
    module _ {m : ℕ} (k v : ℕ) (at_k : Placed m (get_or a i (pos 0)) k) (va : v ≡ wanted (get_or a i (pos 0))) where
      told : (q : List ℕ) → true_at q (get_or a i (pos 0)) ≡ eqb (at q k) v
      told q = true_is q (get_or a i (pos 0)) at_k.real ∙ ap (λ x. eqb (at q x) (wanted (get_or a i (pos 0)))) (sym at_k.here) ∙ ap (eqb (at q k)) (sym va)

      has : (q : List ℕ) → true_at q (get_or a i (pos 0)) ≡ true → at q k ≡ v
      has q e = eqb-true _ _ (sym (told q) ∙ e)

      bit : v < 2
      bit = subst (λ x. x < 2) (sym va) (wanted_bit (get_or a i (pos 0)))

      pub stands_same : at w k ≡ v → StandsTo a only n w (i + 1)
      stands_same e = record {
        long = s.long;
        enough = λ q p. after q (s.enough q p) (λ pick. told q ∙ eq-eqb _ _ (p.keeps k (let b = bit in omega arith) ∙ e));
        asked = λ q f c. s.asked q f (before q c);
        source = s.source;
      }

      pub none_differs : at w k < 2 → (at w k ≡ v → ⊥) → i < length a → chosen only i ≡ true → (q : List ℕ) → Complete n q → Chosen q a only → ⊥
      none_differs known ne h pick q f c =
          let p = s.asked q f (record { each = λ j w k. c.each j (omega arith) k }) in
          ne (sym (p.keeps k known) ∙ has q (c.each i h pick))

      pub stands_set : (at w k < 2 → ⊥) → k < length w → i < length a → chosen only i ≡ true → StandsTo a only n (set w k v) (i + 1)
      stands_set unknown within inside pick = record {
        long = length-set w k v ∙ s.long;
        enough = λ q p. after q (s.enough q (narrower q p)) (λ pick. told q ∙ eq-eqb _ _ (here q p));
        asked = λ q f c. wider q (s.asked q f (before q c)) (has q (c.each i (omega arith) pick));
        source = λ j known. ⊎_elim
            (λ (e : j ≡ k). subst (Source a only (set w k v)) (sym e) (record { spot = i; within = inside; pick = pick; here = sym at_k.here; tells = λ q x. has q x ∙ sym now_v }))
            (λ (ne : j ≡ k → ⊥).
            let o = at_set_other w k j v ne in
            let x = s.source j (omega arith) in
            record { spot = x.spot; within = x.within; pick = x.pick; here = x.here; tells = λ q y. x.tells q y ∙ sym o })
            (cases_eq j k);
      }
        where
          now_v : at (set w k v) k ≡ v
          now_v = let b = bit in let e = at_set_same w k v within in omega arith

          here : (q : List ℕ) → Part (set w k v) q → at q k ≡ v
          here q p = p.keeps k (let b = bit in let e = now_v in omega arith) ∙ now_v

          narrower : (q : List ℕ) → Part (set w k v) q → Part w q
          narrower q p = record {
            keeps = λ j known. ⊎_elim
                (λ (e : j ≡ k). absurd (unknown (subst (λ x. at w x < 2) e known)))
                (λ (ne : j ≡ k → ⊥). let o = at_set_other w k j v ne in p.keeps j (omega arith) ∙ o)
                (cases_eq j k);
          }

          wider : (q : List ℕ) → Part w q → at q k ≡ v → Part (set w k v) q
          wider q p e = record {
            keeps = λ j known. ⊎_elim
                (λ (s : j ≡ k). rw s (e ∙ sym now_v))
                (λ (ne : j ≡ k → ⊥). let o = at_set_other w k j v ne in p.keeps j (omega arith) ∙ sym o)
                (cases_eq j k);
          }

-- a place that is ticked lies within the reason
one_any : (t : List ℕ) (i : ℕ) → get_or t i 0 ≡ 1 → get_or t i 1 ≡ 1
one_any t i e = ⊎_elim (λ (h : i < length t). get_or_default t i 1 0 h ∙ e) (λ (h : length t ≤ i). get_or_past t i 1 h) (cases_lt i (length t))

-- what completes w includes the chosen literals, and the other way round; what excludes it excludes those that it names
pub included : (P : List ℕ → Type 0) (n : ℕ) (a : List ℤ) (only : Option (List ℕ)) (w q reason : List ℕ) (r : Bool) → Stands a only n w → Completed P w q reason r → Included P n a only q reason r
included P n a only w q reason true s l =
    let at_n : LeastOf (Fits P n w) q = subst (λ m. LeastOf (Fits P m w) q) s.long l in
    record {
      one = record { complete = at_n.one.complete; has = at_n.one.has; includes = s.enough q at_n.one.part };
      least = λ r c. at_n.least r (record { complete = c.complete; part = s.asked r c.complete c.includes; has = c.has });
    }
included P n a only w q reason false s x = record {
  none = λ r full has named. x.0.none r (record {
    long = full.long ∙ sym s.long;
    filled = λ i _ h. full.known i (omega (arith, s.long));
    shut = λ i h. absurd (omega arith);
    same = λ i h one.
        let o = s.source i (x.0.known i h one) in
        o.tells r (named o.spot o.within o.pick (subst (λ k. get_or reason k 1 ≡ 1) (sym o.here) (one_any reason i one)));
  }) has;
}

-- the chosen literals clash by themselves: every one of them is named
pub clashing_all : (P : List ℕ → Type 0) (n : ℕ) (a : List ℤ) (only : Option (List ℕ)) (m : ℕ) (reason : List ℕ) → reason ≡ replicate m 1 → ((q : List ℕ) → Complete n q → Chosen q a only → ⊥) → Clashing P n a only reason
clashing_all P n a only m reason e none = record {
  none = λ q full has named. none q full (record { each = λ i h pick. named i h pick (everywhere (place (get_or a i (pos 0)))) });
}
  where
    everywhere : (i : ℕ) → get_or reason i 1 ≡ 1
    everywhere i = rw e (⊎_elim (λ (h : i < m). get_or-replicate m i 1 1 h) (λ (h : m ≤ i). get_or_past (replicate m 1) i 1 (omega (arith, length-replicate {A = ℕ} m 1))) (cases_lt i m))

pub all_included : (P : List ℕ → Type 0) (n : ℕ) (a : List ℤ) (q : List ℕ) → LeastOf (IncludingChosen P n a None) q → LeastOf (Including P n a) q
all_included P n a q l = record {
  one = record { complete = l.one.complete; has = l.one.has; includes = record { each = λ i h. l.one.includes.each i h refl } };
  least = λ r c. l.least r (record { complete = c.complete; has = c.has; includes = record { each = λ i h _. c.includes.each i h } });
}

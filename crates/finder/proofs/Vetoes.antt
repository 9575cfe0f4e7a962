-- The vetoes of a problem mean what its bodies mean. Assumes nothing.
use Rattle.std.proofs.Common.{◌≡◌, ℕ, ◌+◌, List, [], ◌∷◌, ◌++◌, length, ℤ, true, Result, Err, Option, Some, None, is_none, sym, ap, ap₂, ◌∙◌, subst, append_assoc, append-nil}
use Rattle.std.specs.Result.{result_err}
use Rattle.std.proofs.lemmas.Bool.{and_parts}
use Rattle.refusals.specs.declared.Refusal.{Refusal}
use Rattle.clauses.specs.Adding.{refusal_of_adding}
use Rattle.vetoes.specs.Meaning.{Meaning, either}
use Rattle.nested.specs.Nests.{Plan, nest_means}
use Rattle.nested.specs.Shaping.{refusal_of_shaping, refusal_of_clause, with_clause}
use Rattle.nestformat.specs.Items.{Body}
use Rattle.finder.specs.Meanings.{plan_in}
use Rattle.finder.specs.Fitting.{fit, with_all}
use Rattle.finder.proofs.Fits.{Described}
use Rattle.finder.proofs.Holding.{none_is}

-- some of the clauses are added, and the others can be
pub record AddedSoFar (m : List ℕ) (k : ℕ) (plan : Option Plan) (all rest : List (List ℤ)) : Type 0 where
  pub taken : List (List ℤ)
  pub is : plan ≡ Some (with_all m k taken)
  pub joined : taken ++ rest ≡ all
  pub others : fit (length m + k) taken rest ≡ true

pub added_first : (m : List ℕ) (k : ℕ) (plan : Option Plan) (all rest : List (List ℤ)) → rest ≡ all → plan ≡ Some (with_all m k []) → fit (length m + k) [] all ≡ true → AddedSoFar m k plan all rest
added_first m k plan all rest q s f = record { taken = []; is = s; joined = q; others = subst (λ x. fit (length m + k) [] x ≡ true) (sym q) f }

-- the next one is not refused
pub added_right : (m : List ℕ) (k : ℕ) (plan : Option Plan) (all rest now : List (List ℤ)) (d : List ℤ) → rest ≡ d ∷ now → AddedSoFar m k plan all rest → refusal_of_clause plan d ≡ None
added_right m k plan all rest now d q h =
    let f : fit (length m + k) h.taken (d ∷ now) ≡ true = subst (λ x. fit (length m + k) h.taken x ≡ true) q h.others in
    let p = and_parts (is_none (refusal_of_adding (length m + k) h.taken d)) (fit (length m + k) (h.taken ++ d ∷ []) now) f in
    ap (λ x. refusal_of_clause x d) h.is ∙ none_is (refusal_of_adding (length m + k) h.taken d) p.0

pub added_more : (m : List ℕ) (k : ℕ) (plan after : Option Plan) (all rest now : List (List ℤ)) (d : List ℤ) → rest ≡ d ∷ now → after ≡ with_clause plan d → AddedSoFar m k plan all rest → AddedSoFar m k after all now
added_more m k plan after all rest now d q e h =
    let f : fit (length m + k) h.taken (d ∷ now) ≡ true = subst (λ x. fit (length m + k) h.taken x ≡ true) q h.others in
    let p = and_parts (is_none (refusal_of_adding (length m + k) h.taken d)) (fit (length m + k) (h.taken ++ d ∷ []) now) f in
    record {
      taken = h.taken ++ d ∷ [];
      is = e ∙ ap (λ x. with_clause x d) h.is;
      joined = append_assoc h.taken (d ∷ []) now ∙ ap (λ x. h.taken ++ x) (sym q) ∙ h.joined;
      others = p.1;
    }

pub added_all : (m : List ℕ) (k : ℕ) (plan : Option Plan) (all rest : List (List ℤ)) → rest ≡ [] → AddedSoFar m k plan all rest → plan ≡ Some (with_all m k all)
added_all m k plan all rest q h = h.is ∙ ap (λ x. Some (with_all m k x)) (sym (append-nil h.taken) ∙ ap (λ x. h.taken ++ x) (sym q) ∙ h.joined)

-- an error that is none
pub no_error : {A : Type 0} (r : Result A Refusal) (e : Refusal) (o : Option Refusal) → r ≡ Err e → result_err r ≡ o → o ≡ None → ⊥
no_error r e o q h n = let s : Some e ≡ None = sym (ap result_err q) ∙ h ∙ n in absurd (cc)

-- a nest that is described is not refused
pub not_refused_over : (o : Option Body) (s r k : ℕ) (m xs : List ℕ) (cs : List (List ℤ)) → Described o r m k cs → s ≡ r → xs ≡ m → (refusal_of_shaping s xs k ≡ None) × (fit (length xs + k) [] cs ≡ true)
not_refused_over o s r k m xs cs d p q = (ap₂ (λ (n : ℕ) (z : List ℕ). refusal_of_shaping n z k) p q ∙ d.shape, ap (λ z. fit (length z + k) [] cs) q ∙ d.fits)

-- the nests mean what the file says

pub nest_is : (o : Option Body) (r k : ℕ) (m : List ℕ) (cs : List (List ℤ)) (plan : Option Plan) (b c : Meaning) → Described o r m k cs → plan ≡ Some (with_all m k cs) → b ≡ c → nest_means plan b ≡ nest_means (plan_in o) c
nest_is o r k m cs plan b c d p q = ap₂ nest_means (p ∙ sym d.plan) q

pub nest_missing : (o : Option Body) (plan : Option Plan) (b c : Meaning) → o ≡ None → plan ≡ None → nest_means plan b ≡ nest_means (plan_in o) c
nest_missing o plan b c q p = ap (λ x. nest_means x b) p ∙ sym (ap (λ x. nest_means (plan_in x) c) q)

pub either_is : (a b c d : Meaning) → a ≡ c → b ≡ d → either a b ≡ either c d
either_is a b c d p q = ap₂ either p q

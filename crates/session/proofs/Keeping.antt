-- The calls that hand nothing out, at a table that stands for a ledger. Assumes nothing.
use Rattle.std.proofs.Common.{◌≡◌, ℕ, zero, suc, ◌<◌, Bool, cond, List, [], ◌∷◌, ◌++◌, length, get_or, take, set, ℤ, is_ok, Some, None, Ok, Err, Option, Result, sym, refl, ap, ◌∙◌, subst, arith}
use Rattle.std.specs.Result.{result_err}
use Rattle.std.proofs.lemmas.Bool.{cond-true, lt-ltb}
use Rattle.refusals.specs.declared.Refusal.{Refusal}
use Rattle.clauses.specs.declared.stretch.Counts.{Counts}
use Rattle.clauses.specs.Books.{atoms_of, clauses_of}
use Rattle.clauses.specs.Adding.{is_front, literal_count, refusal_of_adding}
use Rattle.vetoes.specs.Meaning.{Meaning}
use Rattle.ledgers.specs.Ledger.{Ledger, Call, clause, open_scope, close_scope, Answer, before_first, accepted, refused, closed}
use Rattle.ledgers.specs.Right.{Right, RightBy, Answers, due, due_at, buffers, scope_limit, unless_none}
use Rattle.session.specs.declared.table.Place.TheVariants.{BeforeFirst}
use Rattle.session.specs.declared.table.SessionTable.{SessionTable}
use Rattle.session.specs.Standing.{no_counts, openings, Nested, place_of, position_of, Stored, Sized, Keeps, done}
use Rattle.session.proofs.Scopes.{nested_more, openings_open, nested_open}

module _ (m : Meaning) (l : Ledger) (c : Call) where
  pub right_refused : (e : Refusal) → due m l c ≡ Some e → Right m l c (refused e (buffers c))
  right_refused e d = subst (λ x. RightBy x m l c (refused e (buffers c))) (sym d) refl

  pub right_answers : (a : Answer) → due m l c ≡ None → Answers m l c a → Right m l c a
  right_answers a d x = subst (λ y. RightBy y m l c a) (sym d) x

-- a call on a session of the table t
pub keeps_of : {m : Meaning} {o : Option SessionTable} {t : SessionTable} {o' : Option SessionTable} {c : Call} {a : Answer} → o ≡ Some t → Keeps m (Some t) o' c a → Keeps m o o' c a
keeps_of {m} {o} {t} {o'} {c} {a} e k = subst (λ x. Keeps m x o' c a) (sym e) k

module _ (m : Meaning) (t t' : SessionTable) (at : atoms_of t'.book ≡ atoms_of t.book) where
  module _ (pl : t'.place ≡ t.place) where
    same_position : position_of t ≡ position_of t'
    same_position = cc

    stored_same : Stored (atoms_of t.book) (position_of t) → Stored (atoms_of t'.book) (position_of t')
    stored_same x = rw (sym same_position, at) x

    pub clause_keeps : {A : Type 0} (c : List ℤ) (r : Result A Refusal) → t'.scopes ≡ t.scopes → t'.opened ≡ t.opened → result_err r ≡ refusal_of_adding (atoms_of t.book) (clauses_of t.book) c → clauses_of t'.book ≡ cond (is_ok r) (clauses_of t.book ++ (c ∷ [])) (clauses_of t.book) → Keeps m (Some t) (Some t') (clause c) (done r [])
    clause_keeps c (Ok x) sc op e h = record {
      step = λ l s. (
        right_answers m l (clause c) accepted (ap (λ n. due_at n l (clause c)) s.size ∙ ap (λ y. refusal_of_adding (atoms_of t.book) y c) s.held ∙ sym e) refl,
        record {
          size = s.size ∙ ap Some (sym at);
          held = ap (λ y. y ++ (c ∷ [])) s.held ∙ sym h;
          scopes = rw (sc, op) s.scopes;
          nested = rw (h, sc, op) (nested_more (clauses_of t.book) c t.scopes t.opened s.nested);
          position = s.position ∙ same_position;
          stored = stored_same s.stored;
        },
      );
    }
    clause_keeps c (Err f) sc op e h = record {
      step = λ l s. (
        right_refused m l (clause c) f (ap (λ n. due_at n l (clause c)) s.size ∙ ap (λ y. refusal_of_adding (atoms_of t.book) y c) s.held ∙ sym e),
        record {
          size = s.size ∙ ap Some (sym at);
          held = s.held ∙ sym h;
          scopes = rw (sc, op) s.scopes;
          nested = rw (h, sc, op) s.nested;
          position = s.position ∙ same_position;
          stored = stored_same s.stored;
        },
      );
    }

    pub open_keeps : (x : Counts) → x.clauses ≡ length (clauses_of t.book) → x.literals ≡ literal_count (clauses_of t.book) → t.opened < length t.scopes → t.opened < scope_limit → clauses_of t'.book ≡ clauses_of t.book → t'.scopes ≡ set t.scopes t.opened x → t'.opened ≡ suc t.opened → Keeps m (Some t) (Some t') open_scope accepted
    open_keeps x e f room few h sc op = record {
      step = λ l s. (
        right_answers m l open_scope accepted (ap (λ n. due_at n l open_scope) s.size ∙ cond-true _ _ _ (lt-ltb (length l.scopes) scope_limit (counted l s))) refl,
        record {
          size = s.size ∙ ap Some (sym at);
          held = s.held ∙ sym h;
          scopes = rw (sc, op, s.held, s.scopes) (sym (openings_open t.scopes t.opened x (clauses_of t.book) room e));
          nested = rw (h, sc, op) (nested_open t.scopes t.opened x (clauses_of t.book) room e f s.nested);
          position = s.position ∙ same_position;
          stored = stored_same s.stored;
        },
      );
    }
      where
        many : (y : List Counts) (k : ℕ) → length (openings y k) ≡ k
        many y zero = refl
        many y (suc k) = ap suc (many y k)

        counted : (l : Ledger) → Sized t l → length l.scopes < scope_limit
        counted l s = let e = ap length s.scopes in let k = many t.scopes t.opened in omega arith

  pub close_keeps : (k : ℕ) → t.opened ≡ suc k → (b : Bool) → b ≡ is_front (clauses_of t.book) (get_or t.scopes k no_counts).clauses (get_or t.scopes k no_counts).literals → clauses_of t'.book ≡ cond b (take (get_or t.scopes k no_counts).clauses (clauses_of t.book)) (clauses_of t.book) → t'.scopes ≡ t.scopes → t'.opened ≡ k → t'.place ≡ BeforeFirst → Keeps m (Some t) (Some t') close_scope accepted
  close_keeps k o b v h sc op pl = record {
    step = λ l s.
        let n : Nested (clauses_of t.book) t.scopes (suc k) = subst (Nested (clauses_of t.book) t.scopes) o s.nested in
        let cut : clauses_of t'.book ≡ take (get_or t.scopes k no_counts).clauses (clauses_of t.book) = h ∙ cond-true b _ _ (v ∙ n.0) in
        let sl : l.scopes ≡ (get_or t.scopes k no_counts).clauses ∷ openings t.scopes k = s.scopes ∙ ap (openings t.scopes) o in
        let first : position_of t' ≡ before_first = ap (place_of (atoms_of t'.book)) pl in (
          right_answers m l close_scope accepted (ap (λ x. due_at x l close_scope) s.size ∙ ap unless_none sl) refl,
          subst (λ y. Sized t' (closed l y)) (sym sl) (record {
            size = s.size ∙ ap Some (sym at);
            held = ap (take (get_or t.scopes k no_counts).clauses) s.held ∙ sym cut;
            scopes = rw (sc, op) refl;
            nested = rw (cut, sc, op) n.1;
            position = sym first;
            stored = subst (Stored (atoms_of t'.book)) (sym first) tt;
          }),
        );
  }

-- A line more of a text. Assumes nothing.
use Rattle.std.proofs.Common.{◌≡◌, ℕ, suc, ◌+◌, ◌<◌, true, false, List, [], ◌∷◌, ◌++◌, length, Ok, Err, Result, refl, sym, ap, subst, ◌∙◌, arith, append_assoc}
use Rattle.std.proofs.lemmas.Bool.{cond-true, cond-false}
use Rattle.std.proofs.lemmas.List.{append-nil}
use Rattle.refusals.specs.declared.Fault.{Fault}
use Rattle.refusals.specs.declared.Refusal.TheVariants.{BadByte, BadEnd}
use Rattle.lexer.specs.Lines.{tokens, lead, clean}
use Rattle.nestformat.specs.declared.faults.LineFault.{LineFault}
use Rattle.nestformat.specs.Faults.{plain}
use Rattle.nestformat.specs.Items.{Item}
use Rattle.nestformat.specs.Due.{State, due, advance}
use Rattle.nestformat.specs.Reading.{judge, accept, skipped, fault_at, before, follow, finished, reading_from}
use Rattle.nestformat.proofs.Accepting.{at_the_end}
use Rattle.nestformat.proofs.Refusing.{ahead, ahead_err, unfinished}
use Rattle.nestfile.specs.declared.drafts.Draft.{Draft}
use Rattle.nestfile.specs.Drafts.{state_of, items_in, Sound, LineTaken, Answered}

-- the lines from the n-th on and what is due answer what the whole does
pub record Turn (s0 : State) (n0 : ℕ) (ls0 : List (List ℕ)) (i0 : List Item) (s : State) (n : ℕ) (ls : List (List ℕ)) (its : List Item) : Type 0 where
  pub so : List Item
  pub items_are : its ≡ i0 ++ so
  pub goes : reading_from s0 n0 ls0 ≡ ahead so (reading_from s n ls)

ahead_push : (so : List Item) (it : Item) (r : Result (List Item) Fault) → ahead so (before it r) ≡ ahead (so ++ it ∷ []) r
ahead_push [] it r = refl
ahead_push (x ∷ so) it r = ap (before x) (ahead_push so it r)

ahead_ok : (so : List Item) → ahead so (Ok []) ≡ Ok so
ahead_ok [] = refl
ahead_ok (x ∷ so) = ap (before x) (ahead_ok so)

pub begun : (s : State) (n : ℕ) (ls : List (List ℕ)) (its : List Item) → Turn s n ls its s n ls its
begun s n ls its = record { so = []; items_are = sym (append-nil its); goes = refl }

module _ {s0 : State} {n0 : ℕ} {ls0 : List (List ℕ)} {i0 : List Item} {s : State} {n : ℕ} {ls : List (List ℕ)} {its : List Item} (h : Turn s0 n0 ls0 i0 s n ls its) where
  pub passed : (l : List ℕ) (rest : List (List ℕ)) → ls ≡ l ∷ rest → skipped (lead (tokens l)) ≡ true → Turn s0 n0 ls0 i0 s (n + 1) rest its
  passed l rest e k =
      let m : suc n ≡ n + 1 = omega arith in
      record { so = h.so; items_are = h.items_are; goes = h.goes ∙ ap (λ r. ahead h.so (reading_from s n r)) e ∙ ap (ahead h.so) (cond-true _ _ _ k ∙ ap (λ j. reading_from s j rest) m) }

  at_counted : (l : List ℕ) (rest : List (List ℕ)) → ls ≡ l ∷ rest → skipped (lead (tokens l)) ≡ false → (q : Result Item LineFault) → accept s l ≡ q → reading_from s0 n0 ls0 ≡ ahead h.so (follow s n q (λ it. reading_from (advance s it) (suc n) rest))
  at_counted l rest e k q a = h.goes ∙ ap (λ r. ahead h.so (reading_from s n r)) e ∙ ap (ahead h.so) (cond-false _ _ _ k ∙ ap (λ x. follow s n x (λ it. reading_from (advance s it) (suc n) rest)) a)

  pub took : (l : List ℕ) (rest : List (List ℕ)) → ls ≡ l ∷ rest → skipped (lead (tokens l)) ≡ false → (it : Item) → accept s l ≡ Ok it → (t : State) (jts : List Item) → t ≡ advance s it → jts ≡ its ++ it ∷ [] → Turn s0 n0 ls0 i0 t (n + 1) rest jts
  took l rest e k it a t jts et ej =
      let m : suc n ≡ n + 1 = omega arith in
      record {
        so = h.so ++ it ∷ [];
        items_are = ej ∙ ap (λ x. x ++ it ∷ []) h.items_are ∙ append_assoc i0 h.so (it ∷ []);
        goes = at_counted l rest e k (Ok it) a ∙ ahead_push h.so it _ ∙ ap (λ j. ahead (h.so ++ it ∷ []) (reading_from (advance s it) j rest)) m ∙ ap (λ x. ahead (h.so ++ it ∷ []) (reading_from x (n + 1) rest)) (sym et);
      }

  pub failed : (T : Type 0) (l : List ℕ) (rest : List (List ℕ)) → ls ≡ l ∷ rest → skipped (lead (tokens l)) ≡ false → (r : LineFault) → accept s l ≡ Err r → (f : Fault) (jts : List Item) → f ≡ fault_at s n r → Answered (reading_from s0 n0 ls0) {T = T} (Err f) i0 jts
  failed T l rest e k r a f jts ef = subst (λ q. Answered q {T = T} (Err f) i0 jts) (sym (at_counted l rest e k (Err r) a ∙ ahead_err h.so (fault_at s n r))) ef

  pub lacking : (T : Type 0) → ls ≡ [] → finished s.todo ≡ false → (f : Fault) (jts : List Item) → f ≡ fault_at s n (plain BadEnd) → Answered (reading_from s0 n0 ls0) {T = T} (Err f) i0 jts
  lacking T e d f jts ef = subst (λ q. Answered q {T = T} (Err f) i0 jts) (sym (h.goes ∙ ap (λ r. ahead h.so (reading_from s n r)) e ∙ ap (ahead h.so) (unfinished s n s.todo d) ∙ ahead_err h.so _)) ef

  pub done : {T : Type 0} (x : T) → ls ≡ [] → finished s.todo ≡ true → Answered (reading_from s0 n0 ls0) (Ok x) i0 its
  done x e d = subst (λ q. Answered q (Ok x) i0 its) (sym (h.goes ∙ ap (λ r. ahead h.so (reading_from s n r)) e ∙ ap (ahead h.so) (at_the_end s n s.todo d) ∙ ahead_ok h.so)) h.items_are

pub at_place : {s0 : State} {n0 : ℕ} {ls0 : List (List ℕ)} {i0 : List Item} {s : State} {n m : ℕ} {ls ks : List (List ℕ)} {its : List Item} → Turn s0 n0 ls0 i0 s n ls its → m ≡ n → ks ≡ ls → Turn s0 n0 ls0 i0 s m ks its
at_place {s0} {n0} {ls0} {i0} {s} {n} {m} {ls} {ks} {its} h e k = subst (λ x. Turn s0 n0 ls0 i0 s x ks its) (sym e) (subst (λ x. Turn s0 n0 ls0 i0 s n x its) (sym k) h)

-- a clean line is judged by its tokens
pub judged_clean : (s : State) (l : List ℕ) → clean l ≡ true → accept s l ≡ judge (due s.todo) s true (tokens l)
judged_clean s l h = ap (λ b. judge (due s.todo) s b (tokens l)) h

pub judged_bad : (s : State) (l : List ℕ) → clean l ≡ false → accept s l ≡ Err (plain BadByte)
judged_bad s l h = ap (λ b. judge (due s.todo) s b (tokens l)) h

-- one line, by its bytes and by what the draft made of it

pub bad_line : (T : Type 0) (l : List ℕ) (n : ℕ) (g : Fault) (old new : Draft) → clean l ≡ false → g ≡ fault_at (state_of old) n (plain BadByte) → LineTaken (accept (state_of old) l) n {T = T} (Err g) old new
bad_line T l n g old new h e = subst (λ q. LineTaken q n {T = T} (Err g) old new) (sym (judged_bad (state_of old) l h)) e

pub clean_line : {T : Type 0} (r : Result T Fault) (l : List ℕ) (n : ℕ) (old new : Draft) → clean l ≡ true → LineTaken (judge (due (state_of old).todo) (state_of old) true (tokens l)) n r old new → LineTaken (accept (state_of old) l) n r old new
clean_line r l n old new h t = subst (λ q. LineTaken q n r old new) (sym (judged_clean (state_of old) l h)) t

-- the same answer, by another name of the judgement and the line
pub on_line : {T : Type 0} (r : Result T Fault) (q p : Result Item LineFault) (n m : ℕ) (old new : Draft) → p ≡ q → n ≡ m → LineTaken q n r old new → LineTaken p m r old new
on_line r q p n m old new e f h = subst (λ x. LineTaken x m r old new) (sym e) (subst (λ k. LineTaken q k r old new) f h)

-- what a line's answer says
pub line_ok : {T : Type 0} (q : Result Item LineFault) (n : ℕ) (x : T) (old new : Draft) → LineTaken q n (Ok x) old new → (it : Item) × (q ≡ Ok it) × (state_of new ≡ advance (state_of old) it) × (items_in new ≡ items_in old ++ it ∷ []) × Sound new
line_ok (Ok it) n x old new h = (it, refl, h.0, h.1, h.2)
line_ok (Err r) n x old new h = absurd h

pub line_err : (T : Type 0) (q : Result Item LineFault) (n : ℕ) (g : Fault) (old new : Draft) → LineTaken q n {T = T} (Err g) old new → (f : LineFault) × (q ≡ Err f) × (g ≡ fault_at (state_of old) n f)
line_err T (Ok it) n g old new h = absurd h
line_err T (Err r) n g old new h = (r, refl, h)

pub answered_result : {T : Type 0} (q : Result (List Item) Fault) (r : Result T Fault) (g : Fault) (its jts : List Item) → r ≡ Err g → Answered q {T = T} (Err g) its jts → Answered q r its jts
answered_result q r g its jts e h = subst (λ x. Answered q x its jts) (sym e) h

pub shorter : (a b c : List (List ℕ)) (l : List ℕ) → a ≡ l ∷ b → c ≡ b → length c < length a
shorter a b c l e f = let x = ap length e in let y = ap length f in omega arith

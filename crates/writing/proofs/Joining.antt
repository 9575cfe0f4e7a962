-- Putting more to a text. Assumes nothing.
use Rattle.std.proofs.Common.{◌≡◌, ℕ, zero, suc, ◌+◌, ◌-◌, ◌≤◌, min, Bool, true, cond, leb, List, [], ◌∷◌, ◌++◌, length, take, sym, refl, ap, ◌∙◌, append_assoc, arith}
use Rattle.std.specs.List.{flat_map}
use Rattle.std.proofs.Math.Seq.{take-append-add}
use Rattle.std.proofs.lemmas.Bool.{le-leb}
use Rattle.std.proofs.lemmas.List.{length-take, take_min, take_all, append-nil}
use Rattle.tables.specs.declared.Table.{Table}
use Rattle.tables.specs.Items.{entries}
use Rattle.nestformat.specs.Limits.{text_limit}
use Rattle.writing.specs.declared.TextOut.{TextOut}
use Rattle.writing.specs.Texts.{joined}
use Rattle.writing.specs.Buffers.{held}

take_front : (n : ℕ) (x c : List ℕ) → take n (take n x ++ c) ≡ take n (x ++ c)
take_front zero x c = refl
take_front (suc n) [] c = refl
take_front (suc n) (b ∷ x) c = ap (λ l. b ∷ l) (take_front n x c)

-- one after the other is both at once
pub joined_twice : (a b c : List ℕ) → joined (joined a b) c ≡ joined a (b ++ c)
unfolding joined
joined_twice a b c = take_front text_limit (a ++ b) c ∙ ap (take text_limit) (append_assoc a b c)

-- within the limit nothing is left out
pub joined_whole : (a b : List ℕ) → length (a ++ b) ≤ text_limit → joined a b ≡ a ++ b
unfolding joined
joined_whole a b h = take_all text_limit (a ++ b) h

pub entries_few : {T : Type 0} {N : ℕ} (t : Table T N) → length (entries t) ≤ N
entries_few t = omega (arith, length-take t.len t.items, t.few)

pub joined_none : (o : TextOut) → joined (held o) [] ≡ held o
unfolding joined
joined_none o = ap (take text_limit) (append-nil (held o)) ∙ take_all text_limit (held o) (entries_few o.bytes)

module _ (n count : ℕ) (old more new : List ℕ) (r : Bool) where
  pub put_takes : length old ≤ n → count ≡ min (n - length old) (length more) → r ≡ leb (length old + length (take count more)) n → new ≡ cond r (old ++ take count more) old → new ≡ take n (old ++ more)
  put_takes few e v h =
      let t : take count more ≡ take (n - length old) more = ap (λ k. take k more) e ∙ take_min (n - length old) more in
      let l : length (take count more) ≤ n - length old = omega (arith, length-take count more) in
      let yes : r ≡ true = v ∙ le-leb (length old + length (take count more)) n (omega arith) in
      let s : length old + (n - length old) ≡ n = omega arith in
      h ∙ ap (λ b. cond b (old ++ take count more) old) yes
      ∙ ap (λ w. old ++ w) t ∙ sym (take-append-add old more (n - length old)) ∙ ap (λ k. take k (old ++ more)) s

-- part after part
abbrev pub joined_all : List ℕ → List (List ℕ) → List ℕ
joined_all o [] = o
joined_all o (p ∷ ps) = joined_all (joined o p) ps

pub all_at_once : (ps : List (List ℕ)) (o p : List ℕ) → joined_all (joined o p) ps ≡ joined o (p ++ flat_map (λ x. x) ps)
all_at_once [] o p = ap (joined o) (sym (append-nil p))
all_at_once (q ∷ ps) o p = all_at_once ps (joined o p) q ∙ joined_twice o p (q ++ flat_map (λ x. x) ps)

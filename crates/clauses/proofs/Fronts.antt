-- A book's counts, and what is left of its invariant when it grows or is cut. Assumes nothing.
use Rattle.std.proofs.Common.{◌≡◌, ℕ, zero, suc, ◌+◌, ◌<◌, ◌≤◌, Bool, true, false, cond, eqb, ltb, leb, List, [], ◌∷◌, ◌++◌, length, get_or, take, ℤ, is_some, Some, None, sym, refl, ap, ◌∙◌, arith, length-append, take_all}
use lib.ListN.{length-map}
use Rattle.std.proofs.lemmas.List.{map-append, drop_at}
use Rattle.std.proofs.lemmas.Bool.{true≢false, and_from, and_parts, eqb-true, le-leb, leb-true, lt-ltb, ltb-true, cond-true}
use Rattle.std.proofs.lemmas.Bool.Decides.{nat_tests}
use Rattle.refusals.specs.declared.Refusal.{Refusal}
use Rattle.refusals.specs.declared.Refusal.TheVariants.{LiteralOutOfRange, ClauseTableFull, LiteralTableFull}
use Rattle.tables.specs.Items.{entries}
use Rattle.tables.proofs.Fronts.{entries_fit}
use Rattle.assignments.specs.Literals.{in_range, all_in_range}
use Rattle.clauses.specs.declared.stretch.Stretch.{Stretch}
use Rattle.clauses.specs.declared.book.ClauseBook.{ClauseBook}
use Rattle.clauses.specs.Stretches.{part, parts, laid}
use Rattle.clauses.specs.Books.{clauses_of}
use Rattle.clauses.specs.Adding.{literal_count, refusal_of_adding, is_front}
use Rattle.clauses.specs.Limits.{clause_limit, literal_limit}
use Rattle.clauses.proofs.Laying.{no_stretch, laid_lens, laid_push, parts_count, parts_more, lens, lies_within, starts_at, front_count}

pub clause_count : (b : ClauseBook) → length (clauses_of b) ≡ length (entries b.stretches)
clause_count b = length-map (entries b.stretches) (part (entries b.literals))

pub all_literals : (b : ClauseBook) → literal_count (clauses_of b) ≡ length (entries b.literals)
all_literals b =
    let ls = entries b.literals in
    let ss = entries b.stretches in
    parts_count 0 ss (length ls) ls b.whole (omega arith) ∙ (let z = laid_lens 0 ss (length ls) b.whole in omega arith)

pub ranged_append : (n : ℕ) (ls more : List ℤ) → all_in_range n ls ≡ true → all_in_range n more ≡ true → all_in_range n (ls ++ more) ≡ true
ranged_append n [] more a b = b
ranged_append n (l ∷ ls) more a b =
    let p = and_parts (in_range n l) (all_in_range n ls) a in
    and_from (in_range n l) _ p.0 (ranged_append n ls more p.1 b)

pub ranged_take : (n : ℕ) (ls : List ℤ) (k : ℕ) → all_in_range n ls ≡ true → all_in_range n (take k ls) ≡ true
ranged_take n ls zero a = refl
ranged_take n [] (suc k) a = refl
ranged_take n (l ∷ ls) (suc k) a =
    let p = and_parts (in_range n l) (all_in_range n ls) a in
    and_from (in_range n l) _ p.0 (ranged_take n ls k p.1)

-- one clause more at the end of both tables
pub parts_push : (ls : List ℤ) (ss : List Stretch) (c : List ℤ) → laid 0 ss (length ls) ≡ true → parts (ls ++ c) (ss ++ record { start = length ls; len = length c } ∷ []) ≡ parts ls ss ++ c ∷ []
parts_push ls ss c h =
    let new : Stretch = record { start = length ls; len = length c } in
    let last : part (ls ++ c) new ≡ c = ap (take (length c)) (drop_at ls c (length ls) refl) ∙ take_all (length c) c (omega arith) in
    map-append (part (ls ++ c)) ss (new ∷ [])
    ∙ ap (λ xs. xs ++ part (ls ++ c) new ∷ []) (parts_more 0 ss ls c h)
    ∙ ap (λ x. parts ls ss ++ x ∷ []) last

-- a stretch lies within the literals, which are few
pub within : (b : ClauseBook) (ls : List ℤ) (ss : List Stretch) → ls ≡ entries b.literals → ss ≡ entries b.stretches → (k : ℕ) → k < length ss → ((get_or ss k no_stretch).start + (get_or ss k no_stretch).len ≤ length ls) × (length ls ≤ literal_limit)
within b ls ss e f k h =
    let fit = entries_fit b.literals in
    let whole : laid 0 ss (length ls) ≡ true = rw (e, f) b.whole in
    (lies_within 0 ss (length ls) k whole h, omega (arith, ap length e))

-- a clause that meets no refusal
no_refusal : (x y z : Bool) (a b c : Refusal) → cond x (cond y (cond z None (Some a)) (Some b)) (Some c) ≡ None → (x ≡ true) × (y ≡ true) × (z ≡ true)
no_refusal true true true a b c e = (refl, refl, refl)
no_refusal true true false a b c e = absurd (true≢false (ap is_some e))
no_refusal true false z a b c e = absurd (true≢false (ap is_some e))
no_refusal false y z a b c e = absurd (true≢false (ap is_some e))

pub accepted : (n : ℕ) (cs : List (List ℤ)) (c : List ℤ) → refusal_of_adding n cs c ≡ None → (all_in_range n c ≡ true) × (length cs < clause_limit) × (literal_count cs + length c ≤ literal_limit)
accepted n cs c e =
    let r = no_refusal (all_in_range n c) (ltb (length cs) clause_limit) (leb (literal_count cs + length c) literal_limit) LiteralTableFull ClauseTableFull LiteralOutOfRange e in
    (r.0, ltb-true _ _ r.1, leb-true _ _ r.2)

-- the counts of a front
module _ (ls : List ℤ) (ss : List Stretch) (whole : laid 0 ss (length ls) ≡ true) (k m : ℕ) where
  count : literal_count (take k (parts ls ss)) ≡ lens (take k ss)
  count = front_count ss ls whole k

  pub front_within : k < length ss → eqb (get_or ss k no_stretch).start m ≡ is_front (parts ls ss) k m
  front_within h =
      let a = starts_at 0 ss (length ls) k whole h in
      let n = length-map ss (part ls) in
      let e = count in
      grind (arith, nat_tests)

  pub front_lens : true ≡ is_front (parts ls ss) k m → m ≡ lens (take k ss)
  front_lens e = eqb-true _ _ (and_parts (leb k (length (parts ls ss))) (eqb m (literal_count (take k (parts ls ss)))) (sym e)).1 ∙ count

-- both tables after a clause that is accepted, as the calls on them tell it; x is where its stretch starts
module _ (b : ClauseBook) (c : List ℤ) (free : refusal_of_adding b.atoms (clauses_of b) c ≡ None) where
  abbrev pub new_stretch : Stretch
  new_stretch = record { start = length (entries b.literals); len = length c }

  pub literals_grow : (r : Bool) (ls : List ℤ) → r ≡ leb (length (entries b.literals) + length c) literal_limit → ls ≡ cond r (entries b.literals ++ c) (entries b.literals) → ls ≡ entries b.literals ++ c
  literals_grow r ls t e =
      let n = all_literals b in
      let f = (accepted b.atoms (clauses_of b) c free).2 in
      e ∙ cond-true r _ _ (t ∙ le-leb _ _ (omega arith))

  pub stretches_grow : (r : Bool) (x : ℕ) (ss : List Stretch) → r ≡ ltb (length (entries b.stretches)) clause_limit → x ≡ length (entries b.literals) → ss ≡ cond r (entries b.stretches ++ record { start = x; len = length c } ∷ []) (entries b.stretches) → ss ≡ entries b.stretches ++ new_stretch ∷ []
  stretches_grow r x ss t s e =
      let n = clause_count b in
      let f = (accepted b.atoms (clauses_of b) c free).1 in
      e ∙ cond-true r _ _ (t ∙ lt-ltb _ _ (omega arith)) ∙ ap (λ y. entries b.stretches ++ record { start = y; len = length c } ∷ []) s

  module _ (ls : List ℤ) (ss : List Stretch) (e : ls ≡ entries b.literals ++ c) (f : ss ≡ entries b.stretches ++ new_stretch ∷ []) where
    pub still_ranged : all_in_range b.atoms ls ≡ true
    still_ranged = rw e (ranged_append b.atoms (entries b.literals) c b.ranged (accepted b.atoms (clauses_of b) c free).0)

    pub still_whole : laid 0 ss (length ls) ≡ true
    still_whole = rw f (laid_push 0 (entries b.stretches) (length (entries b.literals)) (length ls) new_stretch b.whole refl (ap length e ∙ length-append (entries b.literals) c))

    pub one_more : parts ls ss ≡ clauses_of b ++ c ∷ []
    one_more = ap (λ l. parts l ss) e ∙ ap (parts (entries b.literals ++ c)) f ∙ parts_push (entries b.literals) (entries b.stretches) c b.whole

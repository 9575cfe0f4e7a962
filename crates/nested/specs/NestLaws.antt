-- What binds a nest's meaning, by the laws of the veto below: when some completion passes, and that a nest is a veto.
-- Assumes nothing but the laws that are passed.
use Rattle.std.specs.Prelude.{◌≡◌, ℕ, zero, suc, ◌-◌, ◌<◌, ◌≤◌, min, Bool, true, false, not, ◌&&◌, List, [], ◌∷◌, ◌++◌, length, take, get_or, Option, Some, None, nat_lt, nat_le, Decides, refl}
use Rattle.std.specs.List.{list_all}
use Rattle.std.proofs.Common.{sym, ap, ◌∙◌, ⊎_elim, append_assoc, arith, le_of_suc-le-suc, not-suc-le-zero}
use Rattle.std.proofs.lemmas.List.{append-nil, length-map, length-take, get_or-map, get_or-take}
use Rattle.std.proofs.lemmas.List.Recursion.{and_at, and_from_places}
use Rattle.std.proofs.lemmas.Bool.{cases_lt, ltb-true, leb-true, lt-ltb, and_parts, and_from, or_cases, or_left, or_right, not-true, not_from_false, false_from_ne_true}
use Rattle.assignments.specs.Assignments.{at, atom, Part, Complete}
use Rattle.assignments.specs.Limits.{atom_limit}
use Rattle.assignments.specs.Literals.{all_met}
use Rattle.assignments.proofs.ByteLaws.{at_past, bit}
use Rattle.assignments.proofs.ClauseLaws.{all_met_stays}
use Rattle.vetoes.specs.Meaning.{Meaning, Lawful, silent}
use Rattle.vetoes.proofs.Highest.{atom_near}
use Rattle.nested.specs.declared.shape.Shape.{Shape}
use Rattle.nested.specs.Nests.{Plan, is_atom, highest_mapped, seen, is_known, some_completion, passes, stalls, nest, nest_means, Stalls}
use Rattle.nested.specs.Plans.{plan_in, plan_of}

-- values joined to others

pub at_append : (xs bs : List ℕ) (i : ℕ) → i < length xs → at (xs ++ bs) i ≡ at xs i
at_append [] bs i h = absurd (not-suc-le-zero h)
at_append (x ∷ xs) bs zero h = refl
at_append (x ∷ xs) bs (suc i) h = at_append xs bs i (le_of_suc-le-suc h)

pub at_append_past : (xs bs : List ℕ) (i : ℕ) → length xs ≤ i → at (xs ++ bs) i ≡ at bs (i - length xs)
at_append_past [] bs i h = ap (at bs) (omega arith)
at_append_past (x ∷ xs) bs zero h = absurd (omega arith)
at_append_past (x ∷ xs) bs (suc i) h = at_append_past xs bs i (omega arith) ∙ ap (at bs) (omega arith)

-- where two agree below n, and as long, so they do with the same joined
pub agree_append : (xs ys bs : List ℕ) (n : ℕ) → length xs ≡ length ys → ((i : ℕ) → i < n → i < length xs → at xs i ≡ at ys i) → (i : ℕ) → i < n → at (xs ++ bs) i ≡ at (ys ++ bs) i
agree_append xs ys bs n e same i h = ⊎_elim
    (λ (w : i < length xs). at_append xs bs i w ∙ same i h w ∙ sym (at_append ys bs i (omega arith)))
    (λ (w : length xs ≤ i). at_append_past xs bs i w ∙ ap (λ k. at bs (i - k)) e ∙ sym (at_append_past ys bs i (omega arith)))
    (cases_lt i (length xs))

pub part_append : (xs ys bs : List ℕ) → length xs ≡ length ys → Part xs ys → Part (xs ++ bs) (ys ++ bs)
part_append xs ys bs e part = record {
  keeps = λ i k. ⊎_elim
      (λ (h : i < length xs). let a = at_append xs bs i h in let b = at_append ys bs i (omega arith) in let c = part.keeps i (omega arith) in omega arith)
      (λ (h : length xs ≤ i). at_append_past ys bs i (omega arith) ∙ ap (λ n. at bs (i - n)) (sym e) ∙ sym (at_append_past xs bs i h))
      (cases_lt i (length xs));
}

-- what passes at some completion

pub some_has : (k : ℕ) (xs bs : List ℕ) (t : List ℕ → Bool) → Complete k bs → t (xs ++ bs) ≡ true → some_completion k xs t ≡ true
some_has zero xs [] t b e = ap t (sym (append-nil xs)) ∙ e
some_has zero xs (x ∷ bs) t b e = let l = b.long in absurd (omega arith)
some_has (suc k) xs [] t b e = let l = b.long in absurd (omega arith)
some_has (suc k) xs (x ∷ bs) t b e =
    let l = b.long in
    let low : min x 2 < 2 = b.known 0 (omega arith) in
    let rest : Complete k bs = record { long = omega arith; known = λ i h. b.known (suc i) (omega arith) } in
    ⊎_elim
    (λ (z : x ≡ 0). or_left _ _ (some_has k (xs ++ 0 ∷ []) bs t rest (ap t (append_assoc xs (0 ∷ []) bs ∙ ap (λ y. xs ++ (y ∷ bs)) (sym z)) ∙ e)))
    (λ (z : x ≡ 1). or_right _ _ (some_has k (xs ++ 1 ∷ []) bs t rest (ap t (append_assoc xs (1 ∷ []) bs ∙ ap (λ y. xs ++ (y ∷ bs)) (sym z)) ∙ e)))
    (bit x (omega arith))

more_complete : (k b : ℕ) (bs : List ℕ) → b < 2 → Complete k bs → Complete (suc k) (b ∷ bs)
more_complete k b bs h c = record { long = ap suc c.long; known = known }
  where
    known : (i : ℕ) → i < suc k → at (b ∷ bs) i < 2
    known zero w = omega arith
    known (suc i) w = c.known i (le_of_suc-le-suc w)

pub some_is : (k : ℕ) (xs : List ℕ) (t : List ℕ → Bool) → some_completion k xs t ≡ true → (bs : List ℕ) × Complete k bs × (t (xs ++ bs) ≡ true)
some_is zero xs t e = ([], record { long = refl; known = λ i h. absurd (not-suc-le-zero h) }, ap t (append-nil xs) ∙ e)
some_is (suc k) xs t e = ⊎_elim
    (λ z. let r = some_is k (xs ++ 0 ∷ []) t z in (0 ∷ r.0, more_complete k 0 r.0 (omega arith) r.1, ap t (sym (append_assoc xs (0 ∷ []) r.0)) ∙ r.2))
    (λ z. let r = some_is k (xs ++ 1 ∷ []) t z in (1 ∷ r.0, more_complete k 1 r.0 (omega arith) r.1, ap t (sym (append_assoc xs (1 ∷ []) r.0)) ∙ r.2))
    (or_cases (some_completion k (xs ++ 0 ∷ []) t) (some_completion k (xs ++ 1 ∷ []) t) e)

-- the seen values

pub atom_two : (p : List ℕ) (a : ℕ) → min (atom p a) 2 ≡ atom p a
atom_two p zero = refl
atom_two p (suc i) = omega arith

pub at_seen : (m p : List ℕ) (i : ℕ) → i < length m → at (seen m p) i ≡ atom p (get_or m i 0)
at_seen m p i h = ap (λ x. min x 2) (get_or-map (atom p) m i 0 2 h) ∙ atom_two p (get_or m i 0)

pub seen_near : (m p q : List ℕ) (n : ℕ) → highest_mapped m ≤ n → ((i : ℕ) → i < n → at p i ≡ at q i) → seen m p ≡ seen m q
seen_near [] p q n h same = refl
seen_near (a ∷ m) p q n h same =
    ap (λ x. x ∷ seen m p) (atom_near p q n a same (omega arith)) ∙ ap (λ xs. atom q a ∷ xs) (seen_near m p q n (omega arith) same)

atom_part : (p q : List ℕ) (a : ℕ) → Part p q → atom p a < 2 → atom q a ≡ atom p a
atom_part p q zero part k = absurd (omega arith)
atom_part p q (suc i) part k = part.keeps i k

pub part_seen : (m p q : List ℕ) → Part p q → Part (seen m p) (seen m q)
part_seen m p q part = record {
  keeps = λ i k. ⊎_elim
      (λ (h : i < length m). let a = at_seen m p i h in let b = at_seen m q i h in let c = atom_part p q (get_or m i 0) part (omega arith) in omega arith)
      (λ (h : length m ≤ i). let l = length-map m (atom p) in let a = at_past (seen m p) i (omega arith) in absurd (omega arith))
      (cases_lt i (length m));
}

pub highest_within : (m : List ℕ) → list_all is_atom m ≡ true → highest_mapped m ≤ atom_limit
highest_within [] e = omega arith
highest_within (a ∷ m) e =
    let parts = and_parts (is_atom a) (list_all is_atom m) e in
    let high = leb-true a atom_limit (and_parts (nat_lt 0 a) (nat_le a atom_limit) parts.0).1 in
    let rest = highest_within m parts.1 in
    omega arith

-- the first r are known

pub front_known : (r : ℕ) (xs : List ℕ) → list_all is_known (take r xs) ≡ true → (i : ℕ) → i < r → i < length xs → at xs i < 2
front_known r xs e i h w =
    let l = length-take r xs in
    let k = ltb-true _ _ (and_at (list_all is_known) is_known refl (λ _ _. refl) (take r xs) i 2 (omega arith) e) in
    let s = get_or-take r xs i 2 h in
    omega arith

pub front_is : (r : ℕ) (xs : List ℕ) → ((i : ℕ) → i < r → i < length xs → at xs i < 2) → list_all is_known (take r xs) ≡ true
front_is r xs f = and_from_places (list_all is_known) is_known refl (λ _ _. refl) (take r xs) 2 (λ i h.
    let l = length-take r xs in
    let w : i < r = omega arith in
    let s = get_or-take r xs i 2 w in
    let k : at xs i < 2 = f i w (omega arith) in
    lt-ltb _ _ (omega arith))

-- the test and the relation agree

module _ (f : Plan) (b : Meaning) (p : List ℕ) where
  pub stalls_is : stalls f b p ≡ true → Stalls f b p
  stalls_is e =
      let xs = seen f.map p in
      let parts = and_parts (list_all is_known (take b.reach xs)) (some_completion f.own xs (passes f.clauses b)) e in
      let found = some_is f.own xs (passes f.clauses b) parts.1 in
      let q = xs ++ found.0 in
      let ways = and_parts (all_met q f.clauses) (not (b.speaks q)) found.2 in
      let l = length-map f.map (atom p) in
      record {
        known = λ i h w. front_known b.reach xs parts.0 i h (omega arith);
        own = found.0;
        complete = found.1;
        meets = ways.0;
        silent = not-true (b.speaks q) ways.1;
      }

  pub stalls_has : Stalls f b p → stalls f b p ≡ true
  stalls_has s =
      let xs = seen f.map p in
      let q = xs ++ s.own in
      let l = length-map f.map (atom p) in
      and_from (list_all is_known (take b.reach xs)) (some_completion f.own xs (passes f.clauses b))
      (front_is b.reach xs (λ i h w. s.known i h (omega arith)))
      (some_has f.own xs s.own (passes f.clauses b) s.complete (and_from (all_met q f.clauses) (not (b.speaks q)) s.meets (not_from_false (b.speaks q) s.silent)))

  pub stalls_decides : Decides (stalls f b p) (Stalls f b p)
  stalls_decides = (stalls_is, stalls_has)

  pub stalls_not : (Stalls f b p → ⊥) → stalls f b p ≡ false
  stalls_not none = false_from_ne_true (stalls f b p) (λ e. none (stalls_is e))

-- a nest is a veto where the one below is

module _ (f : Plan) (b : Meaning) (laws : Lawful b) where
  pub stalls_grows : (p q : List ℕ) → Part p q → Stalls f b p → Stalls f b q
  stalls_grows p q part s =
      let xs = seen f.map p in
      let ys = seen f.map q in
      let inner = part_seen f.map p q part in
      let lx = length-map f.map (atom p) in
      let ly = length-map f.map (atom q) in
      let long : length xs ≡ length ys = lx ∙ sym ly in
      record {
        known = λ i h w. let k = s.known i h w in let e = inner.keeps i k in omega arith;
        own = s.own;
        complete = s.complete;
        meets = all_met_stays (xs ++ s.own) (ys ++ s.own) f.clauses (part_append xs ys s.own long inner) s.meets;
        silent = laws.near (ys ++ s.own) (xs ++ s.own) (λ i h. sym (agree_append xs ys s.own b.reach long (λ j w v. sym (inner.keeps j (s.known j w (omega arith)))) i h)) ∙ s.silent;
      }

  pub plan_lawful : list_all is_atom f.map ≡ true → Lawful (nest f b)
  plan_lawful mapped = record {
    few = highest_within f.map mapped;
    near = λ p q same. ap (λ xs. list_all is_known (take b.reach xs) && some_completion f.own xs (passes f.clauses b)) (seen_near f.map p q (highest_mapped f.map) (omega arith) same);
    grows = λ p q part e. stalls_has f b q (stalls_grows p q part (stalls_is f b p e));
  }

silent_lawful : Lawful silent
silent_lawful = record { few = omega arith; near = λ p q same. refl; grows = λ p q part e. e }

pub nest_lawful : (o : Option Shape) (b : Meaning) → Lawful b → Lawful (nest_means (plan_of o) b)
nest_lawful None b laws = silent_lawful
nest_lawful (Some s) b laws = plan_lawful (plan_in s) b laws s.mapped

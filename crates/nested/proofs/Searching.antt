-- What a search over a nest's own numbering tells of the nest. Assumes nothing.
use Rattle.std.proofs.Common.{◌≡◌, ℕ, zero, suc, ◌+◌, ◌-◌, ◌<◌, ◌≤◌, min, true, false, ◌&&◌, List, [], ◌∷◌, ◌++◌, length, get_or, set, take, drop, replicate, not-suc-le-zero, length-set, ℤ, sym, refl, ap, ◌∙◌, ⊎_elim, length-append, length-drop, arith}
use Rattle.std.specs.List.{list_all}
use Rattle.std.proofs.lemmas.List.{length-map, length-take-le, length-replicate, length-take, get_or-take, get_or-drop, take-map, take_min}
use Rattle.std.proofs.lemmas.Bool.{cases_lt, cases_eq, and_left}
use Rattle.assignments.specs.Assignments.{at, atom, Complete}
use Rattle.assignments.specs.Limits.{atom_limit}
use Rattle.assignments.specs.Literals.{all_met}
use Rattle.assignments.proofs.ByteLaws.{at_past, at_set_same, at_set_other}
use Rattle.assignments.proofs.ClauseLaws.{all_met_stays}
use Rattle.vetoes.specs.Meaning.{Meaning, Lawful}
use Rattle.search.specs.Completions.{Allowed, Completes, Least, Reasoned}
use Rattle.search.proofs.Reasons.{excludes}
use Rattle.tables.specs.Items.{entries}
use Rattle.clauses.specs.Books.{atoms_of, clauses_of}
use Rattle.nested.specs.declared.shape.Shape.{Shape}
use Rattle.nested.specs.Plans.{plan_in}
use Rattle.nested.specs.Nests.{Plan, seen, is_known, stalls, Stalls}
use Rattle.nested.specs.Completing.{Begins, Completed}
use Rattle.nested.specs.NestLaws.{atom_two, at_seen, at_append, at_append_past, front_known, stalls_has, stalls_not}

pub at_take : (n : ℕ) (c : List ℕ) (i : ℕ) → i < n → at (take n c) i ≡ at c i
at_take n c i h = ap (λ x. min x 2) (get_or-take n c i 2 h)

-- what lies past the first n is unknown
pub begins_front : (xs c : List ℕ) (n : ℕ) → length xs ≤ n → Begins xs c → Begins xs (take n c)
begins_front xs c n h b = record {
  front = λ i w. at_take n c i (omega arith) ∙ b.front i w;
  free = λ i w. ⊎_elim
      (λ (k : i < n). at_take n c i k ∙ b.free i w)
      (λ (k : n ≤ i). at_past (take n c) i (let l = length-take n c in omega arith))
      (cases_lt i n);
}

-- the seen atoms that the veto below looks at, as a part of the map
pub front_of : (r k : ℕ) (m p : List ℕ) → k ≡ min r (length m) → list_all is_known (seen (take k m) p) ≡ list_all is_known (take r (seen m p))
front_of r k m p e =
    let s = take-map (atom p) k m in
    let l = length-map m (atom p) in
    let n : k ≡ min r (length (seen m p)) = omega arith in
    ap (list_all is_known) (sym s ∙ ap (λ j. take j (seen m p)) n ∙ take_min r (seen m p))

pub front_unknown : (f : Plan) (b : Meaning) (p : List ℕ) → list_all is_known (take b.reach (seen f.map p)) ≡ false → stalls f b p ≡ false
front_unknown f b p e = and_left _ _ e

-- what meets a list of clauses does so wherever it has the same values
pub met_same : (q r : List ℕ) (cs : List (List ℤ)) → ((i : ℕ) → at r i ≡ at q i) → all_met q cs ≡ true → all_met r cs ≡ true
met_same q r cs same h = all_met_stays q r cs (record { keeps = λ i k. same i }) h

-- the values that q gives to the own atoms
abbrev pub own_part : Plan → List ℕ → List ℕ
own_part f q = take f.own (drop (length f.map) q)

-- q completes the seen values at p
module _ (f : Plan) (b : Meaning) (laws : Lawful b) (p q : List ℕ) (made : Completed f b (seen f.map p) q) where
  size : length (seen f.map p) ≡ length f.map
  size = length-map f.map (atom p)

  own_at : (i : ℕ) → i < f.own → at (own_part f q) i ≡ at q (length f.map + i)
  own_at i h = at_take f.own (drop (length f.map) q) i h ∙ ap (λ x. min x 2) (get_or-drop (length f.map) q i 2)

  pub own_complete : Complete f.own (own_part f q)
  own_complete = record {
    long = let a = length-take f.own (drop (length f.map) q) in let d = length-drop (length f.map) q in let l = made.long in let s = size in omega arith;
    known = λ i h. let e = own_at i h in let s = size in let k = made.own (length f.map + i) (omega arith) (omega arith) in omega arith;
  }

  -- values of the seen atoms that agree with q at a place agree there after q's own values are joined
  pub like : (ys : List ℕ) → length ys ≡ length f.map → (i : ℕ) → (i < length f.map → at ys i ≡ at q i) → at (ys ++ own_part f q) i ≡ at q i
  like ys e i same = ⊎_elim
      (λ (h : i < length f.map). at_append ys (own_part f q) i (omega arith) ∙ same h)
      (λ (h : length f.map ≤ i). at_append_past ys (own_part f q) i (omega arith) ∙ ⊎_elim
      (λ (w : i - length ys < f.own). own_at (i - length ys) w ∙ ap (at q) (omega arith))
      (λ (w : f.own ≤ i - length ys). let l = own_complete.long in at_past (own_part f q) (i - length ys) (omega arith) ∙ sym (made.past i (let s = size in omega arith)))
      (cases_lt (i - length ys) f.own))
      (cases_lt i (length f.map))

  -- where what the veto below looks at is known and as in q, and the clauses are met, the nest speaks
  pub stalls_by : (r : List ℕ) → ((i : ℕ) → i < b.reach → i < length f.map → at (seen f.map r) i < 2) → ((i : ℕ) → i < b.reach → i < length f.map → at (seen f.map r) i ≡ at q i) → all_met (seen f.map r ++ own_part f q) f.clauses ≡ true → Stalls f b r
  stalls_by r known same met = record {
    known = known;
    own = own_part f q;
    complete = own_complete;
    meets = met;
    silent = laws.near (seen f.map r ++ own_part f q) q (λ i h. like (seen f.map r) (length-map f.map (atom r)) i (same i h)) ∙ made.silent;
  }

  -- above all, it does at p
  pub completed_stalls : list_all is_known (take b.reach (seen f.map p)) ≡ true → stalls f b p ≡ true
  completed_stalls front = stalls_has f b p (stalls_by p
      (λ i h w. let s = size in front_known b.reach (seen f.map p) front i h (omega arith))
      (λ i h w. let s = size in sym (made.front i (omega arith)))
      (met_same q (seen f.map p ++ own_part f q) f.clauses (λ i. like (seen f.map p) size i (λ w. let s = size in sym (made.front i (omega arith)))) made.meets))

-- a search that starts from the seen values alone
module _ (f : Plan) (b : Meaning) (p c : List ℕ) (long : length c ≡ length f.map + f.own) (start : Begins (seen f.map p) c) where
  wide : length (seen f.map p) ≡ length f.map
  wide = length-map f.map (atom p)

  -- what it finds completes them, also with unknown atoms behind it
  pub found_completed : (laws : Lawful b) (q r : List ℕ) → Least (Allowed f.clauses b.speaks) (length f.map) c q → length q ≤ length r → ((i : ℕ) → at r i ≡ at q i) → Completed f b (seen f.map p) r
  found_completed laws q r least more same = record {
    long = let l = least.completes.extends.long in let s = wide in omega arith;
    front = λ i h. same i ∙ least.completes.extends.fixed i (let s = wide in omega arith) ∙ start.front i h;
    own = λ i h w. let e = same i in let s = wide in let k = least.completes.filled i (omega arith) (omega arith) in omega arith;
    past = λ i h. same i ∙ at_past q i (let l = least.completes.extends.long in let s = wide in omega arith);
    meets = met_same q r f.clauses same least.fits.meets;
    silent = laws.near r q (λ i h. same i) ∙ least.fits.silent;
  }

  -- where it finds nothing, the nest is silent
  pub nothing_silent : (t : List ℕ) → Reasoned (Allowed f.clauses b.speaks) (length f.map) c t → stalls f b p ≡ false
  nothing_silent t none = stalls_not f b p (λ s. excludes _ (length f.map) c t none (seen f.map p ++ s.own) (completes s) (record { meets = s.meets; silent = s.silent }))
    where
      fixed : (bs : List ℕ) (i : ℕ) → i < length f.map → at (seen f.map p ++ bs) i ≡ at c i
      fixed bs i h = let s = wide in at_append (seen f.map p) bs i (omega arith) ∙ sym (start.front i (omega arith))

      completes : (s : Stalls f b p) → Completes (length f.map) c (seen f.map p ++ s.own)
      completes s = record {
        extends = record {
          long = let a = length-append (seen f.map p) s.own in let w = wide in let l = s.complete.long in omega arith;
          fixed = fixed s.own;
          keeps = λ i k. ⊎_elim
              (λ (h : i < length f.map). fixed s.own i h)
              (λ (h : length f.map ≤ i). let w = wide in let e = start.free i (omega arith) in absurd (omega arith))
              (cases_lt i (length f.map));
        };
        filled = λ i h w.
            let l = wide in
            let a = at_append_past (seen f.map p) s.own i (omega arith) in
            let k = s.complete.known (i - length (seen f.map p)) (omega arith) in
            omega arith;
      }

-- what is asked of each mapped atom is asked of each seen value
pub all_seen : (m p : List ℕ) → list_all (λ a. is_known (atom p a)) m ≡ list_all is_known (seen m p)
all_seen [] p = refl
all_seen (a ∷ m) p = ap (λ x. is_known (atom p a) && x) (all_seen m p)

-- a walk over the map: c has the values of the first n mapped atoms, and knows nothing else
pub record FrontSeen (m p : List ℕ) (n : ℕ) (c : List ℕ) : Type 0 where
  pub long : length c ≡ atom_limit
  pub front : (i : ℕ) → i < n → at c i ≡ atom p (get_or m i 0)
  pub free : (i : ℕ) → n ≤ i → at c i ≡ 2

at_unknown : (n i : ℕ) → at (replicate n 2) i ≡ 2
at_unknown zero i = refl
at_unknown (suc n) zero = refl
at_unknown (suc n) (suc i) = at_unknown n i

pub none_seen : (m p : List ℕ) → FrontSeen m p 0 (replicate 200 2)
none_seen m p = record { long = length-replicate {A = ℕ} 200 2; front = λ i h. absurd (not-suc-le-zero h); free = λ i h. at_unknown 200 i }

module _ (m p : List ℕ) (n : ℕ) (c : List ℕ) where
  pub one_seen : (v : ℕ) → n < atom_limit → v ≡ atom p (get_or m n 0) → FrontSeen m p n c → FrontSeen m p (n + 1) (set c n v)
  one_seen v few e so = record {
    long = length-set c n v ∙ so.long;
    front = λ i h. ⊎_elim
        (λ (s : i ≡ n).
        let l = so.long in
        let a = at_set_same c n v (omega arith) in
        rw s (a ∙ ap (λ x. min x 2) e ∙ atom_two p (get_or m n 0)))
        (λ (s : i ≡ n → ⊥). at_set_other c n i v s ∙ so.front i (omega arith))
        (cases_eq i n);
    free = λ i h. at_set_other c n i v (λ s. omega arith) ∙ so.free i (omega arith);
  }

  pub all_front_seen : length m ≤ n → n ≤ length m → FrontSeen m p n c → Begins (seen m p) c
  all_front_seen h w so = record {
    front = λ i k. let l = length-map m (atom p) in so.front i (omega arith) ∙ sym (at_seen m p i (omega arith));
    free = λ i k. let l = length-map m (atom p) in so.free i (omega arith);
  }

-- bytes that are unknown change nothing
pub at_behind : (q rest : List ℕ) → ((i : ℕ) → at rest i ≡ 2) → (i : ℕ) → at (q ++ rest) i ≡ at q i
at_behind q rest none i = ⊎_elim
    (λ (h : i < length q). at_append q rest i h)
    (λ (h : length q ≤ i). at_append_past q rest i h ∙ none (i - length q) ∙ sym (at_past q i h))
    (cases_lt i (length q))

-- the same for what a nest holds: n bytes of an array are the nest's own numbering
module _ (s : Shape) (b : Meaning) (p values : List ℕ) (n : ℕ) (size : n ≡ atoms_of s.book) (long : length values ≡ atom_limit) (begins : Begins (seen (entries s.map) p) values) where
  within : length (seen (entries s.map) p) ≤ n
  within = let l = length-map (entries s.map) (atom p) in let h = s.seen in omega arith

  start_long : length (take n values) ≡ length (entries s.map) + (atoms_of s.book - length (entries s.map))
  start_long = let few = s.book.few in let h = s.seen in let l = length-take-le n values (omega arith) in omega arith

  pub shape_found : Lawful b → (q : List ℕ) → Least (Allowed (clauses_of s.book) b.speaks) (length (entries s.map)) (take n values) q → Completed (plan_in s) b (seen (entries s.map) p) (q ++ drop n values)
  shape_found laws q least = found_completed (plan_in s) b p (take n values) start_long (begins_front (seen (entries s.map) p) values n within begins) laws q (q ++ drop n values) least
      (let a = length-append q (drop n values) in omega arith)
      (at_behind q (drop n values) (λ i. ap (λ x. min x 2) (get_or-drop n values i 2) ∙ begins.free (n + i) (let w = within in omega arith)))

  pub shape_nothing : (t : List ℕ) → Reasoned (Allowed (clauses_of s.book) b.speaks) (length (entries s.map)) (take n values) t → stalls (plan_in s) b p ≡ false
  shape_nothing t none = nothing_silent (plan_in s) b p (take n values) start_long (begins_front (seen (entries s.map) p) values n within begins) t none

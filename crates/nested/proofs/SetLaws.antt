-- What nests leave, as sets of assignments. Assumes nothing.
use Rattle.std.proofs.Common.{◌≡◌, ℕ, zero, suc, ◌+◌, ◌-◌, ◌<◌, ◌≤◌, Bool, true, false, ◌⊎◌, Option, Some, None, IfSome, List, [], ◌∷◌, ◌++◌, length, get_or, take, cond, nat_le, Result, Ok, Err, IfOk, Decides, sym, refl, ap, ◌∙◌, subst, inl, inr, ⊎_elim, length-append, arith, not-suc-le-zero}
use Rattle.std.specs.List.{list_all}
use Rattle.std.proofs.lemmas.List.{append-nil, length-map, length-take-le, get_or-take, get_or_push, get_or_append_left, ext_get_or, nil_from_length}
use Rattle.std.proofs.lemmas.List.Recursion.{and_from_places, max_push}
use Rattle.refusals.specs.declared.Refusal.TheVariants.{CountOutOfRange, ReachOutOfRange, LiteralOutOfRange}
use Rattle.std.proofs.lemmas.Bool.{lt-ltb, le-leb, lt-leb, leb-true, and_from, cond-true, cond-false, cases_Bool, cases_eq, cases_lt, or_from, or_parts, both_ways}
use Rattle.assignments.specs.Assignments.{at, atom, Complete}
use Rattle.assignments.specs.Limits.{atom_limit}
use Rattle.assignments.proofs.ByteLaws.{same_values}
use Rattle.vetoes.specs.Meaning.{Meaning, either}
use Rattle.vetoes.specs.Solutions.{Solution}
use Rattle.vetoes.proofs.Highest.{highest_over}
use Rattle.nested.specs.Nests.{Plan, is_atom, highest_mapped, seen, nest, nest_means, stalls, Stalls}
use Rattle.nested.specs.NestLaws.{at_append, at_append_past, at_seen, stalls_is, stalls_has, stalls_decides}
use Rattle.nested.specs.Sets.{Complement, Union, Projection, ProjectedBy, Inner, NestLaw, BeginsCommon, Excluded, first_atoms, over_first, refusal_of_atoms}
use Rattle.nested.specs.declared.shape.Shape.{Shape}
use Rattle.nested.specs.Plans.{plan_in, plan_of}
use Rattle.nested.specs.Shaping.{shaped, refusal_of_shaping}
use Rattle.nested.proofs.Reasoning.{mapped_positive}

-- a complete assignment's parts, and what two make
pub complete_parts : (n k : ℕ) (xs bs : List ℕ) → length xs ≡ n → Complete (n + k) (xs ++ bs) → Complete n xs × Complete k bs
complete_parts n k xs bs e c = (
  record { long = e; known = λ i h. let a = at_append xs bs i (omega arith) in let b = c.known i (omega arith) in omega arith },
  record {
    long = let a = length-append xs bs in let l = c.long in omega arith;
    known = λ i h.
        let a = at_append_past xs bs (n + i) (omega arith) in
        let b = c.known (n + i) (omega arith) in
        let s : at bs (n + i - length xs) ≡ at bs i = ap (at bs) (omega arith) in
        omega arith;
  },
)

pub complete_append : (n k : ℕ) (xs bs : List ℕ) → Complete n xs → Complete k bs → Complete (n + k) (xs ++ bs)
complete_append n k xs bs x b = record {
  long = let a = length-append xs bs in let l = x.long in let m = b.long in omega arith;
  known = λ i h. let l = x.long in ⊎_elim
      (λ (w : i < length xs). let a = at_append xs bs i w in let c = x.known i (omega arith) in omega arith)
      (λ (w : length xs ≤ i). let a = at_append_past xs bs i w in let c = b.known (i - length xs) (omega arith) in omega arith)
      (cases_lt i (length xs));
}

-- where every mapped atom has a value, every seen one has
atom_known : (p : List ℕ) (n a : ℕ) → Complete n p → 1 ≤ a → a ≤ n → atom p a < 2
atom_known p n zero c low high = absurd (omega arith)
atom_known p n (suc i) c low high = c.known i (omega arith)

pub seen_complete : (m p : List ℕ) (n : ℕ) → list_all is_atom m ≡ true → highest_mapped m ≤ n → Complete n p → Complete (length m) (seen m p)
seen_complete m p n mapped wide c = record {
  long = length-map m (atom p);
  known = λ i h.
      let a = at_seen m p i h in
      let top = highest_over (λ x. x) m i 0 h in
      let k = atom_known p n (get_or m i 0) c (mapped_positive m i mapped h) (omega arith) in
      omega arith;
}

module _ (f : Plan) (b : Meaning) (mapped : list_all is_atom f.map ≡ true) where
  -- a stall over known seen values is a projected assignment
  stall_inner : (n : ℕ) (p : List ℕ) → highest_mapped f.map ≤ n → Complete n p → Stalls f b p → ProjectedBy f.map n (Inner f b) p
  stall_inner n p wide c s = record {
    complete = c;
    rest = s.own;
    inside = record { complete = complete_append (length f.map) f.own (seen f.map p) s.own (seen_complete f.map p n mapped wide c) s.complete; allowed = record { meets = s.meets; silent = s.silent } };
  }

  inner_stall : (n : ℕ) (p : List ℕ) → ProjectedBy f.map n (Inner f b) p → Stalls f b p
  inner_stall n p a =
      let parts = complete_parts (length f.map) f.own (seen f.map p) a.rest (length-map f.map (atom p)) a.inside.complete in
      record { known = λ i h w. parts.0.known i w; own = a.rest; complete = parts.1; meets = a.inside.allowed.meets; silent = a.inside.allowed.silent }

  pub nest_leaves : (n : ℕ) → highest_mapped f.map ≤ n → Complement n (Solution (nest f b) n) (ProjectedBy f.map n (Inner f b))
  nest_leaves n wide = record {
    complete = λ p s. s.complete;
    apart = λ p s a. both_ways (stalls f b p) s.silent (stalls_has f b p (inner_stall n p a));
    either = λ p c. ⊎_elim
        (λ (e : stalls f b p ≡ true). inr (stall_inner n p wide c (stalls_is f b p e)))
        (λ (e : stalls f b p ≡ false). inl (record { complete = c; silent = e }))
        (cases_Bool (stalls f b p));
  }

  pub nest_law : NestLaw f b
  nest_law = record { decides = stalls_decides f b; leaves = nest_leaves }

-- the same for what a nest holds
pub shape_law : (s : Shape) (b : Meaning) → NestLaw (plan_in s) b
shape_law s b = nest_law (plan_in s) b s.mapped

pub option_law : (o : Option Shape) (b : Meaning) → IfSome (plan_of o) (λ f. NestLaw f b)
option_law None b = tt
option_law (Some s) b = shape_law s b

-- every atom of the host seen under its own number

pub first_long : (n : ℕ) → length (first_atoms n) ≡ n
first_long zero = refl
first_long (suc n) = let l = length-append (first_atoms n) (suc n ∷ []) in let r = first_long n in omega arith

pub first_at : (n i : ℕ) → i < n → get_or (first_atoms n) i 0 ≡ suc i
first_at zero i h = absurd (not-suc-le-zero h)
first_at (suc n) i h = ⊎_elim
    (λ (s : i ≡ n). rw s (get_or_push (first_atoms n) (suc n) 0 n (first_long n)))
    (λ (s : i ≡ n → ⊥). let l = first_long n in get_or_append_left (first_atoms n) (suc n ∷ []) 0 i (omega arith) ∙ first_at n i (omega arith))
    (cases_eq i n)

-- a list of the atoms there can be begins with the first n
pub first_taken : (xs : List ℕ) → ((i : ℕ) → i < atom_limit → get_or xs i 0 ≡ suc i) → length xs ≡ atom_limit → (n : ℕ) → n ≤ atom_limit → take n xs ≡ first_atoms n
first_taken xs each long n h =
    let l = length-take-le n xs (omega arith) in
    let m = first_long n in
    ext_get_or 0 (take n xs) (first_atoms n) (omega arith) (λ i w.
    let k : i < n = omega arith in
    get_or-take n xs i 0 k ∙ each i (omega arith) ∙ sym (first_at n i k))

pub first_mapped : (n : ℕ) → n ≤ atom_limit → list_all is_atom (first_atoms n) ≡ true
first_mapped n h = and_from_places (list_all is_atom) is_atom refl (λ _ _. refl) (first_atoms n) 0 (λ i w.
    let l = first_long n in
    let k : i < n = omega arith in
    subst (λ a. is_atom a ≡ true) (sym (first_at n i k)) (and_from _ _ (lt-ltb 0 (suc i) (omega arith)) (le-leb (suc i) atom_limit (omega arith))))

pub first_highest : (n : ℕ) → highest_mapped (first_atoms n) ≡ n
first_highest zero = refl
first_highest (suc n) = let e = max_push highest_mapped (λ a. a) refl (λ _ _. refl) (first_atoms n) (suc n) in let r = first_highest n in omega arith

-- what the first n atoms are refused for

if_alike : {X : Type 0} (c : Bool) (x y z : X) → (c ≡ true → x ≡ y) → cond c x z ≡ cond c y z
if_alike true x y z f = f refl
if_alike false x y z f = refl

pub first_refusal : (r n k : ℕ) → refusal_of_shaping r (first_atoms n) k ≡ refusal_of_atoms r (n + k)
first_refusal r n k =
    ap (λ x. cond (nat_le x atom_limit) (cond (nat_le r x) (cond (list_all is_atom (first_atoms n)) None (Some LiteralOutOfRange)) (Some ReachOutOfRange)) (Some CountOutOfRange)) (ap (λ x. x + k) (first_long n))
    ∙ if_alike (nat_le (n + k) atom_limit) _ _ (Some CountOutOfRange) (λ few.
    let h = leb-true (n + k) atom_limit few in
    ap (λ x. cond (nat_le r (n + k)) x (Some ReachOutOfRange)) (cond-true (list_all is_atom (first_atoms n)) None (Some LiteralOutOfRange) (first_mapped n (omega arith))))

pub too_many : (r n k : ℕ) → atom_limit < n → refusal_of_shaping r (first_atoms n) k ≡ Some CountOutOfRange
too_many r n k h = cond-false (nat_le (length (first_atoms n) + k) atom_limit) _ (Some CountOutOfRange) (lt-leb _ _ (let l = first_long n in omega arith))

-- where these are not refused, n atoms are not for a nest that sees them
pub within_refusal : (r n k : ℕ) → None ≡ refusal_of_shaping r (first_atoms n) k → refusal_of_atoms n n ≡ refusal_of_atoms r (n + k)
within_refusal r n k e = ⊎_elim
    (λ (w : n + k ≤ atom_limit).
    cond-true (nat_le n atom_limit) _ (Some CountOutOfRange) (le-leb n atom_limit (omega arith))
    ∙ cond-true (nat_le n n) None (Some ReachOutOfRange) (le-leb n n (omega arith))
    ∙ e ∙ first_refusal r n k)
    (λ (w : atom_limit < n + k).
    let z : refusal_of_atoms r (n + k) ≡ Some CountOutOfRange = cond-false (nat_le (n + k) atom_limit) _ (Some CountOutOfRange) (lt-leb (n + k) atom_limit w) in
    let f = e ∙ first_refusal r n k ∙ z in
    absurd (cc))
    (swap (cases_lt atom_limit (n + k)))
  where
    swap : {A B : Type 0} → A ⊎ B → B ⊎ A
    swap x = ⊎_elim inr inl x

-- their values are the assignment itself
pub seen_first : (n : ℕ) (p : List ℕ) → Complete n p → seen (first_atoms n) p ≡ p
seen_first n p c = same_values n (seen (first_atoms n) p) p
    (record {
      long = length-map (first_atoms n) (atom p) ∙ first_long n;
      known = λ i h. let e = value i h in let k = c.known i h in omega arith;
    })
    c value
  where
    value : (i : ℕ) → i < n → at (seen (first_atoms n) p) i ≡ at p i
    value i h = at_seen (first_atoms n) p i (let l = first_long n in omega arith) ∙ ap (atom p) (first_at n i h)

module _ (n k : ℕ) (b : Meaning) (p : List ℕ) where
  pub first_begins : ProjectedBy (first_atoms n) n (Inner (shaped (first_atoms n) k) b) p → (t : List ℕ) × Solution b (n + k) (p ++ t)
  first_begins a =
      let e : seen (first_atoms n) p ++ a.rest ≡ p ++ a.rest = ap (λ x. x ++ a.rest) (seen_first n p a.complete) in
      let s : length (first_atoms n) + k ≡ n + k = ap (λ x. x + k) (first_long n) in (
        a.rest,
        record {
          complete = subst (λ x. Complete x (p ++ a.rest)) s (subst (Complete (length (first_atoms n) + k)) e a.inside.complete);
          silent = subst (λ q. b.speaks q ≡ false) e a.inside.allowed.silent;
        },
      )

  pub first_whole : (t : List ℕ) → Complete n p → Solution b (n + k) (p ++ t) → ProjectedBy (first_atoms n) n (Inner (shaped (first_atoms n) k) b) p
  first_whole t c a =
      let e : p ++ t ≡ seen (first_atoms n) p ++ t = ap (λ x. x ++ t) (sym (seen_first n p c)) in
      let s : n + k ≡ length (first_atoms n) + k = ap (λ x. x + k) (sym (first_long n)) in
      record {
        complete = c;
        rest = t;
        inside = record {
          complete = subst (λ x. Complete x (seen (first_atoms n) p ++ t)) s (subst (Complete (n + k)) e a.complete);
          allowed = record { meets = refl; silent = subst (λ q. b.speaks q ≡ false) e a.silent };
        };
      }

-- what a nest over the first atoms leaves
first_leaves : (n k : ℕ) (b : Meaning) → list_all is_atom (first_atoms n) ≡ true → Complement n (Solution (nest (shaped (first_atoms n) k) b) n) (ProjectedBy (first_atoms n) n (Inner (shaped (first_atoms n) k) b))
first_leaves n k b mapped = nest_leaves (shaped (first_atoms n) k) b mapped n (let h = first_highest n in omega arith)

first_complement : (n : ℕ) (b : Meaning) → list_all is_atom (first_atoms n) ≡ true → Complement n (Solution (nest (shaped (first_atoms n) 0) b) n) (Solution b n)
first_complement n b mapped = record {
  complete = λ p s. s.complete;
  apart = λ p s a. base.apart p s (first_whole n 0 b p [] a.complete (subst (λ q. Solution b (n + 0) q) (sym (append-nil p)) (subst (λ x. Solution b x p) none a)));
  either = λ p c. ⊎_elim inl (λ a. inr (whole p c (first_begins n 0 b p a))) (base.either p c);
}
  where
    base : Complement n (Solution (nest (shaped (first_atoms n) 0) b) n) (ProjectedBy (first_atoms n) n (Inner (shaped (first_atoms n) 0) b))
    base = first_leaves n 0 b mapped

    none : n ≡ n + 0
    none = omega arith

    whole : (p : List ℕ) → Complete n p → (t : List ℕ) × Solution b (n + 0) (p ++ t) → Solution b n p
    whole p c a =
        let parts = complete_parts n 0 p a.0 c.long a.1.complete in
        let e : p ++ a.0 ≡ p = ap (λ t. p ++ t) (nil_from_length a.0 parts.1.long) ∙ append-nil p in
        record { complete = c; silent = subst (λ q. b.speaks q ≡ false) e a.1.silent }

pub plan_mapped : (o : Option Shape) (f : Plan) → plan_of o ≡ Some f → list_all is_atom f.map ≡ true
plan_mapped None f e = absurd (cc)
plan_mapped (Some s) f e = let same : plan_in s ≡ f = cc in subst (λ g. list_all is_atom g.map ≡ true) same s.mapped

-- the same for what a call answered
module _ (o : Option Shape) (n : ℕ) (b b' : Meaning) (below : b' ≡ b) where
  pub complement_of : plan_of o ≡ Some (shaped (first_atoms n) 0) → Complement n (Solution (nest_means (plan_of o) b') n) (Solution b n)
  complement_of e = rw (e, below) (first_complement n b (plan_mapped o (shaped (first_atoms n) 0) e))

  pub leaves_of : (k : ℕ) → plan_of o ≡ Some (shaped (first_atoms n) k) → Complement n (Solution (nest_means (plan_of o) b') n) (ProjectedBy (first_atoms n) n (Inner (shaped (first_atoms n) k) b))
  leaves_of k e = rw (e, below) (first_leaves n k b (plan_mapped o (shaped (first_atoms n) k) e))

  pub means_of : (k : ℕ) → plan_of o ≡ Some (shaped (first_atoms n) k) → nest_means (plan_of o) b' ≡ over_first n k b
  means_of k e = rw (e, below) refl

  pub reach_of : (k : ℕ) → plan_of o ≡ Some (shaped (first_atoms n) k) → (nest_means (plan_of o) b').reach ≡ n
  reach_of k e = rw e (first_highest n)

-- complements put together
pub union_of : (n : ℕ) (a b a' b' s : Meaning) → Complement n (Solution a' n) (Solution a n) → Complement n (Solution b' n) (Solution b n) → Complement n (Solution s n) (Solution (either a' b') n) → Union (Solution s n) (Solution a n) (Solution b n)
union_of n a b a' b' s left right outer = record {
  either = λ p x. ⊎_elim
      (λ (l : Solution a' n p). ⊎_elim
      (λ (r : Solution b' n p). absurd (outer.apart p x (record { complete = l.complete; silent = or_from (a'.speaks p) (b'.speaks p) l.silent r.silent })))
      inr (right.either p x.complete))
      inl (left.either p x.complete);
  left = λ p x. ⊎_elim (λ y. y)
      (λ (y : Solution (either a' b') n p). absurd (left.apart p (record { complete = x.complete; silent = (or_parts (a'.speaks p) (b'.speaks p) y.silent).0 }) x))
      (outer.either p x.complete);
  right = λ p x. ⊎_elim (λ y. y)
      (λ (y : Solution (either a' b') n p). absurd (right.apart p (record { complete = x.complete; silent = (or_parts (a'.speaks p) (b'.speaks p) y.silent).1 }) x))
      (outer.either p x.complete);
}

pub projection_of : (n k : ℕ) (b inner outer : Meaning) → Complement n (Solution inner n) (ProjectedBy (first_atoms n) n (Inner (shaped (first_atoms n) k) b)) → Complement n (Solution outer n) (Solution inner n) → Projection n (Solution outer n) (Solution b (n + k))
projection_of n k b inner outer below above = record {
  complete = λ p s. s.complete;
  begins = λ p s. ⊎_elim (λ i. absurd (above.apart p s i)) (first_begins n k b p) (below.either p s.complete);
  whole = λ p t c a. ⊎_elim (λ s. s) (λ i. absurd (below.apart p i (first_whole n k b p t c a))) (above.either p c);
}

-- where a nest over the first atoms speaks, all of these are known
first_known : (n k : ℕ) (b : Meaning) (p : List ℕ) → length p ≡ n → n ≤ b.reach → stalls (shaped (first_atoms n) k) b p ≡ true → Complete n p
first_known n k b p long wide e = record {
  long = long;
  known = λ i h.
      let l = first_long n in
      let w : i < length (first_atoms n) = omega arith in
      let s = (stalls_is (shaped (first_atoms n) k) b p e).known i (omega arith) w in
      let v = at_seen (first_atoms n) p i w ∙ ap (atom p) (first_at n i h) in
      omega arith;
}

-- what a projection of a pair tells of an assignment
module _ (k : ℕ) (a b s : Meaning) (p : List ℕ) (shadow : Projection (length p) (Solution s (length p)) (Solution (either a b) (length p + k))) where
  pub excluded : s ≡ over_first (length p) 0 (over_first (length p) k (either a b)) → s.speaks p ≡ true → Decides true (Excluded a b k p)
  excluded means e = (λ _. record { complete = whole; none = none }, λ _. refl)
    where
      whole : Complete (length p) p
      whole = first_known (length p) 0 (over_first (length p) k (either a b)) p refl (let h = first_highest (length p) in omega arith) (subst (λ (m : Meaning). m.speaks p ≡ true) means e)

      none : BeginsCommon a b (length p + k) p → ⊥
      none x = both_ways (s.speaks p) (shadow.whole p x.rest whole (record { complete = x.left.complete; silent = or_from (a.speaks (p ++ x.rest)) (b.speaks (p ++ x.rest)) x.left.silent x.right.silent })).silent e

  pub excluded_not : s.speaks p ≡ false → Decides false (Excluded a b k p)
  excluded_not e = (λ z. absurd (both_ways false refl z), λ x. absurd (x.none (both (shadow.begins p (record { complete = x.complete; silent = e })))))
    where
      both : (t : List ℕ) × Solution (either a b) (length p + k) (p ++ t) → BeginsCommon a b (length p + k) p
      both x =
          let parts = or_parts (a.speaks (p ++ x.0)) (b.speaks (p ++ x.0)) x.1.silent in
          record { rest = x.0; left = record { complete = x.1.complete; silent = parts.0 }; right = record { complete = x.1.complete; silent = parts.1 } }

-- two facts of what was answered
pub ok_both : {X E : Type 0} (r : Result X E) (P Q R : X → Type 0) → ((x : X) → P x → Q x → R x) → IfOk r P → IfOk r Q → IfOk r R
ok_both (Ok x) P Q R f a b = f x a b
ok_both (Err e) P Q R f a b = tt

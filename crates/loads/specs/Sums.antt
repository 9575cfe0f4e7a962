-- Totals of rows, from the laws of a load kind. Assumes nothing but the laws that are passed.
use Rattle.std.specs.Prelude.{◌≡◌, ℕ, zero, suc, ◌+◌, ◌-◌, ◌<◌, ◌≤◌, Bool, true, false, cond, leb, ◌⊎◌, List, [], ◌∷◌, ◌++◌, length, get_or, take, drop, nat_eq, nat_le, slice_index, slice_index_or, slice_set, refl}
use Rattle.std.proofs.Common.{sym, ap, subst, ◌∙◌, inl, inr, ⊎_elim, append_assoc, arith, take_all}
use Rattle.std.proofs.lemmas.List.{take_more, take-append-drop, append-nil, get_or_default}
use Rattle.std.proofs.lemmas.Bool.{both_ways, cases_Bool, cases_eq, cond-true, cond-false, eq-eqb, eqb-true, leb-true}
use Rattle.assignments.specs.Assignments.{at, atom, Part}
use Rattle.assignments.specs.Limits.{atom_limit}
use Rattle.vetoes.specs.Counted.{highest_of, live}
use Rattle.vetoes.specs.Marks.{Marks, marked}
use Rattle.vetoes.specs.Meaning.{Lawful}
use Rattle.vetoes.specs.Verdicts.{ticked}
use Rattle.vetoes.proofs.Highest.{highest_few, highest_over, atom_near}
use Rattle.vetoes.proofs.Marking.{atom_grows, atom_positive, ticked_atom, ticked_part, marks_atom, marked_is, marked_there, marked_grows}
use Rattle.loads.specs.declared.row.Row.{Row}
use Rattle.loads.specs.Rows.{counted_row, total, exceeds, later, load_means}

module _ {L : Type 0} where
  abbrev on : List ℕ → Row L → Bool
  on p r = live counted_row p r

  counted_few : (r : Row L) → counted_row r ≤ atom_limit
  counted_few r = ⊎_elim
      (λ (t : leb r.atom atom_limit ≡ true).
      let c = cond-true (nat_le r.atom atom_limit) r.atom 0 t in
      let h = leb-true _ _ t in
      omega arith)
      (λ (t : leb r.atom atom_limit ≡ false). let c = cond-false (nat_le r.atom atom_limit) r.atom 0 t in omega arith)
      (cases_Bool (nat_le r.atom atom_limit))

  -- a row that is on has an atom in range, which is true
  pub record IsOn (p : List ℕ) (r : Row L) : Type 0 where
    pub low : 1 ≤ r.atom
    pub high : r.atom ≤ atom_limit
    pub true_there : atom p r.atom ≡ 1
    pub counts : counted_row r ≡ r.atom

  pub is_on : (p : List ℕ) (r : Row L) → on p r ≡ true → IsOn p r
  is_on p r e = ⊎_elim
      (λ (t : leb r.atom atom_limit ≡ true).
      let c : counted_row r ≡ r.atom = cond-true (nat_le r.atom atom_limit) r.atom 0 t in
      let h : atom p r.atom ≡ 1 = subst (λ a. atom p a ≡ 1) c (eqb-true _ _ e) in
      record { low = atom_positive p r.atom h; high = leb-true _ _ t; true_there = h; counts = c })
      (λ (t : leb r.atom atom_limit ≡ false).
      let c : counted_row r ≡ 0 = cond-false (nat_le r.atom atom_limit) r.atom 0 t in
      let h : atom p 0 ≡ 1 = subst (λ a. atom p a ≡ 1) c (eqb-true _ _ e) in
      absurd (omega arith))
      (cases_Bool (nat_le r.atom atom_limit))

  pub on_grows : (p q : List ℕ) (r : Row L) → Part p q → on p r ≡ true → on q r ≡ true
  on_grows p q r part e = eq-eqb _ _ (atom_grows p q (counted_row r) part (eqb-true _ _ e))

  on_near : (p q : List ℕ) (r : Row L) (n : ℕ) → ((i : ℕ) → i < n → at p i ≡ at q i) → counted_row r ≤ n → on p r ≡ on q r
  on_near p q r n same h = ap (λ v. nat_eq v 1) (atom_near p q n (counted_row r) same h)

  -- among the ticked atoms a row is on as it was, if its atom is ticked where it is on
  pub on_ticked : (p t : List ℕ) (r : Row L) → (on p r ≡ true → slice_index t (r.atom - 1) ≡ 1) → on p r ≡ on (ticked p t) r
  on_ticked p t r h = ⊎_elim
      (λ (e : on p r ≡ true).
      let i = is_on p r e in
      e ∙ sym (eq-eqb _ _ (subst (λ a. atom (ticked p t) a ≡ 1) (sym i.counts) (ticked_atom p t r.atom i.true_there (h e)))))
      (λ (e : on p r ≡ false). ⊎_elim
      (λ (f : on (ticked p t) r ≡ true). absurd (both_ways _ e (on_grows (ticked p t) p r (ticked_part p t) f)))
      (λ (f : on (ticked p t) r ≡ false). e ∙ sym f)
      (cases_Bool (on (ticked p t) r)))
      (cases_Bool (on p r))

  -- the atoms of the first n rows that are on are marked
  abbrev pub Marked : (p t : List ℕ) → List (Row L) → ℕ → Type 0
  Marked p t rs n = (k : ℕ) (d : Row L) → k < n → k < length rs → on p (slice_index_or rs k d) ≡ true → slice_index t ((get_or rs k d).atom - 1) ≡ 1

  read_row : (rs : List (Row L)) (i : ℕ) (r d : Row L) → i < length rs → r ≡ slice_index_or rs i r → slice_index_or rs i d ≡ r
  read_row rs i r d h read = get_or_default rs i d r h ∙ sym read

  module _ (p t : List ℕ) (rs : List (Row L)) (i : ℕ) (r : Row L) (h : i < length rs) (read : r ≡ slice_index_or rs i r) (so : Marked p t rs i) where
    pub marked_skip : on p r ≡ false → Marked p t rs (i + 1)
    marked_skip off k d w v e = ⊎_elim
        (λ (s : k ≡ i). absurd (both_ways _ off (subst (λ x. on p x ≡ true) (read_row rs i r d h read) (subst (λ j. on p (slice_index_or rs j d) ≡ true) s e))))
        (λ (s : k ≡ i → ⊥). so k d (omega arith) v e)
        (cases_eq k i)

    -- u are the marks with the row's atom too, as q knows it
    pub marked_one : (q u : List ℕ) → IsOn p r → length t ≡ atom_limit → u ≡ marked q r.atom t → q ≡ p → Marked p u rs (i + 1)
    marked_one q u o long now of =
        let is : u ≡ marked p r.atom t = now ∙ ap (λ l. marked l r.atom t) of in
        subst (λ l. Marked p l rs (i + 1)) (sym is) (λ k d w v e. ⊎_elim
        (λ (s : k ≡ i). subst (λ x. slice_index (marked p r.atom t) (x.atom - 1) ≡ 1) (sym (ap (λ j. get_or rs j d) s ∙ read_row rs i r d h read)) (marked_there p t r.atom o.true_there o.high long))
        (λ (s : k ≡ i → ⊥). marked_grows p t r.atom ((get_or rs k d).atom - 1) (so k d (omega arith) v e))
        (cases_eq k i))

    -- the same, with the mark itself
    pub marked_set : IsOn p r → Marks p t → Marked p (slice_set t (r.atom - 1) 1) rs (i + 1)
    marked_set o m = subst (λ u. Marked p u rs (i + 1)) (marked_is p t r.atom o.true_there) (marked_one p (marked p r.atom t) o m.long refl refl)

  pub marks_on : (p t : List ℕ) (r : Row L) → IsOn p r → Marks p t → Marks p (slice_set t (r.atom - 1) 1)
  marks_on p t r o m = marks_atom p t r.atom o.high o.true_there m

  -- the rows after the first, as the code cuts them
  pub later_is : (rs : List (Row L)) → take (length rs - 1) (drop 1 rs) ≡ later rs
  later_is [] = refl
  later_is (r ∷ rs) = take_all (length (r ∷ rs) - 1) rs (omega arith)

module _ {L : Type 0} (empty : L) (join : L → L → L) (assoc : (x y z : L) → join (join x y) z ≡ join x (join y z)) (comm : (x y : L) → join x y ≡ join y x) where
  onto : (k m : Bool) (x t r u : L) → u ≡ cond k (join t r) t → cond m (join x u) u ≡ cond k (join (cond m (join x t) t) r) (cond m (join x t) t)
  onto true true x t r u e = ap (join x) e ∙ sym (assoc x t r)
  onto true false x t r u e = e
  onto false true x t r u e = ap (join x) e
  onto false false x t r u e = e

  -- one row more at the end
  pub total_push : (p : List ℕ) (rs : List (Row L)) (r : Row L) → total empty join p (rs ++ r ∷ []) ≡ cond (on p r) (join (total empty join p rs) r.load) (total empty join p rs)
  total_push p [] r = ap (λ l. cond (on p r) l empty) (comm r.load empty)
  total_push p (x ∷ rs) r = onto (on p r) (on p x) x.load _ r.load _ (total_push p rs r)

  total_more : (p : List ℕ) (rs : List (Row L)) (i : ℕ) (r : Row L) → i < length rs → r ≡ slice_index_or rs i r → total empty join p (take (i + 1) rs) ≡ cond (on p r) (join (total empty join p (take i rs)) r.load) (total empty join p (take i rs))
  total_more p rs i r h read =
      let pushed : take (i + 1) rs ≡ take i rs ++ (r ∷ []) = take_more rs i r h ∙ ap (λ y. take i rs ++ (y ∷ [])) (sym read) in
      ap (total empty join p) pushed ∙ total_push p (take i rs) r

  -- a turn of the loop that counts its row, and one that does not
  pub counted : (p : List ℕ) (rs : List (Row L)) (i : ℕ) (r : Row L) (t u : L) → i < length rs → r ≡ slice_index_or rs i r → on p r ≡ true → t ≡ total empty join p (take i rs) → u ≡ join t r.load → u ≡ total empty join p (take (i + 1) rs)
  counted p rs i r t u h read k inv e = e ∙ ap (λ x. join x r.load) inv ∙ sym (total_more p rs i r h read ∙ cond-true _ _ _ k)

  pub skipped : (p : List ℕ) (rs : List (Row L)) (i : ℕ) (r : Row L) (t u : L) → i < length rs → r ≡ slice_index_or rs i r → on p r ≡ false → t ≡ total empty join p (take i rs) → u ≡ t → u ≡ total empty join p (take (i + 1) rs)
  skipped p rs i r t u h read k inv e = e ∙ inv ∙ sym (total_more p rs i r h read ∙ cond-false _ _ _ k)

  -- the same rows are on at q, so far
  pub total_same : (p q : List ℕ) (rs : List (Row L)) (n : ℕ) → ((k : ℕ) (d : Row L) → k < n → k < length rs → on p (slice_index_or rs k d) ≡ on q (slice_index_or rs k d)) → total empty join p (take n rs) ≡ total empty join q (take n rs)
  total_same p q rs zero same = refl
  total_same p q [] (suc n) same = refl
  total_same p q (r ∷ rs) (suc n) same =
      let rest = total_same p q rs n (λ k d h w. same (suc k) d (omega arith) (omega arith)) in
      let here : on p r ≡ on q r = same 0 r (omega arith) (omega arith) in
      ap (λ b. cond b (join r.load (total empty join p (take n rs))) (total empty join p (take n rs))) here
      ∙ ap (λ t. cond (on q r) (join r.load t) t) rest

  module _ (over : L → L → Bool) (stays : (m x y : L) → over m x ≡ true → over m (join x y) ≡ true) (m : L) where
    either_over : (b : Bool) (x y : L) → over m x ≡ true → over m (cond b (join x y) x) ≡ true
    either_over true x y h = stays m x y h
    either_over false x y h = h

    -- more rows leave it over
    over_append : (p : List ℕ) (rs more : List (Row L)) → over m (total empty join p rs) ≡ true → over m (total empty join p (rs ++ more)) ≡ true
    over_append p rs [] h = subst (λ l. over m (total empty join p l) ≡ true) (sym (append-nil rs)) h
    over_append p rs (r ∷ more) h =
        let one : over m (total empty join p (rs ++ r ∷ [])) ≡ true = subst (λ t. over m t ≡ true) (sym (total_push p rs r)) (either_over (on p r) (total empty join p rs) r.load h) in
        subst (λ l. over m (total empty join p l) ≡ true) (append_assoc rs (r ∷ []) more) (over_append p (rs ++ r ∷ []) more one)

    pub over_front : (p : List ℕ) (rs : List (Row L)) (n : ℕ) → over m (total empty join p (take n rs)) ≡ true → over m (total empty join p rs) ≡ true
    over_front p rs n h = subst (λ l. over m (total empty join p l) ≡ true) (take-append-drop n rs) (over_append p (take n rs) (drop n rs) h)

    -- u is t, or t with more joined to it
    abbrev More : L → L → Type 0
    More t u = (u ≡ t) ⊎ ((y : L) × (u ≡ join t y))

    more_both : (x t u : L) → More t u → More (join x t) (join x u)
    more_both x t u (inl e) = inl (ap (join x) e)
    more_both x t u (inr (y, e)) = inr (y, ap (join x) e ∙ sym (assoc x t y))

    more_new : (x t u : L) → More t u → More t (join x u)
    more_new x t u (inl e) = inr (x, ap (join x) e ∙ comm x t)
    more_new x t u (inr (y, e)) = inr (join y x, ap (join x) e ∙ comm x (join t y) ∙ assoc t y x)

    more_row : (a b : Bool) (x t u : L) → (a ≡ true → b ≡ true) → More t u → More (cond a (join x t) t) (cond b (join x u) u)
    more_row true true x t u h e = more_both x t u e
    more_row true false x t u h e = absurd (both_ways false refl (h refl))
    more_row false true x t u h e = more_new x t u e
    more_row false false x t u h e = e

    total_grows : (p q : List ℕ) → Part p q → (rs : List (Row L)) → More (total empty join p rs) (total empty join q rs)
    total_grows p q part [] = inl refl
    total_grows p q part (r ∷ rs) = more_row (on p r) (on q r) r.load _ _ (on_grows p q r part) (total_grows p q part rs)

    over_more : (t u : L) → More t u → over m t ≡ true → over m u ≡ true
    over_more t u (inl e) h = subst (λ x. over m x ≡ true) (sym e) h
    over_more t u (inr (y, e)) h = subst (λ x. over m x ≡ true) (sym e) (stays m t y h)

    pub over_grows : (p q : List ℕ) → Part p q → (rs : List (Row L)) → over m (total empty join p rs) ≡ true → over m (total empty join q rs) ≡ true
    over_grows p q part rs h = over_more _ _ (total_grows p q part rs) h

    pub over_near : (p q : List ℕ) (rs : List (Row L)) → ((i : ℕ) → i < highest_of counted_row rs → at p i ≡ at q i) → total empty join p rs ≡ total empty join q rs
    over_near p q rs same =
        let all : (s : List ℕ) → total empty join s (take (length rs) rs) ≡ total empty join s rs = λ s. ap (total empty join s) (take_all (length rs) rs (omega arith)) in
        sym (all p) ∙ total_same p q rs (length rs) (λ k d h w. on_near p q (slice_index_or rs k d) (highest_of counted_row rs) same (highest_over counted_row rs k d w)) ∙ all q

    -- the marks on the rows so far make it over
    pub marked_over : (p t : List ℕ) (rs : List (Row L)) (n : ℕ) → Marked p t rs n → over m (total empty join p (take n rs)) ≡ true → over m (total empty join (ticked p t) rs) ≡ true
    marked_over p t rs n marked h =
        let same = total_same p (ticked p t) rs n (λ k d w v. on_ticked p t (slice_index_or rs k d) (marked k d w v)) in
        over_front (ticked p t) rs n (subst (λ x. over m x ≡ true) same h)

  pub load_lawful : (over : L → L → Bool) → ((m x y : L) → over m x ≡ true → over m (join x y) ≡ true) → (rs : List (Row L)) → Lawful (load_means empty join over rs)
  load_lawful over stays [] = record { few = omega arith; near = λ p q same. refl; grows = λ p q part h. absurd (both_ways false refl h) }
  load_lawful over stays (r ∷ rs) = record {
    few = highest_few counted_row atom_limit counted_few rs;
    near = λ p q same. ap (over r.load) (over_near over stays r.load p q rs same);
    grows = λ p q part h. over_grows over stays r.load p q part rs h;
  }

  -- the first row and those after it, as the code has them
  pub exceeds_is : (over : L → L → Bool) (p : List ℕ) (rs : List (Row L)) (r : Row L) → 0 < length rs → r ≡ slice_index_or rs 0 r → over r.load (total empty join p (take (length rs - 1) (drop 1 rs))) ≡ exceeds empty join over rs p
  exceeds_is over p [] r h read = absurd (omega arith)
  exceeds_is over p (x ∷ rs) r h read = ap (λ y. over y.load (total empty join p (take (length (x ∷ rs) - 1) rs))) read ∙ ap (λ l. over x.load (total empty join p l)) (later_is (x ∷ rs))
